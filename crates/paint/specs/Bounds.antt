-- How far out solids, and what is painted of them, may stand: all their sums are within 64 bits.
use Rattle.std.specs.Prelude.{◌^◌, ◌*◌, ◌+◌, ◌≤ℤ◌, ℕ, ℤ, pos}
use Rattle.std.specs.List.{All}
use Rattle.std.specs.Option.{ForSome}
use Rattle.bk_num.specs.Numbers.{IsWithin}
use Rattle.boxes.specs.Clones.{IsRoom}
use Rattle.boxes.specs.Frames.{IsGoodFrame}
use Rattle.boxes.specs.declared.page.Page.{Page}
use Rattle.notes.specs.Near.{IsNearSolid}
use Rattle.paint.specs.Opens.{IsNear, IsWide}
use Rattle.paint.specs.declared.extent.VerticalExtent.{VerticalExtent}
use Rattle.paint.specs.declared.item.Area.{Area}
use Rattle.paint.specs.declared.item.SolidOrigin.{SolidOrigin}
use Rattle.paint.specs.declared.parts.Fragment.{Fragment}

-- solids stand in a frame from 0 to 2^30 units wide, from a left within 2^40 and from a top within 2^61
pub record IsGoodOrigin (o : SolidOrigin) : Type 0 where
  pub left : IsWithin (2 ^ 40) o.left
  pub top : IsWithin (2 ^ 61) o.top
  pub low : pos 0 ≤ℤ o.width
  pub high : o.width ≤ℤ pos (2 ^ 30)

-- from a top to a bottom within 2^61 units
pub record IsNearExtent (e : VerticalExtent) : Type 0 where
  pub top : IsWithin (2 ^ 61) e.top
  pub bottom : IsWithin (2 ^ 61) e.bottom

-- how far a box reaches by its solids: from a top within 2^60 units to a bottom within 2^60 + 2^32
pub record IsNearReach (e : VerticalExtent) : Type 0 where
  pub top : IsWithin (2 ^ 60) e.top
  pub bottom : IsWithin (2 ^ 60 + 2 ^ 32) e.bottom

-- down to where n clone boxes reach, one in another: each has at most 2^28 units of border and padding
abbrev pub IsNearBottom : ℕ → ℤ → Type 0
IsNearBottom n z = IsWithin (2 ^ 60 + 2 ^ 32 + 2 ^ 28 * n) z

-- the lower edge of the outermost of n clone boxes, one in another
pub record IsNearFoot (n : ℕ) (e : VerticalExtent) : Type 0 where
  pub top : IsNearBottom n e.top
  pub bottom : IsNearBottom n e.bottom

-- the left of an area is within 2^62 units, and its width within 2^42
pub record IsNearArea (a : Area) : Type 0 where
  pub left : IsWithin (2 ^ 62) a.x
  pub width : IsWithin (2 ^ 42) a.w

-- the content around a box is wide and near, the edges around it are room, and how far it and its edges reach is near
pub record IsNearPart (p : Fragment) : Type 0 where
  pub wide : IsWide p.around
  pub near : IsNear p.around
  pub above : IsRoom p.above
  pub inside : IsRoom p.inside
  pub reach : ForSome p.reach IsNearExtent
  pub upper : ForSome p.upper IsNearExtent
  pub lower : ForSome p.lower IsNearExtent

-- a page within bounds: its frame is a good one, and its solids are near
pub record IsBoundedPage (page : Page) : Type 0 where
  pub frame : IsGoodFrame page.frame
  pub solids : All IsNearSolid page.solids
  pub notes : All (λ note. IsNearSolid note.1) page.notes
