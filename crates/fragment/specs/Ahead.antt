-- The solids that are read, from page to page.
use Rattle.std.specs.Prelude.{◌≡◌, ℕ, zero, suc, ℤ, pos, ◌^◌, ◌≤ℤ◌, ◌≤◌, ◌<◌, List, [], ◌∷◌, Some, true, length, map, take, drop, slice_get}
use Rattle.std.specs.List.{All}
use Rattle.metrics.specs.Face.{FontFace}
use Rattle.boxes.specs.Steps.{IsRun}
use Rattle.boxes.specs.Tree.{Tree, Holds}
use Rattle.boxes.specs.declared.place.Position.{Position}
use Rattle.cursor.specs.Asks.{IsHeldNow}
use Rattle.cursor.specs.Fields.{solid_view}
use Rattle.cursor.specs.Remainder.{IsSmallSolid, IsSolid, SolidView}
use Rattle.cuts.specs.Rows.{is_joined}
use Rattle.cuts.specs.declared.row.SolidRow.{SolidRow}
use Rattle.line_fill.specs.declared.kept.KeptLeaf.{KeptLeaf}
use Rattle.page_list.specs.Cuts.{rows_of}
use Rattle.seams.specs.Widths.{widths_at}
use Rattle.seams.specs.declared.open_box.OpenBox.{OpenBox}
use Rattle.fragment.specs.declared.ahead.Ahead.{Ahead}
use Rattle.fragment.specs.declared.ahead.JoinedLines.{JoinedLines}

-- solids one after the other, from a place on, in a frame of a width
abbrev pub Follow : List FontFace → Tree → ℤ → Position → List SolidView → Type 0
Follow faces t width = IsRun (λ at s to. IsSolid faces t width at s × (to ≡ s.end)) (λ at. at ≡ at)

-- where the first ones of some solids end, which begin at a place
abbrev pub end_of : Position → List SolidView → ℕ → Position
end_of from solids zero = from
end_of from [] (suc count) = from
end_of from (s ∷ solids) (suc count) = end_of s.end solids count

-- a solid begins and ends at places of its tree, and where it is a line it is held as asked for in this pass
pub record IsReadSolid (t : Tree) (width : ℤ) (kept : List KeptLeaf) (s : SolidView) : Type 0 where
  pub placed : Holds t s.placed_at
  pub ends : Holds t s.end
  pub small : IsSmallSolid s
  pub held : IsHeldNow t width kept s.placed_at

-- solids that are read, from a place on, in a frame of a width
pub record AreAhead (faces : List FontFace) (t : Tree) (width : ℤ) (kept : List KeptLeaf) (from : Position)
    (solids : List SolidView) : Type 0 where
  pub follow : Follow faces t width from solids
  pub are : All (IsReadSolid t width kept) solids

-- the solids that are read from the first one of a page on
abbrev pub page_of : Ahead → List SolidView
page_of a = drop a.first (map solid_view a.solids.items)

-- the first ones of these
abbrev pub page_views : Ahead → ℕ → List SolidView
page_views a count = take count (page_of a)

-- some of the rows are known to be of lines that go on with their leaf
pub record AreJoinedWithin (joined : JoinedLines) (rows : List SolidRow) : Type 0 where
  pub within : joined.to ≤ length rows
  pub are : (k : ℕ) (r : SolidRow) → joined.from ≤ k → k < joined.to → slice_get rows k ≡ Some r → is_joined r ≡ true

-- those that are read from the place on where a page begins, in a frame of a width, each with its row
pub record IsPageAhead (faces : List FontFace) (t : Tree) (width : ℤ) (kept : List KeptLeaf) (from : Position)
    (a : Ahead) : Type 0 where
  pub wide : a.width ≡ width
  pub within : a.first ≤ length a.solids.items
  pub are : AreAhead faces t width kept from (page_of a)
  pub rows : a.rows.items ≡ rows_of t (map solid_view a.solids.items)
  pub joined : AreJoinedWithin a.joined a.rows.items

-- a page is read on behind all that is read of it, in a frame of a width from 0 to 2^30 units, with the widths there
pub record CanReadOn (faces : List FontFace) (t : Tree) (kept : List KeptLeaf) (from : Position)
    (widths : List OpenBox) (a : Ahead) : Type 0 where
  pub low : pos 0 ≤ℤ a.width
  pub high : a.width ≤ℤ pos (2 ^ 30)
  pub are : IsPageAhead faces t a.width kept from a
  pub widths_is : widths ≡ widths_at t a.width (end_of from (page_of a) (length (page_of a)))

-- those that are read for some page
abbrev pub IsAhead : List FontFace → Tree → List KeptLeaf → Ahead → Type 0
IsAhead faces t kept a = (from : Position) × IsPageAhead faces t a.width kept from a
