-- Walks over the solids of a tree that can be taken up at each of its places.
use Rattle.std.specs.Prelude.{◌≡◌, ◌==◌, ◌^◌, ◌≤ℤ◌, ℕ, ℤ, pos, List, Option, None, Some, length, if◌then◌else◌}
use Rattle.metrics.specs.Face.{FontFace}
use Rattle.boxes.specs.Tree.{Tree, Holds, IsTree}
use Rattle.boxes.specs.declared.place.Position.{Position}
use Rattle.seams.specs.Runs.{solid_after}
use Rattle.cursor.specs.Conditions.{CanBeLaidOut}
use Rattle.cursor.specs.Remainder.{IsRemainder, IsSolid, SolidView}

-- a walk as contracts see it: the tree, its faces, the width of the frame, and the place behind the last solid
pub record CursorView : Type 0 where
  pub tree : Tree
  pub faces : List FontFace
  pub width : ℤ
  pub at : Position

-- it stands at a place of a tree that can be laid out, in a frame of a width from 0 to 2^30
pub record CanGoOn (c : CursorView) : Type 0 where
  pub can : CanBeLaidOut c.faces c.tree
  pub holds : Holds c.tree c.at
  pub low : pos 0 ≤ℤ c.width
  pub high : c.width ≤ℤ pos (2 ^ 30)

-- the place of a solid, where it is the first one at or after another place; the tree's end where none is
abbrev pub place_by : Tree → Position → Option ℕ → Position
place_by t from None = record { event = length t.events; offset = 0 }
place_by t from (Some event) = record { event = event; offset = if event == from.event then from.offset else 0 }

-- where the first solid at or after a place stands, or the tree's end
abbrev pub next_place : Tree → Position → Position
next_place t from = place_by t from (solid_after t from.event)

-- the first solid at or after a place stands there; and from there on, in a frame of any width, the same solids stand
-- as from the place itself
pub record GoesOnAt (faces : List FontFace) (t : Tree) (width : ℤ) (from : Position) : Type 0 where
  pub there : (s : SolidView) → IsSolid faces t width from s → s.placed_at ≡ next_place t from
  pub on : (xs : List SolidView) → IsRemainder faces t width (next_place t from) xs →
      IsRemainder faces t width from xs
  pub back : (xs : List SolidView) → IsRemainder faces t width from xs →
      IsRemainder faces t width (next_place t from) xs

-- the same of all places
abbrev pub MarksGoOn : Type 0
MarksGoOn = (faces : List FontFace) (t : Tree) (width : ℤ) (from : Position) → IsTree t → Holds t from →
    GoesOnAt faces t width from
