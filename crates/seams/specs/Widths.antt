-- The boxes that are open at a place: how wide their contents are (CSS 2.1, 10.3.3), and what of them stands again
-- where a page parts them (css-break-3, 5.4).
use Rattle.std.specs.Prelude.{◌≡◌, ℕ, suc, ◌*◌, ◌+◌, ◌^◌, ◌==◌, ℤ, pos, ◌≤ℤ◌, List, [], ◌∷◌, ◌++◌, Some, slice_get, if◌then◌else◌}
use Rattle.bk_num.specs.declared.sides.BoxSide.TheVariants as side
use Rattle.boxes.specs.Clones.{clone_edges}
use Rattle.boxes.specs.Tree.{Tree, open_before}
use Rattle.boxes.specs.declared.place.Position.{Position}
use Rattle.seams.specs.declared.open_box.OpenBox.{OpenBox}
use Rattle.seams.specs.Runs.{width_in, solid_after, run_start, run_end}
use Rattle.seams.specs.Seams.{solid_behind}

-- the innermost of some open boxes in a frame of a width: the width inside it, and the top and bottom edges that stand
-- again of it and the boxes around it. Where none is open it is the frame
abbrev pub innermost_in : Tree → ℤ → List ℕ → OpenBox
innermost_in t measure boxes = record {
  width = width_in t measure boxes;
  head = clone_edges t measure side.Top boxes;
  tail = clone_edges t measure side.Bottom boxes;
}

-- some open boxes in a frame of a width, the outermost first
abbrev pub widths_of : Tree → ℤ → List ℕ → List OpenBox
widths_of t measure [] = []
widths_of t measure (b ∷ boxes) = widths_of t measure boxes ++ innermost_in t measure (b ∷ boxes) ∷ []

-- where the run before the first solid at or after a place begins; a place inside a leaf stands for itself
abbrev pub begin_of_run : Tree → Position → ℕ
begin_of_run t at = if at.offset == 0 then run_start t (solid_behind t (solid_after t at.event)) else at.event

-- where that run ends
abbrev pub end_of_run : Tree → Position → ℕ
end_of_run t at = if at.offset == 0 then run_end t (solid_after t at.event) else at.event

-- the boxes that are open where the run before the first solid at or after a place begins
abbrev pub widths_at : Tree → ℤ → Position → List OpenBox
widths_at t measure at = widths_of t measure (open_before t.events (begin_of_run t at))

-- those that are open where that run ends
abbrev pub widths_after : Tree → ℤ → Position → List OpenBox
widths_after t measure at = widths_of t measure (open_before t.events (end_of_run t at))

-- the innermost of so many open boxes: no width and no sum is below 0, and each is at most 2^28 units more than that of
-- the box around it, the frame's width being at most 2^30
pub record IsBounded (depth : ℕ) (box : OpenBox) : Type 0 where
  pub low : pos 0 ≤ℤ box.width
  pub high : box.width ≤ℤ pos (2 ^ 30 + 2 ^ 28 * depth)
  pub head_low : pos 0 ≤ℤ box.head
  pub head_high : box.head ≤ℤ pos (2 ^ 28 * depth)
  pub tail_low : pos 0 ≤ℤ box.tail
  pub tail_high : box.tail ≤ℤ pos (2 ^ 28 * depth)

-- each of some open boxes is bounded, the outermost first
abbrev pub AreBounded : List OpenBox → Type 0
AreBounded widths = (k : ℕ) (box : OpenBox) → slice_get widths k ≡ Some box → IsBounded (suc k) box
