use Rattle.std.proofs.Common.{◌≡◌, slice_get}
use Rattle.notes.specs.Notes.{area_height, placed_bottom}
use Rattle.notes.proofs.area.placed_height.Given as goal

abbrev pub invariant-loop-at : goal.invariant-loop-at
invariant-loop-at l = l.height ≡ area_height (λ k. placed_bottom (slice_get l.notes k)) l.at
