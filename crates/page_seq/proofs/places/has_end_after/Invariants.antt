use Rattle.std.proofs.Common.{◌≡◌, ◌<◌, ◌≤◌, ◌-◌, ℕ, false, get_or}
use Rattle.boxes.specs.declared.page.Placed.{Placed}
use Rattle.page_seq.specs.Places.{ends_after}
use Rattle.page_seq.proofs.places.has_end_after.Given as goal

abbrev pub invariant-loop-passed : goal.invariant-loop-passed
invariant-loop-passed l = (j : ℕ) (d : Placed) → l.count - l.passed ≤ j → j < l.count → ends_after l.at (get_or l.solids j d) ≡ false
