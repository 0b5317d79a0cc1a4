use Rattle.std.proofs.Common.{◌≤ℤ◌}
use Rattle.notes.specs.Notes.{area_of}
use Rattle.notes.proofs.NoteLemmas.{IsReach, IsGreatest}
use Rattle.notes.proofs.area.placed.Given as goal

abbrev pub invariant-loop-at : goal.invariant-loop-at
invariant-loop-at l = record {
  reach : IsReach l.list l.at l.reach.bottom l.reach.extent;
  greatest : IsGreatest (λ k. area_of l.list k ≤ℤ l.fn.room) l.at l.number;
}
