use Rattle.std.proofs.Common.{◌≡◌, ℕ, ◌<◌, ◌≤◌, length, ℤ, pos, ◌≤ℤ◌, List, get_or}
use Rattle.total_fit.specs.declared.plan.Stop.{Stop}
use Rattle.total_fit.specs.Lines.{reach_of, stop_of}
use Rattle.total_fit.proofs.choice.least_reaches.Given as goal

-- what is listed from a stop on, and the least of it
pub record IsListed (stops : List Stop) (reaches : List ℤ) (least : ℤ) (at : ℕ) : Type 0 where
  pub count : length reaches ≡ length stops
  pub high : at ≤ length stops
  pub low : (j : ℕ) → at < j → j ≤ length stops → least ≤ℤ reach_of (stop_of stops j)
  pub listed : (k j : ℕ) → at ≤ k → k < j → j ≤ length stops → get_or reaches k (pos 0) ≤ℤ reach_of (stop_of stops j)

abbrev pub invariant-loop-at : goal.invariant-loop-at
invariant-loop-at l = IsListed l.stops l.reaches.items l.least l.at

abbrev pub decreases-loop-at : goal.decreases-loop-at
decreases-loop-at l = l.at
