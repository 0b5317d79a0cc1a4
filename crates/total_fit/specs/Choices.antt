-- The best line from a stop on, where the potentials of the later stops are known.
use Rattle.std.specs.Prelude.{◌≡◌, ℕ, ◌+◌, ◌<◌, ◌≤◌, ℤ, ◌≤ℤ◌, List, Option, Some, None, length, slice_index_or, pos}
use Rattle.total_fit.specs.declared.plan.Stop.{Stop}
use Rattle.total_fit.specs.declared.plan.Measures.{Measures}
use Rattle.total_fit.specs.declared.choice.Choice.{Choice}
use Rattle.total_fit.specs.Lines.{AreGoodMeasures, AreGoodStops, Fits, cost_of, reach_of, stop_of}
use Rattle.total_fit.specs.Plans.{IsPotential, potential_of}

-- the potentials from a stop on
abbrev pub ArePotentialsFrom : List Stop → Measures → List (Option ℕ) → ℕ → Type 0
ArePotentialsFrom stops measures potentials from =
    (k : ℕ) → from ≤ k → k ≤ length stops → IsPotential stops measures k (potential_of potentials k)

-- the best line from a stop can be chosen: the potentials of all later stops are known
pub record CanChoose (stops : List Stop) (measures : Measures) (potentials : List (Option ℕ))
    (from : ℕ) : Type 0 where
  pub good : AreGoodStops stops
  pub bounded : AreGoodMeasures measures
  pub count : length potentials ≡ length stops + 1
  pub known : ArePotentialsFrom stops measures potentials (from + 1)

-- of the lines that fit, end no later than `last` and have a plan after them: one that costs least with that plan, and
-- of these the longest
pub record IsBestLine (stops : List Stop) (measures : Measures) (potentials : List (Option ℕ)) (i last : ℕ)
    (c : Choice) : Type 0 where
  pub after : i < c.end
  pub within : c.end ≤ last
  pub fits : Fits stops measures i c.end
  pub way : (rest : ℕ) × (potential_of potentials c.end ≡ Some rest) × (c.cost ≡ cost_of stops measures i c.end + rest)
  pub least : (j rest : ℕ) → i < j → j ≤ last → Fits stops measures i j → potential_of potentials j ≡ Some rest →
      c.cost ≤ cost_of stops measures i j + rest
  pub longest : (j rest : ℕ) → i < j → j ≤ last → Fits stops measures i j → potential_of potentials j ≡ Some rest →
      c.cost ≡ cost_of stops measures i j + rest → j ≤ c.end

-- None where no such line has a plan after it
abbrev pub IsChoice : List Stop → Measures → List (Option ℕ) → ℕ → ℕ → Option Choice → Type 0
IsChoice stops measures potentials i last None =
    (j : ℕ) → i < j → j ≤ last → Fits stops measures i j → potential_of potentials j ≡ None
IsChoice stops measures potentials i last (Some c) = IsBestLine stops measures potentials i last c

abbrev pub cost_in : Option Choice → Option ℕ
cost_in None = None
cost_in (Some c) = Some c.cost

-- at k, a number that each line to a stop after k reaches
pub record AreLeastReaches (stops : List Stop) (reaches : List ℤ) : Type 0 where
  pub count : length reaches ≡ length stops
  pub below : (k j : ℕ) → k < j → j ≤ length stops → slice_index_or reaches k (pos 0) ≤ℤ reach_of (stop_of stops j)
