-- Plans of a paragraph's lines, what they cost, and the best one: the paragraph's total fit (Knuth and Plass, "Breaking
-- paragraphs into lines").
use Rattle.std.specs.Prelude.{◌≡◌, ℕ, ◌+◌, ◌<◌, ◌≤◌, ◌⊎◌, List, [], ◌∷◌, Option, Some, None, length, slice_index_or}
use Rattle.total_fit.specs.declared.plan.Stop.{Stop}
use Rattle.total_fit.specs.declared.plan.Measures.{Measures}
use Rattle.total_fit.specs.Lines.{Fits, cost_of}

-- a plan from a stop on: stops that ascend, of which the last is the paragraph's end, with a line that fits up to each
abbrev pub IsPlanFrom : List Stop → Measures → ℕ → List ℕ → Type 0
IsPlanFrom stops measures i [] = i ≡ length stops
IsPlanFrom stops measures i (j ∷ js) = (i < j) × Fits stops measures i j × IsPlanFrom stops measures j js

-- what it costs: the sum over its lines
abbrev pub cost_from : List Stop → Measures → ℕ → List ℕ → ℕ
cost_from stops measures i [] = 0
cost_from stops measures i (j ∷ js) = cost_of stops measures i j + cost_from stops measures j js

-- a plan of the whole paragraph
abbrev pub IsPlan : List Stop → Measures → List ℕ → Type 0
IsPlan stops measures ends = IsPlanFrom stops measures 0 ends

abbrev pub plan_cost : List Stop → Measures → List ℕ → ℕ
plan_cost stops measures ends = cost_from stops measures 0 ends

abbrev pub HasNoPlanFrom : List Stop → Measures → ℕ → Type 0
HasNoPlanFrom stops measures i = (ends : List ℕ) → IsPlanFrom stops measures i ends → ⊥

abbrev pub HasNoPlan : List Stop → Measures → Type 0
HasNoPlan stops measures = HasNoPlanFrom stops measures 0

-- no plan costs less
abbrev pub CostsLeast : List Stop → Measures → List ℕ → Type 0
CostsLeast stops measures ends = (other : List ℕ) → IsPlan stops measures other →
    plan_cost stops measures ends ≤ plan_cost stops measures other

-- the same ends, or a greater one at the first place where two differ
abbrev pub AreNoLess : List ℕ → List ℕ → Type 0
AreNoLess [] [] = Unit {0}
AreNoLess [] (b ∷ bs) = ⊥
AreNoLess (a ∷ as') [] = ⊥
AreNoLess (a ∷ as') (b ∷ bs) = (b < a) ⊎ ((a ≡ b) × AreNoLess as' bs)

-- the best plan from a stop on: one of least cost, and of these the greatest at the first end where two differ
pub record IsBestFrom (stops : List Stop) (measures : Measures) (i : ℕ) (ends : List ℕ) : Type 0 where
  pub plan : IsPlanFrom stops measures i ends
  pub least : (other : List ℕ) → IsPlanFrom stops measures i other →
      cost_from stops measures i ends ≤ cost_from stops measures i other
  pub greatest : (other : List ℕ) → IsPlanFrom stops measures i other →
      cost_from stops measures i other ≡ cost_from stops measures i ends → AreNoLess ends other

abbrev pub IsBest : List Stop → Measures → List ℕ → Type 0
IsBest stops measures ends = IsBestFrom stops measures 0 ends

-- some plan from a stop on has this cost, and none has less
pub record IsLeastCost (stops : List Stop) (measures : Measures) (i cost : ℕ) : Type 0 where
  pub some : (ends : List ℕ) × IsPlanFrom stops measures i ends × (cost_from stops measures i ends ≡ cost)
  pub least : (other : List ℕ) → IsPlanFrom stops measures i other → cost ≤ cost_from stops measures i other

-- the potential of a stop: the least cost of a plan from there on, and None where there is no plan
abbrev pub IsPotential : List Stop → Measures → ℕ → Option ℕ → Type 0
IsPotential stops measures i None = HasNoPlanFrom stops measures i
IsPotential stops measures i (Some cost) = IsLeastCost stops measures i cost

-- what a list of potentials has for a stop
abbrev pub potential_of : List (Option ℕ) → ℕ → Option ℕ
potential_of potentials i = slice_index_or potentials i None

-- the potentials of the start and of each stop
pub record ArePotentials (stops : List Stop) (measures : Measures) (potentials : List (Option ℕ)) : Type 0 where
  pub count : length potentials ≡ length stops + 1
  pub each : (i : ℕ) → i ≤ length stops → IsPotential stops measures i (potential_of potentials i)
