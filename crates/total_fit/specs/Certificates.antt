-- What potentials have to satisfy so that they show that no plan costs less.
use Rattle.std.specs.Prelude.{◌≡◌, ℕ, ◌+◌, ◌^◌, ◌<◌, ◌≤◌, List, [], ◌∷◌, Option, Some, length}
use Rattle.total_fit.specs.declared.plan.Stop.{Stop}
use Rattle.total_fit.specs.declared.plan.Measures.{Measures}
use Rattle.total_fit.specs.Lines.{Fits, cost_of}
use Rattle.total_fit.specs.Plans.{IsPlan, potential_of}

-- there is a potential, at most the cost of a line and of what comes after it; that sum is below 2^128
pub record IsAtMostThrough (line rest : ℕ) (potential : Option ℕ) : Type 0 where
  pub small : line + rest < 2 ^ 128
  pub least : (cost : ℕ) × (potential ≡ Some cost) × (cost ≤ line + rest)

-- where a line fits and there is a potential at its end, the one at its beginning is at most the line's cost plus that
abbrev pub HoldsAtLine : List Stop → Measures → List (Option ℕ) → ℕ → ℕ → Type 0
HoldsAtLine stops measures potentials i j =
    Fits stops measures i j → (rest : ℕ) → potential_of potentials j ≡ Some rest →
    IsAtMostThrough (cost_of stops measures i j) rest (potential_of potentials i)

abbrev pub HoldAtLines : List Stop → Measures → List (Option ℕ) → Type 0
HoldAtLines stops measures potentials =
    (i j : ℕ) → i < j → j ≤ length stops → HoldsAtLine stops measures potentials i j

-- the potential at a line's beginning is the line's cost plus the one at its end
abbrev pub IsExact : List Stop → Measures → List (Option ℕ) → ℕ → ℕ → Type 0
IsExact stops measures potentials i j =
    (rest : ℕ) × (potential_of potentials j ≡ Some rest)
    × (potential_of potentials i ≡ Some (cost_of stops measures i j + rest))

-- it is so at each line to these ends
abbrev pub AreExact : List Stop → Measures → List (Option ℕ) → ℕ → List ℕ → Type 0
AreExact stops measures potentials i [] = Unit {0}
AreExact stops measures potentials i (j ∷ js) =
    IsExact stops measures potentials i j × AreExact stops measures potentials j js

-- a plan, its cost and a certificate of it
pub record IsCertified (stops : List Stop) (measures : Measures) (ends : List ℕ) (cost : ℕ)
    (potentials : List (Option ℕ)) : Type 0 where
  pub plan : IsPlan stops measures ends
  pub count : length potentials ≡ length stops + 1
  pub last : potential_of potentials (length stops) ≡ Some 0
  pub lines : HoldAtLines stops measures potentials
  pub exact : AreExact stops measures potentials 0 ends
  pub cost_is : potential_of potentials 0 ≡ Some cost

-- a plan goes on by a line at which the potential is exact
pub record IsStep (stops : List Stop) (measures : Measures) (potentials : List (Option ℕ)) (i j : ℕ) : Type 0 where
  pub after : i < j
  pub within : j ≤ length stops
  pub fits : Fits stops measures i j
  pub rest : ℕ
  pub there : potential_of potentials j ≡ Some rest
  pub small : cost_of stops measures i j + rest < 2 ^ 128
  pub exact : potential_of potentials i ≡ Some (cost_of stops measures i j + rest)

-- a plan goes on by such lines
abbrev pub Follows : List Stop → Measures → List (Option ℕ) → ℕ → List ℕ → Type 0
Follows stops measures potentials i [] = i ≡ length stops
Follows stops measures potentials i (j ∷ js) =
    IsStep stops measures potentials i j × Follows stops measures potentials j js
