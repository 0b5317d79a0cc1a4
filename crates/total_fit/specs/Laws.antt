-- What holds of the plans of all paragraphs.
use Rattle.std.specs.Prelude.{◌≡◌, ℕ, ◌<◌, ◌≤◌, ◌⊎◌, List, ◌∷◌, Option, drop, length}
use Rattle.total_fit.specs.declared.plan.Stop.{Stop}
use Rattle.total_fit.specs.declared.plan.Measures.{Measures}
use Rattle.total_fit.specs.Plans.{ArePotentials, HasNoPlan, IsBest, IsBestFrom}
use Rattle.total_fit.specs.Rests.{AreRest, ends_after, measures_after, stops_after}

-- there is at most one best plan
abbrev pub HasOneBest : Type 0
HasOneBest = (stops : List Stop) (measures : Measures) (a b : List ℕ) →
    IsBest stops measures a → IsBest stops measures b → a ≡ b

-- there is a best plan, or there is no plan
abbrev pub HasBestOrNone : Type 0
HasBestOrNone = (stops : List Stop) (measures : Measures) →
    ((ends : List ℕ) × IsBest stops measures ends) ⊎ HasNoPlan stops measures

-- a best plan is, from each of its ends on, the best one from there on
abbrev pub BestGoesOn : Type 0
BestGoesOn = (stops : List Stop) (measures : Measures) (i e : ℕ) (ends : List ℕ) →
    IsBestFrom stops measures i (e ∷ ends) → IsBestFrom stops measures e ends

-- the best plan from a stop on is the best plan of the rest of the paragraph, with the numbers that stops have there
abbrev pub BestIsOfRest : Type 0
BestIsOfRest = (stops later : List Stop) (measures : Measures) (e : ℕ) (ends : List ℕ) → AreRest stops e later →
    IsBestFrom stops measures e ends → IsBest later (measures_after measures) (ends_after e ends)

-- the stops after a stop are the rest of the paragraph, where their widths are measured from where its line begins
abbrev pub AreRestAfter : Type 0
AreRestAfter = (stops : List Stop) (e : ℕ) → 0 < e → e ≤ length stops → AreRest stops e (stops_after stops e)

-- so the rest of a best plan, from its first end on, is the best plan of the rest of the paragraph
abbrev pub RestOfBestIsBest : Type 0
RestOfBestIsBest = (stops : List Stop) (measures : Measures) (e : ℕ) (ends : List ℕ) →
    IsBest stops measures (e ∷ ends) → IsBest (stops_after stops e) (measures_after measures) (ends_after e ends)

-- and the potentials of the stops from there on are those of the rest
abbrev pub PotentialsAreOfRest : Type 0
PotentialsAreOfRest = (stops later : List Stop) (measures : Measures) (e : ℕ) (potentials : List (Option ℕ)) →
    AreRest stops e later → ArePotentials stops measures potentials →
    ArePotentials later (measures_after measures) (drop e potentials)
