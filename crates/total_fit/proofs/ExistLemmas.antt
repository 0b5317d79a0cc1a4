-- There is a best plan where there is a plan.
use Rattle.std.proofs.Common.{◌≡◌, ℕ, suc, zero, ◌+◌, ◌-◌, ◌<◌, ◌≤◌, ◌⊎◌, inl, inr, List, [], ◌∷◌, Option, Some, None, length, set, length-set, refl, subst, arith}
use Rattle.std.proofs.Math.ListN.{replicate}
use Rattle.std.proofs.lemmas.Bool.{cases_lt}
use Rattle.std.proofs.lemmas.Int.{ints, by_lt_z}
use Rattle.std.proofs.lemmas.List.{length-replicate, get_or-replicate}
use Rattle.total_fit.specs.declared.plan.Stop.{Stop}
use Rattle.total_fit.specs.declared.plan.Measures.{Measures}
use Rattle.total_fit.specs.declared.choice.Choice.{Choice}
use Rattle.total_fit.specs.Lines.{Fits, cost_of, width_of, measure_of}
use Rattle.total_fit.specs.Laws.{HasBestOrNone}
use Rattle.total_fit.specs.Plans.{IsBestFrom, IsBest, IsLeastCost, IsPotential, HasNoPlan, potential_of}
use Rattle.total_fit.specs.Choices.{ArePotentialsFrom, IsChoice, cost_in}
use Rattle.total_fit.proofs.PlanLemmas.{potential-last}
use Rattle.total_fit.proofs.ChoiceLemmas.{choice-misses, choice-closed, choice-keeps, choice-takes, choice-potential, choice-best, known-more, best-last, no-way}

fits_or : (ss : List Stop) (m : Measures) (i j : ℕ) → Fits ss m i j ⊎ (Fits ss m i j → ⊥)
unfolding Fits
fits_or ss m i j = by_lt_z (measure_of m i) (width_of ss i j) (λ l. inr (λ f. absurd (omega (arith, ints)))) (λ f. inl f)

-- the choice with one more line
choice-next : (ss : List Stop) (m : Measures) (ps : List (Option ℕ)) (i at : ℕ) (best : Option Choice) (o : Option ℕ) → i ≤ at →
    IsChoice ss m ps i at best → Fits ss m i (suc at) → potential_of ps (suc at) ≡ o → (r : Option Choice) × IsChoice ss m ps i (suc at) r
choice-next ss m ps i at best None l h f e = (best, choice-closed ss m ps i at best h e)
choice-next ss m ps i at None (Some rest) l h f e =
    (Some (record { end = suc at; cost = cost_of ss m i (suc at) + rest }), choice-takes ss m ps i at rest _ None h tt l f e refl)
choice-next ss m ps i at (Some c) (Some rest) l h f e = elim (cases_lt c.cost (cost_of ss m i (suc at) + rest)) [
  | inl less ↦ (Some c, choice-keeps ss m ps i at rest c h e less)
  | inr more ↦ (Some (record { end = suc at; cost = cost_of ss m i (suc at) + rest }), choice-takes ss m ps i at rest _ (Some c) h more l f e refl)
]

some-choice : (ss : List Stop) (m : Measures) (ps : List (Option ℕ)) (i k : ℕ) → (r : Option Choice) × IsChoice ss m ps i (k + i) r
some-choice ss m ps i zero = (None, λ j l w. absurd (omega arith))
some-choice ss m ps i (suc k) =
    let h = some-choice ss m ps i k in
    let n : suc (k + i) ≡ suc k + i = omega arith in
    let r : (r : Option Choice) × IsChoice ss m ps i (suc (k + i)) r =
    elim (fits_or ss m i (suc (k + i))) [
      | inl f ↦ choice-next ss m ps i (k + i) h.0 (potential_of ps (suc (k + i))) (omega arith) h.1 f refl
      | inr none ↦ (h.0, choice-misses ss m ps i (k + i) h.0 h.1 none)
    ] in
    subst (λ (z : ℕ). (r : Option Choice) × IsChoice ss m ps i z r) n r

choice-there : (ss : List Stop) (m : Measures) (ps : List (Option ℕ)) (i : ℕ) → i ≤ length ss → (r : Option Choice) × IsChoice ss m ps i (length ss) r
choice-there ss m ps i w =
    let n : length ss - i + i ≡ length ss = omega arith in
    subst (λ (z : ℕ). (r : Option Choice) × IsChoice ss m ps i z r) n (some-choice ss m ps i (length ss - i))

some-potentials : (ss : List Stop) (m : Measures) (k i : ℕ) → i + k ≡ length ss →
    (ps : List (Option ℕ)) × (length ps ≡ length ss + 1) × ArePotentialsFrom ss m ps i
some-potentials ss m zero i e = (
  replicate (length ss + 1) (Some 0),
  length-replicate {A = Option ℕ} (length ss + 1) (Some 0),
  λ k l w. (let n : length ss ≡ k = omega arith in
      subst (λ (z : ℕ). IsPotential ss m z (potential_of (replicate (length ss + 1) (Some 0)) z)) n
      (rw (get_or-replicate {A = Option ℕ} (length ss + 1) (length ss) (Some 0) None (omega arith)) (potential-last ss m))),
)
some-potentials ss m (suc k) i e =
    let h = some-potentials ss m k (suc i) (omega arith) in
    let c = choice-there ss m h.0 i (omega arith) in
    let n : suc i ≡ i + 1 = omega arith in
    let known : ArePotentialsFrom ss m h.0 (i + 1) = subst (λ (z : ℕ). ArePotentialsFrom ss m h.0 z) n h.2 in
    let len = h.1 in (
      set h.0 i (cost_in c.0),
      simp length-set h.1,
      known-more ss m h.0 i (cost_in c.0) (omega arith) known (choice-potential ss m h.0 i c.0 (omega arith) h.2 c.1),
    )

by-choice : (ss : List Stop) (m : Measures) (ps : List (Option ℕ)) → ArePotentialsFrom ss m ps 0 → (k i q : ℕ) → i < length ss →
    length ss ≤ i + suc k → potential_of ps i ≡ Some q →
    ((j r : ℕ) → j ≤ length ss → length ss ≤ j + k → potential_of ps j ≡ Some r → (ends : List ℕ) × IsBestFrom ss m j ends) →
    (o : Option Choice) → IsChoice ss m ps i (length ss) o → (ends : List ℕ) × IsBestFrom ss m i ends
by-choice ss m ps known k i q l e p more None h =
    let t : IsLeastCost ss m i q = subst (λ (o : Option ℕ). IsPotential ss m i o) p (known i (omega arith) (omega arith)) in
    absurd (no-way ss m ps i l (λ j a b. known j (omega arith) b) h t.some.0 t.some.1)
by-choice ss m ps known k i q l e p more (Some c) h =
    let r = more c.end h.way.0 h.within (let a = h.after in omega arith) h.way.1 in
    (c.end ∷ r.0, choice-best ss m ps i c r.0 l (λ j a b. known j (omega arith) b) h r.1)

best-there : (ss : List Stop) (m : Measures) (ps : List (Option ℕ)) → ArePotentialsFrom ss m ps 0 → (k i q : ℕ) → i ≤ length ss →
    length ss ≤ i + k → potential_of ps i ≡ Some q → (ends : List ℕ) × IsBestFrom ss m i ends
best-there ss m ps known zero i q w e p =
    let n : length ss ≡ i = omega arith in ([], subst (λ (z : ℕ). IsBestFrom ss m z []) n (best-last ss m))
best-there ss m ps known (suc k) i q w e p = elim (cases_lt i (length ss)) [
  | inl l ↦ (let c = choice-there ss m ps i w in
      by-choice ss m ps known k i q l e p (λ j r a b f. best-there ss m ps known k j r a b f) c.0 c.1)
  | inr l ↦ (let n : length ss ≡ i = omega arith in ([], subst (λ (z : ℕ). IsBestFrom ss m z []) n (best-last ss m)))
]

by-start : (ss : List Stop) (m : Measures) (ps : List (Option ℕ)) → ArePotentialsFrom ss m ps 0 → (o : Option ℕ) → potential_of ps 0 ≡ o →
    ((ends : List ℕ) × IsBest ss m ends) ⊎ HasNoPlan ss m
by-start ss m ps known None e = inr (subst (λ (o : Option ℕ). IsPotential ss m 0 o) e (known 0 (omega arith) (omega arith)))
by-start ss m ps known (Some q) e = inl (best-there ss m ps known (length ss) 0 q (omega arith) (omega arith) e)

pub best-or-none : HasBestOrNone
best-or-none ss m = let h = some-potentials ss m (length ss) 0 (omega arith) in by-start ss m h.0 h.2 (potential_of h.0 0) refl
