-- Plans, their costs and the least cost from a stop.
use Rattle.std.proofs.Common.{◌≡◌, ℕ, ◌+◌, ◌*◌, ◌^◌, ◌≤◌, inl, inr, List, [], ◌∷◌, Option, Some, None, length, refl, sym, subst, arith}
use Rattle.total_fit.specs.declared.plan.Stop.{Stop}
use Rattle.total_fit.specs.declared.plan.Measures.{Measures}
use Rattle.total_fit.specs.Lines.{AreGoodMeasures}
use Rattle.total_fit.specs.Laws.{HasOneBest}
use Rattle.total_fit.specs.Plans.{IsPlanFrom, cost_from, AreNoLess, IsBestFrom, IsLeastCost, IsPotential}
use Rattle.total_fit.proofs.CostLemmas.{cost-small}

pub plan-within : (ss : List Stop) (m : Measures) (i : ℕ) (ends : List ℕ) → IsPlanFrom ss m i ends → i ≤ length ss
plan-within ss m i [] p = omega arith
plan-within ss m i (j ∷ js) p = let h = plan-within ss m j js p.2 in omega (arith, p.0)

-- where the last stop is, a plan is empty
pub past-end : (ss : List Stop) (m : Measures) (i j : ℕ) (js : List ℕ) → length ss ≤ i → IsPlanFrom ss m i (j ∷ js) → ⊥
past-end ss m i j js h p = let w = plan-within ss m j js p.2 in omega (arith, p.0)

-- the potential of the last stop
pub potential-last : (ss : List Stop) (m : Measures) → IsPotential ss m (length ss) (Some 0)
potential-last ss m = record { some = ([], refl, refl); least = λ other p. omega arith }

-- where there is a plan, there is a potential, and it's no greater
pub potential-some : (ss : List Stop) (m : Measures) (i : ℕ) (o : Option ℕ) (ends : List ℕ) → IsPotential ss m i o →
    IsPlanFrom ss m i ends → (q : ℕ) × (o ≡ Some q) × (q ≤ cost_from ss m i ends)
potential-some ss m i None ends h p = absurd (h ends p)
potential-some ss m i (Some q) ends h p = (q, refl, h.least ends p)

-- a plan that costs least costs the potential
pub best-cost : (ss : List Stop) (m : Measures) (i q : ℕ) (ends : List ℕ) → IsBestFrom ss m i ends → IsLeastCost ss m i q →
    cost_from ss m i ends ≡ q
best-cost ss m i q ends b l =
    let up : cost_from ss m i ends ≤ q = subst (λ (z : ℕ). cost_from ss m i ends ≤ z) l.some.2 (b.least l.some.0 l.some.1) in
    let down : q ≤ cost_from ss m i ends = l.least ends b.plan in
    omega arith

-- each line of a plan costs at most 2^83
pub plan-small : (ss : List Stop) (m : Measures) (i : ℕ) (ends : List ℕ) → AreGoodMeasures m → IsPlanFrom ss m i ends →
    cost_from ss m i ends + i * 2 ^ 83 ≤ length ss * 2 ^ 83
plan-small ss m i [] good p = rw p (omega arith)
plan-small ss m i (j ∷ js) good p =
    let one = cost-small ss m i j good p.1 in
    let more = plan-small ss m j js good p.2 in
    omega (arith, one, more, p.0)

pub least-small : (ss : List Stop) (m : Measures) (i q : ℕ) → AreGoodMeasures m → length ss ≤ 4096 → IsLeastCost ss m i q → q ≤ 2 ^ 95
least-small ss m i q good few l =
    let h = plan-small ss m i l.some.0 good l.some.1 in
    let e = l.some.2 in
    omega (arith, h, e)

-- two lists of which each is no less than the other are one
pub no-less-same : (xs ys : List ℕ) → AreNoLess xs ys → AreNoLess ys xs → xs ≡ ys
no-less-same [] [] f g = refl
no-less-same [] (y ∷ ys) f g = absurd f
no-less-same (x ∷ xs) [] f g = absurd f
no-less-same (x ∷ xs) (y ∷ ys) (inl f) (inl g) = absurd (omega arith)
no-less-same (x ∷ xs) (y ∷ ys) (inl f) (inr g) = absurd (omega (arith, g.0))
no-less-same (x ∷ xs) (y ∷ ys) (inr f) (inl g) = absurd (omega (arith, f.0))
no-less-same (x ∷ xs) (y ∷ ys) (inr f) (inr g) = let e = f.0 in let r = no-less-same xs ys f.1 g.1 in cc

pub one-best : HasOneBest
one-best ss m xs ys a b =
    let e : cost_from ss m 0 xs ≡ cost_from ss m 0 ys = let f = a.least ys b.plan in let g = b.least xs a.plan in omega arith in
    no-less-same xs ys (a.greatest ys b.plan (sym e)) (b.greatest xs a.plan e)
