-- What a certificate shows, and that the best plan has one.
use Rattle.std.proofs.Common.{◌≡◌, ℕ, ◌+◌, ◌≤◌, List, [], ◌∷◌, Option, Some, length, refl, sym, ◌∙◌, ap, subst, arith}
use Rattle.std.proofs.lemmas.Option.{same_Some}
use Rattle.total_fit.specs.declared.plan.Stop.{Stop}
use Rattle.total_fit.specs.declared.plan.Measures.{Measures}
use Rattle.total_fit.specs.Lines.{AreGoodMeasures, cost_of}
use Rattle.total_fit.specs.Plans.{CostsLeast, IsPlanFrom, cost_from, IsBest, IsLeastCost, IsPotential, ArePotentials, potential_of}
use Rattle.total_fit.specs.Certificates.{AreExact, Follows, HoldAtLines, IsCertified}
use Rattle.total_fit.proofs.CostLemmas.{cost-small}
use Rattle.total_fit.proofs.PlanLemmas.{plan-within, potential-some, least-small}

-- the potentials are at most the costs of all plans
below-plans : (ss : List Stop) (m : Measures) (ps : List (Option ℕ)) → potential_of ps (length ss) ≡ Some 0 → HoldAtLines ss m ps →
    (i : ℕ) (ends : List ℕ) → IsPlanFrom ss m i ends → (q : ℕ) × (potential_of ps i ≡ Some q) × (q ≤ cost_from ss m i ends)
below-plans ss m ps last lines i [] p = (0, subst (λ (z : ℕ). potential_of ps z ≡ Some 0) (sym p) last, omega arith)
below-plans ss m ps last lines i (j ∷ js) p =
    let r = below-plans ss m ps last lines j js p.2 in
    let h = lines i j p.0 (plan-within ss m j js p.2) p.1 r.0 r.1 in
    (h.least.0, h.least.1, (let a = h.least.2 in let b = r.2 in omega arith))

-- along the plan they are its costs
exact-cost : (ss : List Stop) (m : Measures) (ps : List (Option ℕ)) → potential_of ps (length ss) ≡ Some 0 →
    (i : ℕ) (ends : List ℕ) → IsPlanFrom ss m i ends → AreExact ss m ps i ends → potential_of ps i ≡ Some (cost_from ss m i ends)
exact-cost ss m ps last i [] p a = subst (λ (z : ℕ). potential_of ps z ≡ Some 0) (sym p) last
exact-cost ss m ps last i (j ∷ js) p a =
    let r = exact-cost ss m ps last j js p.2 a.1 in
    let e = same_Some a.0.0 (cost_from ss m j js) (sym a.0.1 ∙ r) in
    subst (λ (z : ℕ). potential_of ps i ≡ Some (cost_of ss m i j + z)) e a.0.2

pub certified-least : (ss : List Stop) (m : Measures) (ends : List ℕ) (cost : ℕ) (ps : List (Option ℕ)) →
    IsCertified ss m ends cost ps → CostsLeast ss m ends
certified-least ss m ends cost ps h other p =
    let own = exact-cost ss m ps h.last 0 ends h.plan h.exact in
    let b = below-plans ss m ps h.last h.lines 0 other p in
    let e = same_Some (cost_from ss m 0 ends) b.0 (sym own ∙ b.1) in
    omega (arith, e, b.2)

-- what is left of a plan of least cost is one
pub rest-least : (ss : List Stop) (m : Measures) (i j : ℕ) (js : List ℕ) → IsPlanFrom ss m i (j ∷ js) →
    ((other : List ℕ) → IsPlanFrom ss m i other → cost_from ss m i (j ∷ js) ≤ cost_from ss m i other) →
    (other : List ℕ) → IsPlanFrom ss m j other → cost_from ss m j js ≤ cost_from ss m j other
rest-least ss m i j js p least other q = let h = least (j ∷ other) (p.0, p.1, q) in omega (arith, h)

listed-cost : (ss : List Stop) (m : Measures) (ps : List (Option ℕ)) (i : ℕ) (ends : List ℕ) → ArePotentials ss m ps → IsPlanFrom ss m i ends →
    ((other : List ℕ) → IsPlanFrom ss m i other → cost_from ss m i ends ≤ cost_from ss m i other) →
    potential_of ps i ≡ Some (cost_from ss m i ends)
listed-cost ss m ps i ends known p least =
    let w = plan-within ss m i ends p in
    let q = potential-some ss m i (potential_of ps i) ends (known.each i w) p in
    let l : IsLeastCost ss m i q.0 = subst (λ (o : Option ℕ). IsPotential ss m i o) q.1 (known.each i w) in
    let up : cost_from ss m i ends ≤ q.0 = subst (λ (z : ℕ). cost_from ss m i ends ≤ z) l.some.2 (least l.some.0 l.some.1) in
    let e : q.0 ≡ cost_from ss m i ends = omega (arith, q.2, up) in
    q.1 ∙ ap (λ (z : ℕ). Some z) e

best-exact : (ss : List Stop) (m : Measures) (ps : List (Option ℕ)) (i : ℕ) (ends : List ℕ) → ArePotentials ss m ps → IsPlanFrom ss m i ends →
    ((other : List ℕ) → IsPlanFrom ss m i other → cost_from ss m i ends ≤ cost_from ss m i other) → AreExact ss m ps i ends
best-exact ss m ps i [] known p least = tt
best-exact ss m ps i (j ∷ js) known p least =
    let rest = rest-least ss m i j js p least in (
      (cost_from ss m j js, listed-cost ss m ps j js known p.2 rest, listed-cost ss m ps i (j ∷ js) known p least),
      best-exact ss m ps j js known p.2 rest,
    )

best-lines : (ss : List Stop) (m : Measures) (ps : List (Option ℕ)) → AreGoodMeasures m → length ss ≤ 4096 → ArePotentials ss m ps →
    HoldAtLines ss m ps
best-lines ss m ps good few known i j l w f rest e =
    let at : IsLeastCost ss m j rest = subst (λ (o : Option ℕ). IsPotential ss m j o) e (known.each j w) in
    let line = cost-small ss m i j good f in
    let more = least-small ss m j rest good few at in
    let q = potential-some ss m i (potential_of ps i) (j ∷ at.some.0) (known.each i (omega arith)) (l, f, at.some.1) in
    record { small = omega (arith, line, more); least = (q.0, q.1, omega (arith, q.2, at.some.2)) }

-- the potentials are a certificate of the best plan
pub best-certified : (ss : List Stop) (m : Measures) (ends : List ℕ) (cost : ℕ) (ps : List (Option ℕ)) → AreGoodMeasures m →
    length ss ≤ 4096 → ArePotentials ss m ps → IsBest ss m ends → potential_of ps 0 ≡ Some cost → IsCertified ss m ends cost ps
best-certified ss m ends cost ps good few known b e = record {
  plan = b.plan;
  count = known.count;
  last = listed-cost ss m ps (length ss) [] known refl (λ other p. omega arith);
  lines = best-lines ss m ps good few known;
  exact = best-exact ss m ps 0 ends known b.plan b.least;
  cost_is = e;
}

-- the potential at the start is the best plan's cost
pub start-cost : (ss : List Stop) (m : Measures) (ends : List ℕ) (cost : ℕ) (ps : List (Option ℕ)) → ArePotentials ss m ps →
    IsBest ss m ends → potential_of ps 0 ≡ Some cost → cost ≡ cost_from ss m 0 ends
start-cost ss m ends cost ps known b e =
    same_Some cost (cost_from ss m 0 ends) (sym e ∙ listed-cost ss m ps 0 ends known b.plan b.least)

follows-plan : (ss : List Stop) (m : Measures) (ps : List (Option ℕ)) (i : ℕ) (ends : List ℕ) → Follows ss m ps i ends →
    IsPlanFrom ss m i ends × AreExact ss m ps i ends
follows-plan ss m ps i [] f = (f, tt)
follows-plan ss m ps i (j ∷ js) f =
    let s = f.0 in
    let r = follows-plan ss m ps j js f.1 in
    ((s.after, s.fits, r.0), ((s.rest, s.there, s.exact), r.1))

plan-follows : (ss : List Stop) (m : Measures) (ps : List (Option ℕ)) → HoldAtLines ss m ps → (i : ℕ) (ends : List ℕ) →
    IsPlanFrom ss m i ends → AreExact ss m ps i ends → Follows ss m ps i ends
plan-follows ss m ps lines i [] p a = p
plan-follows ss m ps lines i (j ∷ js) p a =
    let w = plan-within ss m j js p.2 in
    let h = lines i j p.0 w p.1 a.0.0 a.0.1 in (
      record { after = p.0; within = w; fits = p.1; rest = a.0.0; there = a.0.1; small = h.small; exact = a.0.2 },
      plan-follows ss m ps lines j js p.2 a.1,
    )

pub certified-follows : (ss : List Stop) (m : Measures) (ends : List ℕ) (cost : ℕ) (ps : List (Option ℕ)) →
    IsCertified ss m ends cost ps → Follows ss m ps 0 ends
certified-follows ss m ends cost ps h = plan-follows ss m ps h.lines 0 ends h.plan h.exact

pub certified-made : (ss : List Stop) (m : Measures) (ends : List ℕ) (cost : ℕ) (ps : List (Option ℕ)) → length ps ≡ length ss + 1 →
    potential_of ps (length ss) ≡ Some 0 → potential_of ps 0 ≡ Some cost → Follows ss m ps 0 ends → HoldAtLines ss m ps →
    IsCertified ss m ends cost ps
certified-made ss m ends cost ps count last start f lines =
    let r = follows-plan ss m ps 0 ends f in
    record { plan = r.0; count = count; last = last; lines = lines; exact = r.1; cost_is = start }
