-- The best line from a stop, and how it gives the least cost and the best plan.
use Rattle.std.proofs.Common.{◌≡◌, ℕ, suc, ◌+◌, ◌^◌, ◌<◌, ◌≤◌, ◌⊎◌, inl, inr, List, [], ◌∷◌, Option, Some, None, length, refl, sym, ◌∙◌, ap, subst, arith, set, get_or-set_same, get_or-set_other, ℤ, ◌+ℤ◌, ◌≤ℤ◌, ◌<ℤ◌}
use Rattle.std.proofs.lemmas.Int.{ints, clamps}
use Rattle.std.proofs.lemmas.Bool.{cases_eq, cases_lt}
use Rattle.std.proofs.lemmas.Option.{same_Some}
use Rattle.total_fit.specs.declared.plan.Stop.{Stop}
use Rattle.total_fit.specs.declared.plan.Measures.{Measures}
use Rattle.total_fit.specs.declared.choice.Choice.{Choice}
use Rattle.total_fit.specs.Lines.{AreGoodMeasures, Fits, cost_of, width_of, begin_of, measure_of, reach_of, stop_of}
use Rattle.total_fit.specs.Plans.{IsPlanFrom, cost_from, AreNoLess, IsBestFrom, IsLeastCost, IsPotential, potential_of}
use Rattle.total_fit.specs.Choices.{ArePotentialsFrom, IsBestLine, IsChoice, cost_in}
use Rattle.total_fit.proofs.PlanLemmas.{plan-within, past-end, potential-some, best-cost, least-small}

-- a stop of which each line so far was looked at, and the one after it
at_or_before : (j at : ℕ) → j ≤ suc at → (j ≤ at) ⊎ (j ≡ suc at)
at_or_before j at h = elim (cases_eq j (suc at)) [ inl e ↦ inr e | inr n ↦ inl (omega arith) ]

-- no line to the next stop counts
pub choice-skips : (ss : List Stop) (m : Measures) (ps : List (Option ℕ)) (i at : ℕ) (best : Option Choice) →
    IsChoice ss m ps i at best → ((rest : ℕ) → Fits ss m i (suc at) → potential_of ps (suc at) ≡ Some rest → ⊥) →
    (Fits ss m i (suc at) → potential_of ps (suc at) ≡ None) → IsChoice ss m ps i (suc at) best
choice-skips ss m ps i at None h off none = λ j l w f. elim (at_or_before j at w) [ inl k ↦ h j l k f | inr e ↦ subst (λ (z : ℕ). potential_of ps z ≡ None) (sym e) (none (subst (λ (z : ℕ). Fits ss m i z) e f)) ]
choice-skips ss m ps i at (Some c) h off none = record {
  after = h.after;
  within = let w = h.within in omega arith;
  fits = h.fits;
  way = h.way;
  least = λ j rest l w f p. elim (at_or_before j at w) [ inl k ↦ h.least j rest l k f p | inr e ↦ absurd (off rest (subst (λ (z : ℕ). Fits ss m i z) e f) (subst (λ (z : ℕ). potential_of ps z ≡ Some rest) e p)) ];
  longest = λ j rest l w f p t. elim (at_or_before j at w) [ inl k ↦ h.longest j rest l k f p t | inr e ↦ absurd (off rest (subst (λ (z : ℕ). Fits ss m i z) e f) (subst (λ (z : ℕ). potential_of ps z ≡ Some rest) e p)) ];
}

pub choice-misses : (ss : List Stop) (m : Measures) (ps : List (Option ℕ)) (i at : ℕ) (best : Option Choice) →
    IsChoice ss m ps i at best → (Fits ss m i (suc at) → ⊥) → IsChoice ss m ps i (suc at) best
choice-misses ss m ps i at best h off = choice-skips ss m ps i at best h (λ rest f p. off f) (λ f. absurd (off f))

pub choice-closed : (ss : List Stop) (m : Measures) (ps : List (Option ℕ)) (i at : ℕ) (best : Option Choice) →
    IsChoice ss m ps i at best → potential_of ps (suc at) ≡ None → IsChoice ss m ps i (suc at) best
choice-closed ss m ps i at best h none = choice-skips ss m ps i at best h (λ rest f p. cc) (λ f. none)

-- a line to the next stop that costs more
pub choice-keeps : (ss : List Stop) (m : Measures) (ps : List (Option ℕ)) (i at rest : ℕ) (c : Choice) →
    IsBestLine ss m ps i at c → potential_of ps (suc at) ≡ Some rest → c.cost < cost_of ss m i (suc at) + rest →
    IsBestLine ss m ps i (suc at) c
choice-keeps ss m ps i at rest c h p less = record {
  after = h.after;
  within = let w = h.within in omega arith;
  fits = h.fits;
  way = h.way;
  least = λ j r l w f q. elim (at_or_before j at w) [
    | inl k ↦ h.least j r l k f q
    | inr e ↦
        rw e (let s = same_Some r rest (sym (subst (λ (z : ℕ). potential_of ps z ≡ Some r) e q) ∙ p) in omega arith)
  ];
  longest = λ j r l w f q t. elim (at_or_before j at w) [
    | inl k ↦ h.longest j r l k f q t
    | inr e ↦
        absurd (let s = same_Some r rest (sym (subst (λ (z : ℕ). potential_of ps z ≡ Some r) e q) ∙ p) in
        let t' : c.cost ≡ cost_of ss m i (suc at) + r = subst (λ (z : ℕ). c.cost ≡ cost_of ss m i z + r) e t in omega arith)
  ];
}

-- whether a cost is no more than that of the choice so far
abbrev pub IsNoMore : Option Choice → ℕ → Type 0
IsNoMore None cost = Unit {0}
IsNoMore (Some c) cost = cost ≤ c.cost

no-more : (ss : List Stop) (m : Measures) (ps : List (Option ℕ)) (i at cost : ℕ) (best : Option Choice) →
    IsChoice ss m ps i at best → IsNoMore best cost → (j r : ℕ) → i < j → j ≤ at → Fits ss m i j → potential_of ps j ≡ Some r →
    cost ≤ cost_of ss m i j + r
no-more ss m ps i at cost None h n j r l k f p = absurd (let e = h j l k f in cc)
no-more ss m ps i at cost (Some c) h n j r l k f p = let e = h.least j r l k f p in omega arith

-- a line to the next stop that costs no more
pub choice-takes : (ss : List Stop) (m : Measures) (ps : List (Option ℕ)) (i at rest cost : ℕ) (best : Option Choice) →
    IsChoice ss m ps i at best → IsNoMore best cost → i ≤ at → Fits ss m i (suc at) → potential_of ps (suc at) ≡ Some rest →
    cost ≡ cost_of ss m i (suc at) + rest → IsBestLine ss m ps i (suc at) (record { end = suc at; cost = cost })
choice-takes ss m ps i at rest cost best h n low fits p is = record {
  after = omega arith;
  within = omega arith;
  fits = fits;
  way = (rest, p, is);
  least = λ j r l w f q. elim (at_or_before j at w) [
    | inl k ↦ no-more ss m ps i at cost best h n j r l k f q
    | inr e ↦
        rw e (let s = same_Some r rest (sym (subst (λ (z : ℕ). potential_of ps z ≡ Some r) e q) ∙ p) in omega arith)
  ];
  longest = λ j r l w f q t. w;
}

-- no later line fits
pub choice-ends : (ss : List Stop) (m : Measures) (ps : List (Option ℕ)) (i at last : ℕ) (best : Option Choice) →
    IsChoice ss m ps i at best → at ≤ last → ((j : ℕ) → at < j → j ≤ last → Fits ss m i j → ⊥) → IsChoice ss m ps i last best
choice-ends ss m ps i at last None h a off = λ j l w f. elim (cases_lt at j) [ inl k ↦ absurd (off j k w f) | inr k ↦ h j l k f ]
choice-ends ss m ps i at last (Some c) h a off = record {
  after = h.after;
  within = let w = h.within in omega arith;
  fits = h.fits;
  way = h.way;
  least = λ j rest l w f p. elim (cases_lt at j) [ inl k ↦ absurd (off j k w f) | inr k ↦ h.least j rest l k f p ];
  longest = λ j rest l w f p t. elim (cases_lt at j) [ inl k ↦ absurd (off j k w f) | inr k ↦ h.longest j rest l k f p t ];
}

-- the potential that is listed for a later stop
pub listed : (ss : List Stop) (m : Measures) (ps : List (Option ℕ)) (i j q : ℕ) → ArePotentialsFrom ss m ps (suc i) → i < j → j ≤ length ss →
    potential_of ps j ≡ Some q → IsLeastCost ss m j q
listed ss m ps i j q known l w e = subst (λ (o : Option ℕ). IsPotential ss m j o) e (known j (omega arith) w)

-- how much it is at most
pub listed-small : (ss : List Stop) (m : Measures) (ps : List (Option ℕ)) (i at q : ℕ) → AreGoodMeasures m → length ss ≤ 4096 →
    ArePotentialsFrom ss m ps (i + 1) → i ≤ at → at < length ss → Some q ≡ potential_of ps (at + 1) → q ≤ 2 ^ 95
listed-small ss m ps i at q good few known l w e =
    least-small ss m (at + 1) q good few (subst (λ (o : Option ℕ). IsPotential ss m (at + 1) o) (sym e) (known (at + 1) (omega arith) (omega arith)))

-- no plan costs less than the choice
least-way : (ss : List Stop) (m : Measures) (ps : List (Option ℕ)) (i : ℕ) (c : Choice) → i < length ss → ArePotentialsFrom ss m ps (suc i) →
    IsBestLine ss m ps i (length ss) c → (other : List ℕ) → IsPlanFrom ss m i other → c.cost ≤ cost_from ss m i other
least-way ss m ps i c some known h [] p = absurd (omega arith)
least-way ss m ps i c some known h (j ∷ js) p =
    let w = plan-within ss m j js p.2 in
    let q = potential-some ss m j (potential_of ps j) js (known j (omega (arith, p.0)) w) p.2 in
    let e = h.least j q.0 p.0 w p.1 q.1 in
    omega (arith, e, q.2)

pub no-way : (ss : List Stop) (m : Measures) (ps : List (Option ℕ)) (i : ℕ) → i < length ss → ArePotentialsFrom ss m ps (suc i) →
    IsChoice ss m ps i (length ss) None → (other : List ℕ) → IsPlanFrom ss m i other → ⊥
no-way ss m ps i some known h [] p = omega arith
no-way ss m ps i some known h (j ∷ js) p =
    let w = plan-within ss m j js p.2 in
    let q = potential-some ss m j (potential_of ps j) js (known j (omega (arith, p.0)) w) p.2 in
    let e = h j p.0 w p.1 in
    let f = q.1 in
    cc

-- the choice's cost is the potential
pub choice-potential : (ss : List Stop) (m : Measures) (ps : List (Option ℕ)) (i : ℕ) (best : Option Choice) → i < length ss →
    ArePotentialsFrom ss m ps (suc i) → IsChoice ss m ps i (length ss) best → IsPotential ss m i (cost_in best)
choice-potential ss m ps i None some known h = no-way ss m ps i some known h
choice-potential ss m ps i (Some c) some known h =
    let l = listed ss m ps i c.end h.way.0 known h.after h.within h.way.1 in
    record {
      some = (c.end ∷ l.some.0, (h.after, h.fits, l.some.1), ap (λ (z : ℕ). cost_of ss m i c.end + z) l.some.2 ∙ sym h.way.2);
      least = least-way ss m ps i c some known h;
    }

greatest-way : (ss : List Stop) (m : Measures) (ps : List (Option ℕ)) (i : ℕ) (c : Choice) (js : List ℕ) → i < length ss →
    ArePotentialsFrom ss m ps (suc i) → IsBestLine ss m ps i (length ss) c → IsBestFrom ss m c.end js →
    (other : List ℕ) → IsPlanFrom ss m i other → cost_from ss m i other ≡ c.cost → AreNoLess (c.end ∷ js) other
greatest-way ss m ps i c js some known h b [] p same = absurd (omega arith)
greatest-way ss m ps i c js some known h b (k ∷ ks) p same =
    let w = plan-within ss m k ks p.2 in
    let q = potential-some ss m k (potential_of ps k) ks (known k (omega (arith, p.0)) w) p.2 in
    let e = h.least k q.0 p.0 w p.1 q.1 in
    let t : c.cost ≡ cost_of ss m i k + q.0 = omega (arith, e, q.2) in
    let g = h.longest k q.0 p.0 w p.1 q.1 t in
    elim (cases_eq c.end k) [
      | inl f ↦ inr (
        f,
        b.greatest ks (subst (λ (z : ℕ). IsPlanFrom ss m z ks) (sym f) p.2)
            (let l = listed ss m ps i c.end h.way.0 known h.after h.within h.way.1 in
            let own = best-cost ss m c.end h.way.0 js b l in
            let u : cost_from ss m i (c.end ∷ ks) ≡ c.cost = subst (λ (z : ℕ). cost_from ss m i (z ∷ ks) ≡ c.cost) (sym f) same in
            omega (arith, own, u, h.way.2)),
      )
      | inr n ↦ inl (omega arith)
    ]

-- the choice's end, and the best plan from there
pub choice-best : (ss : List Stop) (m : Measures) (ps : List (Option ℕ)) (i : ℕ) (c : Choice) (js : List ℕ) → i < length ss →
    ArePotentialsFrom ss m ps (suc i) → IsBestLine ss m ps i (length ss) c → IsBestFrom ss m c.end js → IsBestFrom ss m i (c.end ∷ js)
choice-best ss m ps i c js some known h b =
    let l = listed ss m ps i c.end h.way.0 known h.after h.within h.way.1 in
    let own = best-cost ss m c.end h.way.0 js b l in
    let all : cost_from ss m i (c.end ∷ js) ≡ c.cost = ap (λ (z : ℕ). cost_of ss m i c.end + z) own ∙ sym h.way.2 in
    record {
      plan = (h.after, h.fits, b.plan);
      least = λ other p. subst (λ (z : ℕ). z ≤ cost_from ss m i other) (sym all) (least-way ss m ps i c some known h other p);
      greatest = λ other p same. greatest-way ss m ps i c js some known h b other p (same ∙ all);
    }

-- a stop whose reach is too far isn't fitted
pub reach-misses : (ss : List Stop) (m : Measures) (i j : ℕ) (low : ℤ) → (begin_of ss i +ℤ measure_of m i) <ℤ low →
    low ≤ℤ reach_of (stop_of ss j) → Fits ss m i j → ⊥
unfolding Fits width_of
reach-misses ss m i j low far below fits = omega (arith, ints, clamps)

-- the potentials with one more, before them
pub known-more : (ss : List Stop) (m : Measures) (ps : List (Option ℕ)) (i : ℕ) (o : Option ℕ) → i < length ps →
    ArePotentialsFrom ss m ps (i + 1) → IsPotential ss m i o → ArePotentialsFrom ss m (set ps i o) i
known-more ss m ps i o within known here = λ k l w. elim (cases_eq k i) [
  | inl e ↦ rw e (rw (get_or-set_same ps i o None within) here)
  | inr ne ↦ rw (get_or-set_other ps i k o None ne) (known k (omega arith) w)
]

best-last-greatest : (ss : List Stop) (m : Measures) (other : List ℕ) → IsPlanFrom ss m (length ss) other → AreNoLess [] other
best-last-greatest ss m [] p = tt
best-last-greatest ss m (j ∷ js) p = absurd (past-end ss m (length ss) j js (omega arith) p)

-- no line is left after the last stop
pub best-last : (ss : List Stop) (m : Measures) → IsBestFrom ss m (length ss) []
best-last ss m = record { plan = refl; least = λ other p. omega arith; greatest = λ other p same. best-last-greatest ss m other p }

-- where there is no line but a potential, the paragraph has ended
pub best-end : (ss : List Stop) (m : Measures) (ps : List (Option ℕ)) (i cost : ℕ) → i ≤ length ss → ArePotentialsFrom ss m ps i →
    IsChoice ss m ps i (length ss) None → potential_of ps i ≡ Some cost → IsBestFrom ss m i []
best-end ss m ps i cost high known h e = elim (cases_lt i (length ss)) [
  | inl l ↦ absurd (let q : IsLeastCost ss m i cost = subst (λ (o : Option ℕ). IsPotential ss m i o) e (known i (omega arith) high) in
      no-way ss m ps i l (λ k a b. known k (omega arith) b) h q.some.0 q.some.1)
  | inr l ↦ (let f : length ss ≡ i = omega arith in subst (λ (z : ℕ). IsBestFrom ss m z []) f (best-last ss m))
]
