-- The best plan from a stop on, and that of the rest of the paragraph.
use Rattle.std.proofs.Common.{◌≡◌, ℕ, ◌+◌, ◌-◌, ◌<◌, ◌≤◌, inl, inr, List, [], ◌∷◌, Option, Some, None, length, drop, map, refl, sym, ◌∙◌, ap, subst, arith, eqb}
use Rattle.std.proofs.lemmas.Bool.{cases_eq, cond-true, cond-false, eq-eqb, ne_eqb}
use Rattle.std.proofs.lemmas.List.{get_or-drop, length-drop}
use Rattle.total_fit.specs.declared.plan.Stop.{Stop}
use Rattle.total_fit.specs.declared.plan.Measures.{Measures}
use Rattle.total_fit.specs.Laws.{BestGoesOn, BestIsOfRest, PotentialsAreOfRest, RestOfBestIsBest}
use Rattle.total_fit.specs.Lines.{Fits, cost_of, measure_of}
use Rattle.total_fit.specs.Plans.{ArePotentials, AreNoLess, IsBest, IsBestFrom, IsPlanFrom, IsPotential, cost_from, potential_of}
use Rattle.total_fit.specs.Rests.{AreRest, ends_after, measures_after, stops_after}
use Rattle.total_fit.proofs.CertificateLemmas.{rest-least}
use Rattle.total_fit.proofs.PlanLemmas.{plan-within}
use Rattle.total_fit.proofs.RestLemmas.{rest-after}

own-rest : (e : ℕ) (xs ys : List ℕ) → AreNoLess (e ∷ xs) (e ∷ ys) → AreNoLess xs ys
own-rest e xs ys (inl h) = absurd (omega arith)
own-rest e xs ys (inr h) = h.1

pub best-goes-on : BestGoesOn
best-goes-on ss m i e ends b = record {
  plan = b.plan.2;
  least = rest-least ss m i e ends b.plan b.least;
  greatest = λ other p same. own-rest e ends other
      (b.greatest (e ∷ other) (b.plan.0, b.plan.1, p) (ap (λ (z : ℕ). cost_of ss m i e + z) same));
}

rest-measure : (m : Measures) (i : ℕ) → measure_of (measures_after m) i ≡ m.rest
rest-measure m i = elim (cases_eq i 0) [
  | inl z ↦ cond-true (eqb i 0) m.rest m.rest (eq-eqb i 0 z)
  | inr ne ↦ cond-false (eqb i 0) m.rest m.rest (ne_eqb i 0 ne)
]

measure-after : (m : Measures) (e i : ℕ) → 0 < e → measure_of (measures_after m) i ≡ measure_of m (e + i)
measure-after m e i some =
    rest-measure m i ∙ sym (cond-false (eqb (e + i) 0) m.first m.rest (ne_eqb (e + i) 0 (λ z. omega arith)))

last-after : (n k e j : ℕ) → e + k ≡ n → eqb j k ≡ eqb (e + j) n
last-after n k e j w = elim (cases_eq j k) [
  | inl z ↦ eq-eqb j k z ∙ sym (eq-eqb (e + j) n (omega arith))
  | inr ne ↦ ne_eqb j k ne ∙ sym (ne_eqb (e + j) n (λ z. ne (omega arith)))
]

module _ (ss later : List Stop) (m : Measures) (e : ℕ) (rest : AreRest ss e later) where
  fits-there : (i j : ℕ) → i < j → j ≤ length later → Fits later (measures_after m) i j → Fits ss m (e + i) (e + j)
  unfolding Fits
  fits-there i j l w f = rw (← rest.widths i j l w, ← measure-after m e i rest.some) f

  fits-here : (i j : ℕ) → i < j → j ≤ length later → Fits ss m (e + i) (e + j) → Fits later (measures_after m) i j
  unfolding Fits
  fits-here i j l w f = rw (rest.widths i j l w, measure-after m e i rest.some) f

  cost-after : (i j : ℕ) → i < j → j ≤ length later → cost_of later (measures_after m) i j ≡ cost_of ss m (e + i) (e + j)
  unfolding cost_of
  cost-after i j l w =
      rw (
        last-after (length ss) (length later) e j rest.count,
        rest.widths i j l w,
        measure-after m e i rest.some,
        rest.hyphens j (omega arith) w,
      ) refl

  -- plans with one numbering and with the other
  plan-here : (i : ℕ) (js : List ℕ) → IsPlanFrom ss m (e + i) js → IsPlanFrom later (measures_after m) i (ends_after e js)
  plan-here i [] p = let n = rest.count in omega (arith, n, p)
  plan-here i (j ∷ js) p =
      let w = plan-within ss m j js p.2 in
      let l : i < j - e = omega (arith, p.0) in
      let n : j ≡ e + (j - e) = omega (arith, p.0) in
      let f : Fits ss m (e + i) (e + (j - e)) = subst (λ (z : ℕ). Fits ss m (e + i) z) n p.1 in
      let q : IsPlanFrom ss m (e + (j - e)) js = subst (λ (z : ℕ). IsPlanFrom ss m z js) n p.2 in
      (l, fits-here i (j - e) l (let c = rest.count in omega (arith, w, c)) f, plan-here (j - e) js q)

  pub plan-there : (i : ℕ) (js : List ℕ) → IsPlanFrom later (measures_after m) i js → IsPlanFrom ss m (e + i) (map (λ j. e + j) js)
  plan-there i [] p = let n = rest.count in omega (arith, n, p)
  plan-there i (j ∷ js) p =
      let w = plan-within later (measures_after m) j js p.2 in
      (omega (arith, p.0), fits-there i j p.0 w p.1, plan-there j js p.2)

  cost-here : (i : ℕ) (js : List ℕ) → IsPlanFrom ss m (e + i) js →
      cost_from later (measures_after m) i (ends_after e js) ≡ cost_from ss m (e + i) js
  cost-here i [] p = refl
  cost-here i (j ∷ js) p =
      let w = plan-within ss m j js p.2 in
      let l : i < j - e = omega (arith, p.0) in
      let n : j ≡ e + (j - e) = omega (arith, p.0) in
      let q : IsPlanFrom ss m (e + (j - e)) js = subst (λ (z : ℕ). IsPlanFrom ss m z js) n p.2 in
      let one = cost-after i (j - e) l (let c = rest.count in omega (arith, w, c)) in
      let more = cost-here (j - e) js q in
      let all : cost_from later (measures_after m) i (ends_after e (j ∷ js)) ≡ cost_from ss m (e + i) ((e + (j - e)) ∷ js) =
      omega (arith, one, more) in
      all ∙ ap (λ (z : ℕ). cost_from ss m (e + i) (z ∷ js)) (sym n)

  cost-there : (i : ℕ) (js : List ℕ) → IsPlanFrom later (measures_after m) i js →
      cost_from ss m (e + i) (map (λ j. e + j) js) ≡ cost_from later (measures_after m) i js
  cost-there i [] p = refl
  cost-there i (j ∷ js) p =
      let w = plan-within later (measures_after m) j js p.2 in
      let one = cost-after i j p.0 w in
      let more = cost-there j js p.2 in
      omega (arith, one, more)

  best-here : (ends : List ℕ) → IsBestFrom ss m (e + 0) ends → IsBest later (measures_after m) (ends_after e ends)
  best-here ends b =
      let own = cost-here 0 ends b.plan in
      record {
        plan = plan-here 0 ends b.plan;
        least = λ other p.
            (let h = b.least (map (λ j. e + j) other) (plan-there 0 other p) in
            let c = cost-there 0 other p in
            omega (arith, h, c, own));
        greatest = λ other p same. no-less-after ends other
            (b.greatest (map (λ j. e + j) other) (plan-there 0 other p) (cost-there 0 other p ∙ same ∙ own));
      }
    where
      no-less-after : (xs ys : List ℕ) → AreNoLess xs (map (λ j. e + j) ys) → AreNoLess (ends_after e xs) ys
      no-less-after [] [] h = tt
      no-less-after [] (y ∷ ys) h = h
      no-less-after (x ∷ xs) [] h = h
      no-less-after (x ∷ xs) (y ∷ ys) (inl h) = inl (omega arith)
      no-less-after (x ∷ xs) (y ∷ ys) (inr h) = inr (omega (arith, h.0), no-less-after xs ys h.1)

  -- the potential of a stop is that of the same stop of the rest
  potential-here : (i : ℕ) (o : Option ℕ) → IsPotential ss m (e + i) o → IsPotential later (measures_after m) i o
  potential-here i None h = λ ends p. h (map (λ j. e + j) ends) (plan-there i ends p)
  potential-here i (Some q) h = record {
    some = (ends_after e h.some.0, plan-here i h.some.0 h.some.1, cost-here i h.some.0 h.some.1 ∙ h.some.2);
    least = λ other p. let l = h.least (map (λ j. e + j) other) (plan-there i other p) in let c = cost-there i other p in omega (arith, l, c);
  }

  potentials-here : (ps : List (Option ℕ)) → ArePotentials ss m ps → ArePotentials later (measures_after m) (drop e ps)
  potentials-here ps h =
      let n = rest.count in
      let k = h.count in
      record {
        count = simp length-drop (omega (arith, n, k));
        each = λ i w. subst (λ (o : Option ℕ). IsPotential later (measures_after m) i o) (sym (get_or-drop e ps i None))
            (potential-here i (potential_of ps (e + i)) (h.each (e + i) (omega (arith, n))));
      }

pub best-is-of-rest : BestIsOfRest
best-is-of-rest ss later m e ends rest b =
    let n : e ≡ e + 0 = omega arith in
    best-here ss later m e rest ends (subst (λ (z : ℕ). IsBestFrom ss m z ends) n b)

pub potentials-are-of-rest : PotentialsAreOfRest
potentials-are-of-rest ss later m e ps rest h = potentials-here ss later m e rest ps h

pub rest-of-best : RestOfBestIsBest
rest-of-best ss m e ends b =
    best-is-of-rest ss (stops_after ss e) m e ends (rest-after ss e b.plan.0 (plan-within ss m e ends b.plan.2))
    (best-goes-on ss m 0 e ends b)
