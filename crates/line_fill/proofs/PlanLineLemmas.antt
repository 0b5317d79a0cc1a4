-- The first line of a plan.
use Rattle.std.proofs.Common.{◌≡◌, ℕ, ◌-◌, ◌<◌, ◌≤◌, ℤ, true, List, [], ◌∷◌, length, get_or, drop, refl, subst, arith}
use Rattle.metrics.specs.Face.{FontFace}
use Rattle.boxes.specs.declared.leaf.Leaf.{Leaf}
use Rattle.total_fit.specs.declared.plan.Stop.{Stop}
use Rattle.total_fit.specs.declared.plan.Measures.{Measures}
use Rattle.total_fit.specs.Plans.{IsBest}
use Rattle.total_fit.proofs.PlanLemmas.{plan-within}
use Rattle.line_fill.specs.LineEnd.{IsEnd, at_plan}
use Rattle.line_fill.specs.Stops.{measures_of, offsets_of, stops_of}
use Rattle.line_fill.proofs.OffsetLemmas.{offsets-some, stops-count}

-- a plan has a first end
pub record IsFirstEnd (ss : List Stop) (ends : List ℕ) : Type 0 where
  pub some : 0 < length ends
  pub low : 0 < get_or ends 0 0
  pub high : get_or ends 0 0 ≤ length ss
  pub split : ends ≡ get_or ends 0 0 ∷ drop 1 ends

first-end : (ss : List Stop) (m : Measures) (ends : List ℕ) → 0 < length ss → IsBest ss m ends → IsFirstEnd ss ends
first-end ss m [] h best = absurd (let p : 0 ≡ length ss = best.plan in omega arith)
first-end ss m (e ∷ ends) h best = record {
  some = omega arith;
  low = best.plan.0;
  high = plan-within ss m e ends best.plan.2;
  split = refl;
}

module _ (faces : List FontFace) (leaf : Leaf) (from : ℕ) (measure : ℤ) (ends : List ℕ)
    (best : IsBest (stops_of faces leaf from) (measures_of leaf from measure) ends) where
  pub planned-first : IsFirstEnd (stops_of faces leaf from) ends
  planned-first =
      let s = offsets-some leaf from in
      let n = stops-count faces leaf from in
      first-end (stops_of faces leaf from) (measures_of leaf from measure) ends (omega (arith, n)) best

  pub planned-within : get_or ends 0 0 - 1 < length (offsets_of leaf from)
  planned-within =
      let f = planned-first in
      let l = f.low in
      let h = f.high in
      let n = stops-count faces leaf from in
      omega (arith, n)

  pub planned-end : leaf.fit ≡ true → length (offsets_of leaf from) ≤ 4096 →
      IsEnd faces leaf from measure (get_or (offsets_of leaf from) (get_or ends 0 0 - 1) 0)
  planned-end fit few =
      let n = stops-count faces leaf from in
      at_plan fit (omega (arith, n)) (get_or ends 0 0) (drop 1 ends)
      (subst (λ (es : List ℕ). IsBest (stops_of faces leaf from) (measures_of leaf from measure) es) planned-first.split best) refl
