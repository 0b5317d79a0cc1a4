-- The later lines of a plan.
use Rattle.std.proofs.Common.{◌≡◌, ℕ, suc, zero, ◌+◌, ◌-◌, ◌<◌, ◌≤◌, ℤ, true, List, [], ◌∷◌, drop, length, get_or, subst, sym, arith}
use Rattle.std.specs.List.{All}
use Rattle.std.specs.Str.{IsUtf8}
use Rattle.std.proofs.lemmas.List.Elements.{All-nil}
use Rattle.metrics.specs.Face.{FontFace}
use Rattle.boxes.specs.Contents.{IsGoodLeaf}
use Rattle.boxes.specs.Lines.{LineView}
use Rattle.boxes.specs.declared.leaf.Leaf.{Leaf}
use Rattle.total_fit.specs.declared.plan.Stop.{Stop}
use Rattle.total_fit.specs.declared.plan.Measures.{Measures}
use Rattle.total_fit.specs.Plans.{IsBest, IsPlanFrom}
use Rattle.total_fit.proofs.PlanLemmas.{plan-within}
use Rattle.line_fill.specs.Filled.{AreFilled}
use Rattle.line_fill.specs.LineEnd.{IsEnd, IsLine}
use Rattle.line_fill.specs.Rests.{IsRestOfPlan, begins_plain}
use Rattle.line_fill.specs.Stops.{measures_of, offsets_of, stops_of}
use Rattle.line_fill.specs.declared.plan.Filled.{Filled}
use Rattle.line_fill.proofs.OffsetLemmas.{stops-count}
use Rattle.line_fill.proofs.RestLemmas.{line-at, place-at, rest-at}

-- each end of a plan is one of its stops
ends-within : (ss : List Stop) (m : Measures) (i : ℕ) (ends : List ℕ) → IsPlanFrom ss m i ends → (k : ℕ) → k < length ends →
    (0 < get_or ends k 0) × (get_or ends k 0 ≤ length ss)
ends-within ss m i [] p k l = absurd (omega arith)
ends-within ss m i (j ∷ js) p zero l = (let q = p.0 in omega arith, plan-within ss m j js p.2)
ends-within ss m i (j ∷ js) p (suc k) l = ends-within ss m j js p.2 k (omega arith)

pub end-stands : (faces : List FontFace) (leaf : Leaf) (from : ℕ) (measure : ℤ) (ends : List ℕ) →
    IsBest (stops_of faces leaf from) (measures_of leaf from measure) ends → (k : ℕ) → k < length ends →
    get_or ends k 0 - 1 < length (offsets_of leaf from)
end-stands faces leaf from measure ends best k l =
    let w = ends-within (stops_of faces leaf from) (measures_of leaf from measure) 0 ends best.plan k l in
    let low = w.0 in
    let high = w.1 in
    let n = stops-count faces leaf from in
    omega (arith, low, high, n)

-- the line with an index, from the end of the one before it on
module _ (faces : List FontFace) (leaf : Leaf) (from : ℕ) (measure : ℤ) (ends : List ℕ) (index : ℕ) (good : IsGoodLeaf leaf)
    (low : 1 ≤ index) (more : index < length ends)
    (rest : (last : ℕ) × (at : ℕ) × IsRestOfPlan faces leaf from measure last at (drop (index - 1) ends)) where
  abbrev here : ℕ
  here = get_or (offsets_of leaf from) (get_or ends (index - 1) 0 - 1) 0

  pub ahead-inside : here < length leaf.text
  ahead-inside = (place-at faces leaf from measure rest.0 rest.1 (index - 1) ends rest.2 good (omega arith)).1

  pub ahead-rest : IsUtf8 leaf.text → begins_plain leaf.text here ≡ true →
      IsRestOfPlan faces leaf from measure (get_or ends (index - 1) 0) here (drop index ends)
  ahead-rest utf8 plain =
      let i : index - 1 + 1 ≡ index = omega arith in
      subst (λ (k : ℕ). IsRestOfPlan faces leaf from measure (get_or ends (index - 1) 0) here (drop k ends)) i
      (rest-at faces leaf from measure rest.0 rest.1 (index - 1) ends rest.2 good utf8 (omega arith) plain)

  pub ahead-line : IsUtf8 leaf.text → begins_plain leaf.text here ≡ true → leaf.fit ≡ true → length (offsets_of leaf from) ≤ 4096 →
      IsEnd faces leaf here measure (get_or (offsets_of leaf from) (get_or ends index 0 - 1) 0)
  ahead-line utf8 plain fit few =
      let n = stops-count faces leaf from in
      line-at faces leaf from measure (get_or ends (index - 1) 0) here index ends (ahead-rest utf8 plain) more fit (omega (arith, n, few))

-- a line that no plan chose
pub alone-filled : (faces : List FontFace) (leaf : Leaf) (from : ℕ) (measure : ℤ) (line : LineView) (filled : Filled) →
    filled.line ≡ line → filled.ahead.items ≡ [] → IsLine faces leaf from measure line → AreFilled faces leaf from measure filled
alone-filled faces leaf from measure line filled e none is = record {
  line = subst (IsLine faces leaf from measure) (sym e) is;
  ahead = subst (All (λ l. IsLine faces leaf l.from measure l)) (sym none) (All-nil (λ l. IsLine faces leaf l.from measure l));
}
