-- The sums of a line with one byte more.
use Rattle.std.proofs.Common.{◌≡◌, ◌∙◌, ℕ, suc, ◌+◌, ◌-◌, ◌^◌, ◌≤◌, Bool, List, refl, ap, ap₂, max, sym, arith, Some, true, false}
use Rattle.metrics.specs.Face.{FontFace}
use Rattle.boxes.specs.declared.leaf.Leaf.{Leaf}
use Rattle.boxes.specs.declared.leaf.Span.{Span}
use Rattle.metrics.specs.Widths.{byte_width, sum_from}
use Rattle.line_fill.specs.Widths.{pen_of, span_at, unit_at}
use Rattle.line_place.specs.declared.sums.Sums.{Sums}
use Rattle.line_place.specs.Runs.{is_free}
use Rattle.line_place.specs.Sums.{AreSums, one}

-- inside a span its style counts
unit_here : (faces : List FontFace) (leaf : Leaf) (s : Span) (from k : ℕ) → span_at leaf.spans k ≡ Some s → byte_width (pen_of faces s) leaf.text (max from s.from) k ≡ unit_at faces leaf from k
unfolding unit_at
unit_here faces leaf s from k here = rw here refl

one_most : (b : Bool) → one b ≤ 1
one_most true = omega arith
one_most false = omega arith

sum_step : (unit : ℕ → ℕ) (from at : ℕ) → from ≤ at → sum_from unit from (at + 1 - from) ≡ sum_from unit from (at - from) + unit at
sum_step unit from at low =
    let e : at + 1 - from ≡ suc (at - from) = omega arith in
    let f : from + (at - from) ≡ at = omega arith in
    ap (sum_from unit from) e ∙ ap (λ (k : ℕ). sum_from unit from (at - from) + unit k) f

pub sums_step : (faces : List FontFace) (leaf : Leaf) (s : Span) (end from at width : ℕ) (free : Bool) (before after : Sums) → from ≤ at → AreSums faces leaf end from at before → span_at leaf.spans at ≡ Some s → width ≡ byte_width (pen_of faces s) leaf.text (max from s.from) at → width ≤ 2 ^ 27 → free ≡ is_free leaf.text end at →
    after.width ≡ before.width + width → after.passed ≡ before.passed + one free → AreSums faces leaf end from (at + 1) after
sums_step faces leaf s end from at width free before after low sums here unit most shared w p =
    let e : at + 1 - from ≡ suc (at - from) = omega arith in
    record {
      width = w ∙ ap₂ (λ (a b : ℕ). a + b) sums.width (unit ∙ unit_here faces leaf s from at here) ∙ sym (sum_step (unit_at faces leaf from) from at low);
      passed = p ∙ ap₂ (λ (a b : ℕ). a + b) sums.passed (ap one shared) ∙ sym (sum_step (λ k. one (is_free leaf.text end k)) from at low);
      wide = let h = sums.wide in omega (arith, e, h, w, most);
      few = let h = sums.few in let o = one_most free in omega (arith, e, h, p, o);
    }
