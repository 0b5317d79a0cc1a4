use Rattle.std.proofs.Common.{◌≡◌, ◌∙◌, ◌+◌, ◌<◌, ℕ, List, [], ◌∷◌, ◌++◌, Vec, ap, arith, get_or, length, rules, sym}
use Rattle.std.proofs.lemmas.List.{get_or_default}
use Rattle.std.specs.Char.{len_utf8}
use Rattle.std.specs.Global.{Global}
use Rattle.hyphen.specs.Meaning.{value_in}
use Rattle.hyphen.proofs.PointLemmas.{no_points, offset_next, offset_none, point_is, points_end, points_passed, points_taken}
use Rattle.hyphen.specs.Points.{is_point, offset_of}
use Rattle.hyphen.proofs.patterns.Patterns.points.Goals as goal
use Rattle.hyphen.proofs.patterns.Patterns.points.Goals.{then-is_point+in_ok-push, else-is_point}

pub returns-then-len-left : goal.returns-then-len-left
returns-then-len-left c = c.new-points.ensures.items ∙ sym (no_points c.args.word.now c.args.left c.args.right (value_in c.args.self.now) (omega (arith, ap length c.in_ok-letters.ensures.letters)))

pub loop-place-init : goal.loop-place-init
loop-place-init c = record {
  offset = sym (offset_none c.in_ok-letters.letters.items);
  few = omega arith;
  points = c.new-points.ensures.items;
}

pub returns : goal.returns
returns c = points_end (value_in c.args.self.now) c.args.word.now c.in_ok-letters.letters.items c.loop-place.points.items c.args.left c.args.right c.loop-place.place c.in_ok-letters.ensures.letters (omega arith) c.loop-place.invariant.points

pub loop-place-preserved : goal.loop-place-preserved
loop-place-preserved c =
    let letters = c.in_ok-letters.letters.items in
    let place = c.loop-place.place in
    let here : place < length letters = omega arith in
    let next : offset_of letters (place + 1) ≡ offset_of letters place + len_utf8 (get_or letters place c.index-in-loop-place.result.now) = offset_next letters place c.index-in-loop-place.result.now here in
    let size : len_utf8 (get_or letters place c.index-in-loop-place.result.now) ≡ c.len_utf8.result = ap len_utf8 (sym c.index-in-loop-place.ensures) ∙ sym c.len_utf8.ensures.value in
    let n = length letters in
    let value : ℕ → ℕ = value_in c.args.self.now letters in
    let inside : place < length c.in_ok-values.values.items = search rules in
    let v : c.index.result.now ≡ value place = c.index.ensures ∙ get_or_default c.in_ok-values.values.items place c.index.result.now 0 inside ∙ c.in_ok-values.ensures.values place (omega (arith, here, ap length c.deref.ensures.value)) ∙ ap (λ (l : List ℕ). value_in c.args.self.now l place) c.deref.ensures.value in
    let tested : c.is_point.result ≡ is_point n c.args.left c.args.right value place = point_is n c.args.left c.args.right place c.index.result.now value c.is_point.result (search rules) v in
    record {
      offset = omega (arith, next, size, c.loop-place.invariant.offset);
      few = omega (arith, c.len_utf8.ensures.upper_bound, c.loop-place.invariant.few);
      points = elim c.if-is_point.branch [
        | then-is_point+in_ok-push w ↦
            (let offset : c.loop-place.offset ≡ offset_of letters place = c.loop-place.invariant.offset in
            ap (λ (p : Vec ℕ Global). p.items) w.points-is ∙ w.in_ok-push.ensures.items ∙ ap (λ (x : ℕ). c.loop-place.points.items ++ x ∷ []) offset ∙ points_taken (offset_of letters) (is_point n c.args.left c.args.right value) place c.loop-place.points.items c.loop-place.invariant.points (sym tested ∙ w.if-is_point.true))
        | else-is_point w ↦ ap (λ (p : Vec ℕ Global). p.items) w.points-is ∙ points_passed (offset_of letters) (is_point n c.args.left c.args.right value) place c.loop-place.points.items c.loop-place.invariant.points (sym tested ∙ w.if-is_point.false)
      ];
    }
