use Rattle.std.proofs.Common.{◌≡◌, ◌∙◌, ◌<◌, ◌-◌, ℕ, suc, sym, subst, ap, length, arith}
use Rattle.std.proofs.Math.Seq.{take-length}
use Rattle.std.proofs.lemmas.Int.{ints}
use Rattle.boxes.specs.declared.span.Content.{Content}
use Rattle.paint.proofs.OpenLemmas.{AreUpTo, found_at, left_near, not_found, up_to_all, up_to_less}
use Rattle.paint.proofs.opens.left_of.Goals as goal

pub loop-at-init : goal.loop-at-init
loop-at-init c = record {
  within = omega arith;
  up_to = λ t m boxes same. up_to_all t m c.args.opens.now c.args.number boxes same (take-length c.args.opens.now);
}

pub loop-at-preserved : goal.loop-at-preserved
loop-at-preserved c =
    let n : ℕ = c.loop-at.at - 1 in
    let next : c.loop-at.at ≡ suc n = omega arith in
    let less : n < length c.args.opens.now = (let w = c.loop-at.invariant.within in omega arith) in
    record {
      within = omega arith;
      up_to = λ t m boxes same. up_to_less t m c.args.opens.now c.args.number n _ boxes less (sym c.has_number.ensures ∙ c.if-has_number.false) (subst (λ (k : ℕ). AreUpTo t m c.args.opens.now c.args.number k boxes) next (c.loop-at.invariant.up_to t m boxes same));
    }

pub returns-then-has_number-clause-value : goal.returns-then-has_number-clause-value
returns-then-has_number-clause-value c = λ t m boxes same.
    let n : ℕ = c.loop-at.at - 1 in
    let next : c.loop-at.at ≡ suc n = omega arith in
    let less : n < length c.args.opens.now = (let w = c.loop-at.invariant.within in omega arith) in
    let found = found_at t m c.args.opens.now c.args.number n _ boxes less (sym c.has_number.ensures ∙ c.if-has_number.true) (subst (λ (k : ℕ). AreUpTo t m c.args.opens.now c.args.number k boxes) next (c.loop-at.invariant.up_to t m boxes same)) in
    let left = ap (λ (x : Content). x.left) found in
    omega (arith, ints, left)

pub returns-clause-value : goal.returns-clause-value
returns-clause-value c = λ t m boxes same.
    let none : c.loop-at.at ≡ 0 = omega arith in
    let zero_left = not_found t m c.args.opens.now c.args.number boxes (subst (λ (k : ℕ). AreUpTo t m c.args.opens.now c.args.number k boxes) none (c.loop-at.invariant.up_to t m boxes same)) in
    omega (arith, ints, zero_left)

pub returns-then-has_number-clause-within : goal.returns-then-has_number-clause-within
returns-then-has_number-clause-within c =
    let n : ℕ = c.loop-at.at - 1 in
    let less : n < length c.args.opens.now = (let w = c.loop-at.invariant.within in omega arith) in
    let near = left_near c.args.opens.now c.args.number n _ less (sym c.has_number.ensures ∙ c.if-has_number.true) c.requires.bounded in
    omega (arith, ints, near)
