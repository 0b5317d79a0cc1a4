use Rattle.std.proofs.Common.{◌≡◌, ◌-◌, suc, ℕ, true, false, sym, ap, ◌∙◌, arith}
use Rattle.metrics.specs.Widths.{begun_at, is_paired, last_from, last_with}
use Rattle.metrics.proofs.LastLemmas.{last_here, last_stays, last_step}
use Rattle.metrics.proofs.pen.last_before.Goals as goal

pub loop-next-preserved-else-is_paired : goal.loop-next-preserved-else-is_paired
loop-next-preserved-else-is_paired c =
    let old = c.loop-next.invariant.within in
    let test = c.loop-next-test.true in
    let some : suc (c.loop-next.next - 1) ≡ c.loop-next.next = omega arith in
    let step = last_step c.args.text.now c.args.begin (c.loop-next.next - 1) (omega arith) in
    record {
      within = omega arith;
      same = c.loop-next.invariant.same ∙ ap (λ (n : ℕ). last_from c.args.text.now c.args.begin (n - c.args.begin)) (sym some) ∙ step
          ∙ ap (last_with (last_from c.args.text.now c.args.begin (c.loop-next.next - 1 - c.args.begin))) (sym c.begun_at.ensures ∙ c.in-Some.is)
          ∙ last_stays (last_from c.args.text.now c.args.begin (c.loop-next.next - 1 - c.args.begin)) c.in-Some.c (sym c.is_paired.ensures ∙ c.if-is_paired.false);
    }

pub loop-next-preserved : goal.loop-next-preserved
loop-next-preserved c =
    let old = c.loop-next.invariant.within in
    let test = c.loop-next-test.true in
    let some : suc (c.loop-next.next - 1) ≡ c.loop-next.next = omega arith in
    let step = last_step c.args.text.now c.args.begin (c.loop-next.next - 1) (omega arith) in
    record {
      within = omega arith;
      same = c.loop-next.invariant.same ∙ ap (λ (n : ℕ). last_from c.args.text.now c.args.begin (n - c.args.begin)) (sym some) ∙ step
          ∙ ap (last_with (last_from c.args.text.now c.args.begin (c.loop-next.next - 1 - c.args.begin))) (sym c.begun_at.ensures ∙ c.in_default.is);
    }

pub returns-then-is_paired : goal.returns-then-is_paired
returns-then-is_paired c =
    let old = c.loop-next.invariant.within in
    let test = c.loop-next-test.true in
    let some : suc (c.loop-next.next - 1) ≡ c.loop-next.next = omega arith in
    let step = last_step c.args.text.now c.args.begin (c.loop-next.next - 1) (omega arith) in
    sym (c.loop-next.invariant.same ∙ ap (λ (n : ℕ). last_from c.args.text.now c.args.begin (n - c.args.begin)) (sym some) ∙ step
    ∙ ap (last_with (last_from c.args.text.now c.args.begin (c.loop-next.next - 1 - c.args.begin))) (sym c.begun_at.ensures ∙ c.in-Some.is)
    ∙ last_here (last_from c.args.text.now c.args.begin (c.loop-next.next - 1 - c.args.begin)) c.in-Some.c (sym c.is_paired.ensures ∙ c.if-is_paired.true))
