use Rattle.std.proofs.Common.{◌∙◌, sym, subst, arith}
use Rattle.std.specs.List.{All}
use Rattle.std.specs.Str.{IsCharBoundary}
use Rattle.inline_text.proofs.EndLemmas.{one-end, stand-end}
use Rattle.inline_text.proofs.joined.push_ends.Goals as goal

pub loop-ends-preserved : goal.loop-ends-preserved
loop-ends-preserved c = record {
  ends = one-end c.loop-ends.ends.items c.push.new.self.items c.args.count c.args.at c.in_ok-push.ensures.items (omega (arith, c.loop-ends-test.true, c.len.ensures, c.loop-ends.ends.ok.0)) ∙ c.loop-ends.invariant.ends;
  stand = λ text b a. subst (All (IsCharBoundary text)) (sym c.in_ok-push.ensures.items) (stand-end text c.loop-ends.ends.items c.args.at b (c.loop-ends.invariant.stand text b a));
}

pub returns-in_err-push-clause-stand : goal.returns-in_err-push-clause-stand
returns-in_err-push-clause-stand c = λ text b a. subst (All (IsCharBoundary text)) (sym c.in_err-push.ensures.items) (c.loop-ends.invariant.stand text b a)
