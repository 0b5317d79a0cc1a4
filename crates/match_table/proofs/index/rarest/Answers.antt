use Rattle.std.proofs.Common.{◌+◌, ◌<◌, ◌∙◌, length, take, ap, sym, subst}
use Rattle.std.specs.Prelude.{IfSome}
use Rattle.match_table.specs.Index.{IsNumberIn, IsRarest, rarer}
use Rattle.match_table.proofs.IndexLemmas.{one-of, rarer-one, rarest-none, rarest-more, taken-all}
use Rattle.match_table.proofs.index.rarest.Goals as goal

pub loop-test-init : goal.loop-test-init
loop-test-init c = record { key = rarest-none c.args.lists.now c.args.words.now c.args.tests.now; within = tt }

pub loop-test-preserved : goal.loop-test-preserved
loop-test-preserved c = record {
  key = subst (λ o. IsRarest c.args.lists.now (IsNumberIn (take (c.loop-test.test-index + 1) c.args.tests.now) c.args.words.now) o)
      (sym (c.rarer-best.ensures ∙ ap (rarer c.args.lists.now c.loop-test.best) c.number_of_test.ensures.value))
      (rarest-more c.args.lists.now c.args.words.now c.args.tests.now c.loop-test.test-index c.test-item.result c.loop-test.best c.loop-test-test.true c.test-item.is c.loop-test.invariant.key);
  within = subst (λ o. IfSome o (λ i. i < length c.args.words.now)) (sym c.rarer-best.ensures)
      (one-of (λ i. i < length c.args.words.now) (rarer c.args.lists.now c.loop-test.best c.number_of_test.result) c.loop-test.best c.number_of_test.result
      (rarer-one c.args.lists.now c.loop-test.best c.number_of_test.result) c.loop-test.invariant.within c.number_of_test.ensures.within);
}

pub returns : goal.returns
returns c = record {
  key = subst (λ l. IsRarest c.args.lists.now (IsNumberIn l c.args.words.now) c.loop-test.best) (taken-all c.loop-test.test-index c.args.tests.now c.loop-test-test.false) c.loop-test.invariant.key;
  within = c.loop-test.invariant.within;
}
