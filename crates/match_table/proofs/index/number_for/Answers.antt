use Rattle.std.proofs.Common.{◌<◌, ◌∙◌, length, ap, sym, subst}
use Rattle.std.specs.Prelude.{IfSome}
use Rattle.match_table.specs.Index.{IsNumberIn, IsNumberFor, IsRarest, rarer}
use Rattle.match_table.proofs.IndexLemmas.{one-of, rarer-one, rarest-for}
use Rattle.match_table.proofs.index.number_for.Goals as goal

pub returns : goal.returns
returns c = record {
  key = subst (λ o. IsRarest c.args.lists.now (IsNumberFor c.args.compound.now c.args.words.now) o)
      (sym (c.rarer.ensures ∙ ap (rarer c.args.lists.now c.rarest-of_tests.result) c.number_of_type.ensures.value))
      (rarest-for c.args.lists.now c.args.words.now c.args.compound.now c.rarest-of_tests.result
      (subst (λ ts. IsRarest c.args.lists.now (IsNumberIn ts c.args.words.now) c.rarest-of_tests.result) c.as_slice-tests.ensures c.rarest-of_tests.ensures.key));
  within = subst (λ o. IfSome o (λ i. i < length c.args.words.now)) (sym c.rarer.ensures)
      (one-of (λ i. i < length c.args.words.now) (rarer c.args.lists.now c.rarest-of_tests.result c.number_of_type.result) c.rarest-of_tests.result c.number_of_type.result
      (rarer-one c.args.lists.now c.rarest-of_tests.result c.number_of_type.result) c.rarest-of_tests.ensures.within c.number_of_type.ensures.within);
}
