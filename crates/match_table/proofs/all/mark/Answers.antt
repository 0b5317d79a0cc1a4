use Rattle.std.proofs.Common.{◌∙◌, ◌<◌, length, sym, subst}
use Rattle.std.specs.List.{Contains}
use Rattle.match_table.proofs.IndexLemmas.{candidates, item-is}
use Rattle.match_table.proofs.all.mark.Goals as goal

pub mark_listed-requires-clause-candidates : goal.mark_listed-requires-clause-candidates
mark_listed-requires-clause-candidates c = λ n within m.
    subst (λ z. Contains z n) (sym (c.as_slice.ensures ∙ item-is c.args.lists.now c.in-Some.number c.index-lists-number.result (subst (λ k. c.in-Some.number < k) (sym c.requires.lists) c.in-Some.ensures.within) c.index-lists-number.is))
    (candidates c.args.document.now c.args.words.now c.args.lists.now (length c.args.document.now) c.in-Some.number n c.args.selector.now c.requires.noted c.in-Some.ensures.key.0 within m)
