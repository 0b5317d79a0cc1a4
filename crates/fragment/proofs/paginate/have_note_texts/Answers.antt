use Rattle.std.proofs.Common.{◌∙◌, Some, arith, sym, ap, subst}
use Rattle.std.proofs.lemmas.Option.{slice_get-get_or, slice_get_within}
use Rattle.bk_num.proofs.ListLemmas.{all-from}
use Rattle.boxes.specs.declared.flow.Note.{Note}
use Rattle.page_list.specs.Bounds.{HaveTexts}
use Rattle.fragment.proofs.RunLemmas.{one_note}
use Rattle.fragment.proofs.paginate.have_note_texts.Goals as goal

pub loop-at-preserved : goal.loop-at-preserved
loop-at-preserved c = one_note (λ n. HaveTexts n.body) c.args.notes.now c.loop-at.at c.index-notes-at.result
    (slice_get-get_or c.args.notes.now c.loop-at.at c.index-notes-at.result c.loop-at-test.true ∙ ap Some (sym c.index-notes-at.is)) (subst (λ (n : Note). HaveTexts n.body) (sym c.index-notes-at.is) c.have_texts.ensures) c.loop-at.invariant

pub returns : goal.returns
returns c = all-from (λ n. HaveTexts n.body) c.args.notes.now (λ k n e. c.loop-at.invariant k n (let last = c.loop-at-test.false in let low = slice_get_within c.args.notes.now k n e in omega arith) e)
