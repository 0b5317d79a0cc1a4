use Rattle.std.proofs.Common.{◌∙◌, ap, sym, subst}
use Rattle.hyphen.specs.Meaning.{value_in}
use Rattle.soft_hyphens.specs.Walk.{IsIn, IsOver}
use Rattle.soft_hyphens.specs.Words.{is_soft, points_with}
use Rattle.soft_hyphens.specs.declared.walk.Walk.{Walk}
use Rattle.soft_hyphens.proofs.WalkLemmas.{letter-in, letter-over, other-in, other-over, stops-at}
use Rattle.soft_hyphens.proofs.walk.pass_char.Goals as goal

pub returns-then-is_of_word-clause-walk : goal.returns-then-is_of_word-clause-walk
returns-then-is_of_word-clause-walk c =
    subst (λ (w : Walk). IsIn c.args.text.now w c.args.offsets.now.items) (sym c.past_letter.ensures)
    (letter-in c.args.text.now c.args.walk c.args.letter _ c.args.offsets.now.items c.utf8.text c.requires.walk c.requires.next)

pub returns-then-is_of_word-clause-over : goal.returns-then-is_of_word-clause-over
returns-then-is_of_word-clause-over c = λ ls o has.
    subst (λ (w : Walk). IsOver (points_with (value_in c.args.hyphenator.now)) ls c.args.text.now w c.args.offsets.now.items) (sym c.past_letter.ensures)
    (letter-over (points_with (value_in c.args.hyphenator.now)) ls c.args.text.now c.args.walk c.args.letter _ c.args.offsets.now.items c.utf8.text c.requires.walk c.requires.next (sym c.is_of_word.ensures ∙ c.if-is_of_word.true) o has)

pub returns-clause-walk : goal.returns-clause-walk
returns-clause-walk c =
    subst (λ (w : Walk). IsIn c.args.text.now w c.end_word.new.offsets.items) (sym c.past_other.ensures)
    (other-in c.args.text.now c.args.walk c.args.letter _ c.args.offsets.now.items c.end_word.new.offsets.items c.utf8.text c.requires.walk c.requires.next c.in_ok-end_word.ensures.stand)

pub returns-clause-over : goal.returns-clause-over
returns-clause-over c = λ ls o has.
    let stop = stops-at ls c.args.walk.place c.args.letter has (sym c.is_of_word.ensures ∙ c.if-is_of_word.false) in
    subst (λ (w : Walk). IsOver (points_with (value_in c.args.hyphenator.now)) ls c.args.text.now w c.end_word.new.offsets.items) (sym c.past_other.ensures)
    (other-over (points_with (value_in c.args.hyphenator.now)) ls c.args.text.now c.args.walk c.args.letter c.args.offsets.now.items c.end_word.new.offsets.items (sym c.is_of_word.ensures ∙ c.if-is_of_word.false)
    (c.in_ok-end_word.ensures.offsets ls o (ap is_soft has ∙ sym c.is_soft_hyphen.ensures) stop) o has)
