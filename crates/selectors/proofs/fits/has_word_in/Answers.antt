use Rattle.std.proofs.Common.{◌∙◌, ap, sym, ◌+◌, drop}
use Rattle.selectors.specs.Fits.{has_word_from}
use Rattle.selectors.proofs.TextLemmas.{word_step, passed, ended}
use Rattle.selectors.proofs.fits.has_word_in.Goals as goal

pub returns-then-starts_word : goal.returns-then-starts_word
returns-then-starts_word c = sym (c.loop-at.invariant ∙ word_step c.loop-at.start c.args.word.now c.args.text.now c.loop-at.at c.loop-at-test.true ∙ ended _ _ _ c.starts_word.ensures c.if-starts_word.true)

pub loop-at-preserved : goal.loop-at-preserved
loop-at-preserved c = c.loop-at.invariant ∙ word_step c.loop-at.start c.args.word.now c.args.text.now c.loop-at.at c.loop-at-test.true ∙ passed _ _ _ c.starts_word.ensures c.if-starts_word.false ∙ ap (λ b. has_word_from b c.args.word.now (drop (c.loop-at.at + 1) c.args.text.now)) (sym c.is_blank-start.ensures)
