use Rattle.std.proofs.Common.{◌≡◌, drop, true}
use Rattle.selectors.specs.Fits.{has_word_from}
use Rattle.selectors.proofs.fits.has_word_in.Given as goal

abbrev pub invariant-loop-at : goal.invariant-loop-at
invariant-loop-at l = has_word_from true l.word l.text ≡ has_word_from l.start l.word (drop l.at l.text)
