use Rattle.std.proofs.Common.{◌≡◌}
use Rattle.box_gen.proofs.words.learn.Given as goal

abbrev pub invariant-loop-number : goal.invariant-loop-number
invariant-loop-number l = l.hyphenator ≡ l.fn.hyphenator
