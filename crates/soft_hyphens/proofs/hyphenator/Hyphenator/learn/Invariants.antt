use Rattle.std.proofs.Common.{◌≡◌}
use Rattle.soft_hyphens.proofs.hyphenator.Hyphenator.learn.Given as goal

abbrev pub invariant-loop-word : goal.invariant-loop-word
invariant-loop-word l = l.self ≡ l.fn.self
