use Rattle.std.proofs.Common.{◌≡◌, ◌≤◌, length}
use Rattle.css_words.specs.Input.{past_spaces}
use Rattle.css_words.proofs.reader.Reader.pass_spaces.Given as goal

abbrev pub invariant-loop-self : goal.invariant-loop-self
invariant-loop-self l = (past_spaces l.fn.self ≡ past_spaces l.self) × (length l.self ≤ length l.fn.self)

abbrev pub decreases-loop-self : goal.decreases-loop-self
decreases-loop-self l = length l.self
