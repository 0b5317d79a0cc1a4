use Rattle.std.proofs.Common.{take}
use Rattle.inline_text.specs.Passed.{HasPassed}
use Rattle.inline_text.proofs.space.collapse_joined.Given as goal

abbrev pub invariant-loop-part : goal.invariant-loop-part
invariant-loop-part l = HasPassed l.collapser (take l.part-index l.parts)
