use Rattle.std.proofs.Common.{◌≡◌, take}
use Rattle.inline_text.proofs.space.borrowed.Given as goal

abbrev pub invariant-loop-part : goal.invariant-loop-part
invariant-loop-part l = l.borrowed.items ≡ take l.part-index l.parts
