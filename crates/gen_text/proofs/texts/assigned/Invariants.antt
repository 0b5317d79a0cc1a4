use Rattle.std.proofs.Common.{◌≡◌, take}
use Rattle.gen_text.specs.Texts.{assigned_of, source_in}
use Rattle.gen_text.proofs.texts.assigned.Given as goal

abbrev pub invariant-loop-set : goal.invariant-loop-set
invariant-loop-set l = l.strings ≡ assigned_of (source_in l.texts) l.node.0 (take l.set-index l.sets)
