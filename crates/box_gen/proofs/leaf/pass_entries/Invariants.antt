use Rattle.std.proofs.Common.{map, take}
use Rattle.box_gen.specs.Items.{items_in, text_in}
use Rattle.box_gen.specs.Leaves.{HasRun}
use Rattle.box_gen.proofs.leaf.pass_entries.Given as goal

abbrev pub invariant-loop-next : goal.invariant-loop-next
invariant-loop-next l = HasRun l.pass (items_in (map text_in l.texts) (take l.next-index l.entries))
