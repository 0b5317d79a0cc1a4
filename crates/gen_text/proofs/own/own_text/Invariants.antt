use Rattle.std.proofs.Common.{Some, [], length, string_bytes}
use Rattle.dom.specs.Nodes.{parents_of}
use Rattle.dom.specs.WalkFields.{steps_from}
use Rattle.gen_text.proofs.OwnLemmas.{Going}
use Rattle.gen_text.proofs.own.own_text.Given as goal

abbrev pub invariant-steps : goal.invariant-steps
invariant-steps l = Going l.dom l.styles l.element.0 l.step l.ending [] (string_bytes l.text)

abbrev pub decreases-steps : goal.decreases-steps
decreases-steps l = length (steps_from (parents_of l.dom) (Some l.step))
