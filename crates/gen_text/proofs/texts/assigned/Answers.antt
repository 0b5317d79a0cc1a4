use Rattle.std.proofs.Common.{◌∙◌, ap, arith}
use Rattle.std.proofs.lemmas.List.{take_all}
use Rattle.gen_text.specs.Texts.{assigned_of, source_in}
use Rattle.gen_text.proofs.TextLemmas.{assigned_turn}
use Rattle.gen_text.proofs.texts.assigned.Goals as goal

pub loop-set-preserved : goal.loop-set-preserved
loop-set-preserved c = assigned_turn (source_in c.args.texts.now) c.args.node.0 c.args.sets.now c.loop-set.set-index c.set-item.result c.loop-set.strings c.push_assigned.new.into (omega arith) c.set-item.is c.loop-set.invariant c.in_ok-push_assigned.ensures

pub returns : goal.returns
returns c = c.loop-set.invariant ∙ ap (λ l. assigned_of (source_in c.args.texts.now) c.args.node.0 l) (take_all c.loop-set.set-index c.args.sets.now (omega arith))
