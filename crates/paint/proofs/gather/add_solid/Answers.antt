use Rattle.boxes.specs.Tree.{open_before}
use Rattle.paint.proofs.GatherLemmas.{adds_solid, at_solid}
use Rattle.paint.proofs.PartLemmas.{inner_within}
use Rattle.paint.proofs.gather.add_solid.Goals as goal

pub extend-requires : goal.extend-requires
extend-requires c = inner_within c.pass_to.new.parts.items (open_before c.args.tree.now.events c.end_at-to.result) c.in_ok-inner.inner c.end_at-to.result c.in_ok-inner.ensures.at.on

pub returns-clause-at : goal.returns-clause-at
returns-clause-at c =
    at_solid c.args.tree.now c.args.origin.now.width c.pass_to.new.parts.items c.extend.new.parts.items c.end_at-to.result c.in_ok-inner.inner c.event-event.result c.extent_of.result c.in_ok-inner.ensures.at c.extend.ensures

pub returns-clause-solid : goal.returns-clause-solid
returns-clause-solid c =
    adds_solid c.args.tree.now c.args.origin.now.width c.args.solid.now c.args.parts.now.items c.pass_to.new.parts.items c.extend.new.parts.items c.end_at-to.result c.in_ok-inner.inner c.event-event.result c.extent_of.result
    c.in_ok-inner.ensures.grown c.end_at-to.ensures c.in_ok-inner.ensures.at c.event-event.ensures c.extent_of.ensures c.extend.ensures
