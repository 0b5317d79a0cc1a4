use Rattle.std.proofs.Common.{◌∙◌, map}
use Rattle.cascade.specs.Selected.{selected_in}
use Rattle.cascade.proofs.ShareLemmas.{chosen-here}
use Rattle.cascade.proofs.winners.winners_at.Goals as goal

pub returns : goal.returns
returns c =
    chosen-here c.node_winners.result c.args.dom.now (map selected_in c.args.selected.now) c.args.matched.now c.args.node.0 c.of.result.now c.deref.result.now c.as_slice.result.now c.of.ensures (c.deref.ensures.value ∙ c.in_ok-places.ensures) (c.as_slice.ensures ∙ c.in_ok-styled.ensures)
    c.node_winners.ensures
