use Rattle.std.proofs.Common.{◌∙◌, ap, sym, ◌-◌, ◌+◌}
use Rattle.std.specs.Prelude.{option_map, Option}
use Rattle.bk_num.specs.declared.ids.NodeId.{NodeId}
use Rattle.selectors.specs.Walk.{asks, beside, chain, first_such}
use Rattle.selectors.proofs.WalkLemmas.{chain_step}
use Rattle.selectors.proofs.walk.first_such.Goals as goal

pub steps-preserved : goal.steps-preserved
steps-preserved c = record {
  within = c.beside-left.ensures.within;
  same = c.steps.invariant.same
      ∙ chain_step (beside c.args.dom.now c.args.way) (asks c.args.dom.now c.args.ask c.args.node.0) c.args.steps c.steps.turn c.in-Some.sibling.0 (option_map (λ n. n.0) c.steps.left) c.steps-test.true (ap (λ (o : Option NodeId). option_map (λ n. n.0) o) c.in-Some.is) (sym c.asks.ensures ∙ c.if-asks.false)
      ∙ ap (λ o. first_such (asks c.args.dom.now c.args.ask c.args.node.0) (chain (beside c.args.dom.now c.args.way) (c.args.steps - (c.steps.turn + 1)) o)) (sym c.beside-left.ensures.value);
}
