use Rattle.std.proofs.Common.{option_map, sym, ap, ◌∙◌}
use Rattle.bk_num.specs.declared.ids.NodeId.{NodeId}
use Rattle.cascade.proofs.AlikeLemmas.{seen_lookup}
use Rattle.cascade.proofs.alike.find.Goals as goal

pub returns-in-Some : goal.returns-in-Some
returns-in-Some c = ap (option_map (λ (n : NodeId). n.0)) c.in-Some.ensures.value ∙ sym (seen_lookup c.args.mark c.args.nodes.now.entries)

pub returns-in-None : goal.returns-in-None
returns-in-None c = ap (option_map (λ (n : NodeId). n.0)) c.in-None.ensures.value ∙ sym (seen_lookup c.args.mark c.args.nodes.now.entries)
