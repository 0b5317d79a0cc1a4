use Rattle.std.proofs.Common.{◌≡◌, List, pos, refl, sym, ap, ◌∙◌, take_all, subst}
use Rattle.bk_num.specs.declared.ids.NodeId.{NodeId}
use Rattle.gen_text.specs.Table.{Ascend}
use Rattle.refs.specs.Tables.{opening_of}
use Rattle.refs.proofs.TableLemmas.{entries_ascend}
use Rattle.refs.proofs.opening.opening.Goals as goal

pub of-requires-2 : goal.of-requires-2
of-requires-2 c =
    let nodes : List NodeId = c.args.nodes.now in
    let all : c.of.result ≡ opening_of nodes = c.of.ensures ∙ (c.loop-node.invariant ∙ ap opening_of (take_all c.loop-node.node-index nodes c.loop-node-test.false)) in
    subst Ascend (sym all) (entries_ascend (λ (n : NodeId). record { node = n; number = pos 0 }) nodes (λ n. refl) c.requires)
