use Rattle.std.proofs.Common.{ltb, rules, arith}
use Rattle.std.proofs.lemmas.List.Sorted.{IsPartitionPoint-from_clause, IsPartitionedBy-ltb}
use Rattle.bk_num.specs.declared.ids.NodeId.{NodeId}
use Rattle.refs.proofs.StartLemmas.{place_absent, place_found}
use Rattle.refs.proofs.starts.place_of.Goals as goal
use Rattle.refs.proofs.starts.place_of.Goals.{else-place-nodes-via-then-place-nodes+else-nodes-place, else-place-nodes-via-else-place-nodes}

pub returns-then-nodes-place-clause-place : goal.returns-then-nodes-place-clause-place
returns-then-nodes-place-clause-place c =
    let point = IsPartitionPoint-from_clause (λ (n : NodeId). ltb n.0 c.args.node.0) c.args.nodes.now c.partition_point-place.result c.partition_point-place.ensures.partitioned (IsPartitionedBy-ltb (λ (n : NodeId). n.0) c.args.nodes.now c.args.node.0 c.requires) (λ a r q k. search rules) in
    place_found c.args.nodes.now c.args.node c.partition_point-place.result (record { 0 = 0 }) point c.if-place-nodes.true c.if-nodes-place.true

pub returns-else-place-nodes-clause-place : goal.returns-else-place-nodes-clause-place
returns-else-place-nodes-clause-place c =
    let point = IsPartitionPoint-from_clause (λ (n : NodeId). ltb n.0 c.args.node.0) c.args.nodes.now c.partition_point-place.result c.partition_point-place.ensures.partitioned (IsPartitionedBy-ltb (λ (n : NodeId). n.0) c.args.nodes.now c.args.node.0 c.requires) (λ a r q k. search rules) in
    elim c.else-place-nodes.branch [
      | else-place-nodes-via-then-place-nodes+else-nodes-place w ↦ place_absent c.args.nodes.now c.args.node c.partition_point-place.result (record { 0 = 0 }) c.requires point (λ h. w.if-nodes-place.false)
      | else-place-nodes-via-else-place-nodes w ↦ place_absent c.args.nodes.now c.args.node c.partition_point-place.result (record { 0 = 0 }) c.requires point (λ h e. let l = w.if-place-nodes.false in absurd (omega arith))
    ]
