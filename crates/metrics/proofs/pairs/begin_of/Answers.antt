use Rattle.std.proofs.Common.{ltb, rules}
use Rattle.std.proofs.lemmas.List.Sorted.{IsPartitionPoint-from_clause, IsPartitionedBy-ltb}
use Rattle.metrics.specs.declared.pair.KernPair.{KernPair}
use Rattle.metrics.proofs.BeginLemmas.{begins_there, first_rises}
use Rattle.metrics.proofs.pairs.begin_of.Goals as goal

pub returns : goal.returns
returns c = begins_there c.args.pairs.now c.args.first c.partition_point.result c.partition_point.ensures.bound (IsPartitionPoint-from_clause (λ (p : KernPair). ltb p.first c.args.first) c.args.pairs.now c.partition_point.result c.partition_point.ensures.partitioned (IsPartitionedBy-ltb (λ (p : KernPair). p.first) c.args.pairs.now c.args.first (first_rises c.args.pairs.now c.requires)) (λ a r q k. search rules))
