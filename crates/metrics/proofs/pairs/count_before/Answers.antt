use Rattle.std.proofs.Common.{rules}
use Rattle.std.proofs.lemmas.List.Sorted.{IsPartitionPoint-from_clause}
use Rattle.metrics.specs.declared.pair.KernPair.{KernPair}
use Rattle.metrics.specs.Face.{is_later}
use Rattle.metrics.proofs.PairLemmas.{before_parted}
use Rattle.metrics.proofs.pairs.count_before.Goals as goal

pub returns-clause-point : goal.returns-clause-point
returns-clause-point c = IsPartitionPoint-from_clause (λ (p : KernPair). is_later p c.args.asked) c.args.pairs.now c.partition_point.result c.partition_point.ensures.partitioned (before_parted c.args.pairs.now c.args.asked c.requires) (λ a r q k. search rules)
