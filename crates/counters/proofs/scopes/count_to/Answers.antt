use Rattle.std.proofs.Common.{leb, sym, rules}
use Rattle.std.proofs.lemmas.List.Sorted.{IsPartitionPoint-from_clause, IsPartitionedBy-leb}
use Rattle.counters.specs.declared.scopes.ScopeMark.{ScopeMark}
use Rattle.counters.proofs.ChainLemmas.{count-point}
use Rattle.counters.proofs.scopes.count_to.Goals as goal

pub returns-clause-value : goal.returns-clause-value
returns-clause-value c =
    let point = IsPartitionPoint-from_clause (λ (m : ScopeMark). leb m.at c.args.place) c.args.marks.now c.partition_point.result c.partition_point.ensures.partitioned (IsPartitionedBy-leb (λ m. m.at) c.args.marks.now c.args.place c.requires.sorted) (λ a r q k. search rules) in
    sym (count-point c.args.marks.now c.args.place c.partition_point.result c.partition_point.ensures.bound point)
