use Rattle.std.proofs.Common.{arith, rules, nat_lt}
use Rattle.std.proofs.lemmas.Bool.Decides.{nat_tests}
use Rattle.std.proofs.lemmas.List.Sorted.{IsPartitionPoint-from_clause}
use Rattle.strings.specs.declared.assigned.Mark.{Mark}
use Rattle.strings.proofs.AssignedLemmas.{parted_by_ltb}
use Rattle.strings.proofs.assigned.count_before.Goals as goal

pub returns-clause-before : goal.returns-clause-before
returns-clause-before c = λ k d h.
    let point = IsPartitionPoint-from_clause (λ (m : Mark). nat_lt m.page c.args.page) c.args.marks.now c.partition_point.result c.partition_point.ensures.partitioned (parted_by_ltb c.args.marks.now c.args.page c.requires) (λ a r q k. search rules) in
    let t = point.0 k d (omega arith) h in
    grind (arith, nat_tests)

pub returns-clause-after : goal.returns-clause-after
returns-clause-after c = λ k d h l.
    let point = IsPartitionPoint-from_clause (λ (m : Mark). nat_lt m.page c.args.page) c.args.marks.now c.partition_point.result c.partition_point.ensures.partitioned (parted_by_ltb c.args.marks.now c.args.page c.requires) (λ a r q k. search rules) in
    let t = point.1 k d h l in
    grind (arith, nat_tests)
