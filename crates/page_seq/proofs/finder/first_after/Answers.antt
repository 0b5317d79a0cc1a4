use Rattle.std.proofs.Common.{rules, not}
use Rattle.std.proofs.lemmas.List.Sorted.{IsPartitionPoint-from_clause}
use Rattle.boxes.specs.declared.place.Position.{Position}
use Rattle.page_seq.specs.Places.{is_before}
use Rattle.page_seq.proofs.FinderLemmas.{first_found, none_found, parted}
use Rattle.page_seq.proofs.finder.first_after.Goals as goal

pub returns-then-number-ends : goal.returns-then-number-ends
returns-then-number-ends c =
    let point = IsPartitionPoint-from_clause (λ (e : Position). not (is_before c.args.at e)) c.args.ends.now c.partition_point-number.result c.partition_point-number.ensures.partitioned (parted c.args.ends.now c.args.at c.requires) (λ a r q k. search rules) in
    first_found c.args.ends.now c.args.at c.partition_point-number.result point c.if-number-ends.true

pub returns-else-number-ends : goal.returns-else-number-ends
returns-else-number-ends c =
    let point = IsPartitionPoint-from_clause (λ (e : Position). not (is_before c.args.at e)) c.args.ends.now c.partition_point-number.result c.partition_point-number.ensures.partitioned (parted c.args.ends.now c.args.at c.requires) (λ a r q k. search rules) in
    none_found c.args.ends.now c.args.at c.partition_point-number.result point c.if-number-ends.false
