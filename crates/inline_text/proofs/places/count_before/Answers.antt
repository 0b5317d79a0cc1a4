use Rattle.std.proofs.Common.{ℕ, ◌<◌, ◌≤◌, List, get_or, length, ltb, arith, rules}
use Rattle.std.proofs.lemmas.Bool.Decides.{nat_tests}
use Rattle.std.proofs.lemmas.List.Sorted.{IsPartitionPoint-from_clause, IsPartitionedBy-ltb}
use Rattle.boxes.specs.declared.leaf.Span.{Span}
use Rattle.inline_text.proofs.SpanLemmas.{ends_rise}
use Rattle.inline_text.proofs.places.count_before.Goals as goal
use Rattle.inline_text.proofs.places.count_before.Goals.{After-partition_point}

record IsFirst (spans : List Span) (at n : ℕ) : Type 0 where
  before : (k : ℕ) (d : Span) → k < n → (get_or spans k d).to < at
  after : (k : ℕ) (d : Span) → n ≤ k → k < length spans → at ≤ (get_or spans k d).to

first : (c : After-partition_point) → IsFirst c.args.spans.now c.args.at c.partition_point.result
first c =
    let spans = c.args.spans.now in
    let point = IsPartitionPoint-from_clause (λ (s : Span). ltb s.to c.args.at) spans c.partition_point.result c.partition_point.ensures.partitioned (IsPartitionedBy-ltb (λ (s : Span). s.to) spans c.args.at (ends_rise c.args.text.now 0 spans c.requires)) (λ a r q k. search rules) in
    let bound = c.partition_point.ensures.bound in
    record {
      before = λ k d l. let t = point.0 k d (omega arith) l in grind (arith, nat_tests);
      after = λ k d l h. let t = point.1 k d l h in grind (arith, nat_tests);
    }

pub returns-clause-before : goal.returns-clause-before
returns-clause-before c = (first (goal.at.returns-clause-before c).After-partition_point).before

pub returns-clause-after : goal.returns-clause-after
returns-clause-after c = (first (goal.at.returns-clause-after c).After-partition_point).after
