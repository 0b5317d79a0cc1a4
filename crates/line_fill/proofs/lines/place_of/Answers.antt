use Rattle.std.proofs.Common.{List, ltb, arith, rules}
use Rattle.std.proofs.lemmas.Bool.Decides.{nat_tests}
use Rattle.std.proofs.lemmas.List.Sorted.{IsPartitionPoint-from_clause, IsPartitionedBy-ltb}
use Rattle.std.proofs.lemmas.Option.{get_or_from_slice_get, slice_get_within}
use Rattle.line_fill.specs.declared.lines.KeptLine.{KeptLine}
use Rattle.line_fill.proofs.KeptLineLemmas.{line_rise}
use Rattle.line_fill.proofs.lines.place_of.Goals as goal

pub returns : goal.returns
returns c =
    let xs : List KeptLine = c.args.lines.now in
    let point = IsPartitionPoint-from_clause (λ (x : KeptLine). ltb x.line.from c.args.from) xs c.partition_point.result c.partition_point.ensures.partitioned (IsPartitionedBy-ltb (λ (x : KeptLine). x.line.from) xs c.args.from (line_rise xs c.requires)) (λ a r q k. search rules) in
    record {
      within = c.partition_point.ensures.bound;
      before = λ k a h e.
          let t = point.0 k a (omega arith) h in
          let t' = rw (get_or_from_slice_get xs k a a e) at t in
          grind (arith, nat_tests, t');
      after = λ k a h e.
          let l = slice_get_within xs k a e in
          let t = point.1 k a h l in
          let t' = rw (get_or_from_slice_get xs k a a e) at t in
          grind (arith, nat_tests, t');
    }
