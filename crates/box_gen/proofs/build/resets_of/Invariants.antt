use Rattle.std.proofs.Common.{◌≡◌, ◌++◌, drop}
use Rattle.std.specs.List.{All}
use Rattle.page_seq.specs.Numbers.{IsSmallReset}
use Rattle.box_gen.specs.Flow.{resets_of}
use Rattle.box_gen.specs.Sources.{source_in}
use Rattle.box_gen.proofs.build.resets_of.Given as goal

abbrev pub invariant-loop-start : goal.invariant-loop-start
invariant-loop-start l = record {
  list : l.resets.items ++ resets_of (source_in l.input) (drop l.start-index l.starts) ≡ resets_of (source_in l.input) l.starts;
  small : All IsSmallReset l.resets.items;
}
