use Rattle.std.proofs.Common.{◌≡◌, ◌++◌, drop}
use Rattle.box_gen.specs.Flow.{strings_of}
use Rattle.box_gen.specs.Sources.{source_in}
use Rattle.box_gen.proofs.build.strings_of.Given as goal

abbrev pub invariant-loop-start : goal.invariant-loop-start
invariant-loop-start l = l.strings.items ++ strings_of (source_in l.input) (drop l.start-index l.starts) ≡ strings_of (source_in l.input) l.starts
