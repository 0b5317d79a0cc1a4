use Rattle.std.proofs.Common.{◌≡◌, ◌++◌}
use Rattle.box_gen.specs.Flow.{calls_of, own_starts}
use Rattle.box_gen.specs.Sources.{source_in}
use Rattle.box_gen.proofs.build.parted.Given as goal

abbrev pub invariant-loop-place : goal.invariant-loop-place
invariant-loop-place l = record {
  calls : l.calls.items ++ calls_of (source_in l.input) l.place-iterator.rest.items ≡ calls_of (source_in l.input) l.fn.places.items;
  starts : l.starts.items ++ own_starts (source_in l.input) l.place-iterator.rest.items ≡ own_starts (source_in l.input) l.fn.places.items;
}
