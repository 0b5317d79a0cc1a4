use Rattle.std.proofs.Common.{◌≤◌, take}
use Rattle.std.specs.List.{flat_map}
use Rattle.listing.specs.Records.{escape}
use Rattle.bk_io.specs.Buffers.{Passes}
use Rattle.listing.proofs.fields.add_all_escaped.Given as goal

abbrev pub invariant-loop-b : goal.invariant-loop-b
invariant-loop-b g l = record {
  put : Passes (g.S.Sink.taken l.fn.sink) l.fn.buffer (g.S.Sink.taken l.sink) l.buffer (flat_map escape (take l.b-index l.b-items));
  later : g.S.Sink.faults l.fn.sink ≤ g.S.Sink.faults l.sink;
}
