use Rattle.std.proofs.Common.{◌≤◌, take}
use Rattle.std.specs.List.{flat_map}
use Rattle.bk_io.specs.Buffers.{Passes}
use Rattle.listing.specs.Fields.{field_bytes}
use Rattle.listing.proofs.fields.add_fields.Given as goal

abbrev pub invariant-loop-part : goal.invariant-loop-part
invariant-loop-part g l = record {
  put : Passes (g.S.Sink.taken l.fn.sink) l.fn.buffer (g.S.Sink.taken l.sink) l.buffer (flat_map field_bytes (take l.part-index l.fields));
  later : g.S.Sink.faults l.fn.sink ≤ g.S.Sink.faults l.sink;
}
