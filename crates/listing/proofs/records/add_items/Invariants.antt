use Rattle.std.proofs.Common.{◌≤◌, take}
use Rattle.std.specs.List.{flat_map}
use Rattle.listing.specs.Records.{item_record}
use Rattle.paint.specs.Views.{item_of}
use Rattle.bk_io.specs.Buffers.{Passes}
use Rattle.listing.proofs.records.add_items.Given as goal

abbrev pub invariant-loop-item : goal.invariant-loop-item
invariant-loop-item g l = record {
  put : Passes (g.S.Sink.taken l.fn.sink) l.fn.buffer (g.S.Sink.taken l.sink) l.buffer (flat_map (λ item. item_record (item_of l.faces item)) (take l.item-index l.items));
  later : g.S.Sink.faults l.fn.sink ≤ g.S.Sink.faults l.sink;
}
