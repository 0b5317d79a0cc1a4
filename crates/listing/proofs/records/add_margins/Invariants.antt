use Rattle.std.proofs.Common.{◌≤◌, take}
use Rattle.std.specs.List.{flat_map}
use Rattle.listing.specs.Records.{item_record}
use Rattle.paint.specs.Views.{text_item}
use Rattle.bk_io.specs.Buffers.{Passes}
use Rattle.listing.proofs.records.add_margins.Given as goal

abbrev pub invariant-loop-margin : goal.invariant-loop-margin
invariant-loop-margin g l = record {
  put : Passes (g.S.Sink.taken l.fn.sink) l.fn.buffer (g.S.Sink.taken l.sink) l.buffer (flat_map (λ m. item_record (text_item l.faces m.style m.text)) (take l.margin-index l.texts));
  later : g.S.Sink.faults l.fn.sink ≤ g.S.Sink.faults l.sink;
}
