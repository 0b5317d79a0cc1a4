use Rattle.std.proofs.Common.{◌≤◌, take}
use Rattle.std.specs.List.{flat_map}
use Rattle.bk_io.specs.Buffers.{Passes}
use Rattle.bk_io.proofs.buffer.Buffer.add_texts.Given as goal

abbrev pub invariant-loop-text : goal.invariant-loop-text
invariant-loop-text g l = record {
  put : Passes (g.S.Sink.taken l.fn.sink) l.fn.self (g.S.Sink.taken l.sink) l.self (flat_map (λ t. t.now) (take l.text-index l.texts));
  later : g.S.Sink.faults l.fn.sink ≤ g.S.Sink.faults l.sink;
}
