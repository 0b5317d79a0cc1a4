use Rattle.std.proofs.Common.{◌≤◌, take}
use Rattle.std.specs.List.{flat_map}
use Rattle.bk_io.specs.Buffers.{Passes}
use Rattle.bk_io.specs.Escapes.{shown_byte}
use Rattle.book.proofs.target.add_bytes.Given as goal

abbrev pub invariant-loop-b : goal.invariant-loop-b
invariant-loop-b g l = record {
  put : Passes (g.E.Sink.taken l.fn.err) l.fn.line (g.E.Sink.taken l.err) l.line (flat_map shown_byte (take l.b-index l.b-items));
  later : g.E.Sink.faults l.fn.err ≤ g.E.Sink.faults l.err;
}
