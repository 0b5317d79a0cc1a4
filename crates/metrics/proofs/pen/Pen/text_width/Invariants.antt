use Rattle.std.proofs.Common.{◌≡◌, ◌≤◌, ◌^◌, min, length}
use Rattle.metrics.specs.Widths.{byte_width, sum_from}
use Rattle.metrics.proofs.pen.Pen.text_width.Given as goal

abbrev pub invariant-loop-at : goal.invariant-loop-at
invariant-loop-at l = record {
  high : l.at ≤ length l.text;
  goes : l.width ≡ min (sum_from (byte_width l.self l.text 0) 0 l.at) (2 ^ 60);
}
