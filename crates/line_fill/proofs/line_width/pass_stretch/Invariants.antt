use Rattle.std.proofs.Common.{◌≡◌, ℕ, ◌<◌, ◌≤◌, ◌*◌, ◌^◌, ◌-◌, ◌≢◌, pos, ◌≤ℤ◌}
use Rattle.std.specs.Prelude.{slice_index}
use Rattle.metrics.specs.Widths.{byte_width}
use Rattle.line_fill.specs.Fill.{passed_to}
use Rattle.line_fill.proofs.line_width.pass_stretch.Given as goal

abbrev pub invariant-loop-k : goal.invariant-loop-k
invariant-loop-k l = record {
  line_width : l.line_width ≡ passed_to (byte_width l.pen l.text l.begin) l.text l.at (l.k - l.at) l.fn.line_width;
  quiet : (j : ℕ) → l.at ≤ j → j < l.k → slice_index l.text j ≢ 10;
  low : pos 0 ≤ℤ l.line_width.total;
  high : l.line_width.total ≤ℤ pos (2 ^ 27 * l.k);
}
