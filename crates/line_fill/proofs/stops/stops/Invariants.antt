use Rattle.std.proofs.Common.{◌≡◌, ◌<◌, ◌≤◌, get_or, length, map, take}
use Rattle.std.specs.List.{All}
use Rattle.total_fit.specs.Lines.{IsGoodStop}
use Rattle.line_fill.specs.Paragraphs.{IsPassed}
use Rattle.line_fill.specs.Stops.{offsets_of, stop_at}
use Rattle.line_fill.proofs.stops.stops.Given as goal

abbrev pub invariant-loop-index : goal.invariant-loop-index
invariant-loop-index l = record {
  order : l.index < length (offsets_of l.leaf l.paragraph.from) → l.at ≤ get_or (offsets_of l.leaf l.paragraph.from) l.index 0;
  passed : IsPassed l.faces l.leaf l.paragraph.from l.at l.line_width;
  stops : l.stops.items ≡ map (stop_at l.faces l.leaf l.paragraph.from) (take l.index (offsets_of l.leaf l.paragraph.from));
  good : All IsGoodStop l.stops.items;
}
