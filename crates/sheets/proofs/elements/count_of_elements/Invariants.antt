use Rattle.std.proofs.Common.{◌≡◌, ◌+◌, ◌-◌, ◌≤◌, length}
use Rattle.sheets.specs.Sheets.{sheets_from, element_sheets}
use Rattle.sheets.proofs.elements.count_of_elements.Given as goal

abbrev pub invariant-loop-index : goal.invariant-loop-index
invariant-loop-index l = record {
  few : l.count ≤ l.index;
  left : l.count + length (sheets_from l.dom l.index (length l.dom - l.index)) ≡ length (element_sheets l.dom);
}
