use Rattle.std.proofs.Common.{◌≡◌, ◌-◌, ◌++◌, length, map}
use Rattle.sheets.specs.Sheets.{sheets_from, element_sheets}
use Rattle.sheets.specs.List.{sheet_in}
use Rattle.sheets.proofs.list.list_sheets.Given as goal

abbrev pub invariant-loop-index : goal.invariant-loop-index
invariant-loop-index l = map sheet_in l.sheets.items ++ sheets_from l.dom l.index (length l.dom - l.index) ≡ element_sheets l.dom
