use Rattle.std.proofs.Common.{◌≡◌, ◌+◌, ◌++◌, map, drop}
use Rattle.std.specs.Prelude.{codes}
use Rattle.sheets.specs.List.{sheet_in}
use Rattle.sheets.specs.Sheets.{Sheet}
use Rattle.unread.specs.Report.{sheets_lines}
use Rattle.unread.proofs.report.push_styles.Given as goal

abbrev pub invariant-loop-sheet : goal.invariant-loop-sheet
invariant-loop-sheet l = record {
  lines : l.out.items ++ sheets_lines l.faces (codes "style ") l.number (map (λ (s : Sheet). s.text) (map sheet_in (drop l.sheet-index l.sheets))) ≡ l.fn.out.items ++ sheets_lines l.faces (codes "style ") 1 (map (λ (s : Sheet). s.text) (map sheet_in l.sheets));
  number : l.number ≡ l.sheet-index + 1;
}
