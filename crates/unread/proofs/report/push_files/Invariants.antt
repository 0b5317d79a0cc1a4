use Rattle.std.proofs.Common.{◌≡◌, ◌+◌, ◌++◌, drop}
use Rattle.std.specs.Prelude.{codes}
use Rattle.sheets.specs.Files.{file_texts}
use Rattle.unread.specs.Report.{sheets_lines}
use Rattle.unread.proofs.report.push_files.Given as goal

abbrev pub invariant-loop-file : goal.invariant-loop-file
invariant-loop-file l = record {
  lines : l.out.items ++ sheets_lines l.faces (codes "sheet ") l.number (file_texts (drop l.file-index l.files)) ≡ l.fn.out.items ++ sheets_lines l.faces (codes "sheet ") 1 (file_texts l.files);
  number : l.number ≡ l.file-index + 1;
}
