-- What the texts of files in memory stand for.
use Rattle.std.specs.Prelude.{ℕ, option_map, string_bytes}
use Rattle.bk_io.specs.Texts.{unmarked}
use Rattle.sheets.specs.Files.{file_texts}
use Rattle.book.specs.Document.{BookTexts}
use Rattle.book.specs.declared.document.ColumnGrid.{ColumnGrid}
use Rattle.book.specs.declared.document.Output.TheVariants as output
use Rattle.named_files.specs.declared.read.FileTexts.{FileTexts}

-- the texts of a book that is to be listed
abbrev pub listed_texts : ℕ → ColumnGrid → FileTexts → BookTexts
listed_texts passes grid t = record {
  passes = passes;
  grid = grid;
  output = output.Listing;
  metrics = unmarked (string_bytes t.metrics);
  patterns = option_map (λ p. unmarked (string_bytes p)) t.patterns;
  html = unmarked (string_bytes t.html);
  sheets = file_texts t.sheets.items;
}
