-- What texts and a document in memory stand for.
use Rattle.std.specs.Prelude.{option_map}
use Rattle.std.specs.List.{AllZip}
use Rattle.sheets.specs.Sheets.{author_texts, element_sheets}
use Rattle.sheets.specs.Files.{file_texts}
use Rattle.sheets.specs.Sources.{sources_of, IsReadFrom}
use Rattle.soft_hyphens.specs.Words.{points_in}
use Rattle.book.specs.Document.{Document, BookTexts}
use Rattle.book.specs.Flow.{AreRulesOf}
use Rattle.book.specs.declared.document.Document.{Document as InMemory}
use Rattle.book.specs.declared.document.BookTexts.{BookTexts as TextsInMemory}

-- texts in memory as contracts see them
abbrev pub texts_in : TextsInMemory → BookTexts
texts_in t = record {
  passes = t.passes;
  grid = t.grid;
  output = t.output;
  metrics = t.metrics.now;
  patterns = option_map (λ p. p.now) t.patterns;
  html = t.html.now;
  sheets = file_texts t.sheets.now;
}

-- a document in memory as contracts see it
abbrev pub document_in : InMemory → Document
document_in d = record {
  passes = d.passes;
  grid = d.grid;
  output = d.output;
  faces = d.faces;
  points = points_in d.patterns;
  nodes = d.dom;
  sheets = file_texts d.sheets.now;
}

-- its sheets and its page rules are what their texts are read as, in the order of the cascade
pub record HasSheets (d : InMemory) : Type 0 where
  pub read : AllZip IsReadFrom (sources_of (author_texts (element_sheets d.dom) (file_texts d.sheets.now))) d.read
  pub pages : AreRulesOf (document_in d) d.pages
