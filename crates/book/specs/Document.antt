-- What the texts of the files are read as, or the refusal that they give.
use Rattle.std.specs.Prelude.{ℕ, ◌≤◌, List, Option, None, Some, length, if◌then◌else◌, Result, Ok, Err}
use Rattle.std.specs.List.{list_any}
use Rattle.boxes.specs.Frames.{IsPerPage}
use Rattle.metrics.specs.Face.{FontFace}
use Rattle.metrics.specs.Text.{faces_of}
use Rattle.metrics.specs.declared.fault.MetricsWhy.{MetricsWhy}
use Rattle.dom.specs.Nodes.{Node}
use Rattle.dom.specs.declared.dom.DomErr.{DomErr}
use Rattle.dom.specs.declared.dom.DomErr.TheVariants as dom_err
use Rattle.html_tree.specs.Tree.{tree_of}
use Rattle.hyphen.specs.Pattern.{Pattern, value_at}
use Rattle.hyphen.specs.Text.{patterns_of}
use Rattle.sheets.specs.Sheets.{author_texts, element_sheets}
use Rattle.sheets.specs.Readings.{SheetOf}
use Rattle.sheets.specs.Sources.{are_many, has_many_rules}
use Rattle.soft_hyphens.specs.Words.{Points, points_with}
use Rattle.words.specs.Asked.{FormatWords}
use Rattle.words.specs.Grammar.{widest_gap}
use Rattle.book.specs.Expect.{Expect, refused, given, ◌>>=◌}
use Rattle.book.specs.declared.document.ColumnGrid.{ColumnGrid}
use Rattle.book.specs.declared.document.Output.{Output}
use Rattle.book.specs.declared.outcome.Outcome.TheVariants as out
use Rattle.book.specs.declared.outcome.LimitOf.TheVariants as limit

-- from 1 to 8 columns, with gaps of at most 1,000 px between them
pub record IsGoodGrid (grid : ColumnGrid) : Type 0 where
  pub per : IsPerPage grid.columns
  pub gap : grid.gap ≤ widest_gap

-- the columns that `format` is asked for
abbrev pub grid_of : FormatWords → ColumnGrid
grid_of names = record { columns = names.columns; gap = names.gap }

-- in how many passes at most a book is to settle, the columns of its pages, what is to be put of it, and the texts of
-- its files, that of the patterns if it is named, less a leading U+FEFF
pub record BookTexts : Type 0 where
  pub passes : ℕ
  pub grid : ColumnGrid
  pub output : Output
  pub metrics : List ℕ
  pub patterns : Option (List ℕ)
  pub html : List ℕ
  pub sheets : List (List ℕ)

-- a document: in how many passes at most it is to settle, the columns of its pages, what is to be put of it, the faces
-- of its metrics text, where its words may be hyphenated, its nodes, and the texts of the files' sheets
pub record Document : Type 0 where
  pub passes : ℕ
  pub grid : ColumnGrid
  pub output : Output
  pub faces : List FontFace
  pub points : Option Points
  pub nodes : List Node
  pub sheets : List (List ℕ)

-- the faces of a metrics text, or its first bad line
abbrev pub faces_expected : Result (List FontFace) (ℕ × MetricsWhy) → Expect (List FontFace)
faces_expected (Ok faces) = given faces
faces_expected (Err (line, why)) = refused (out.BadMetrics line why)

-- the points of words by the patterns of a text, or its first bad line
abbrev pub points_expected : Result (List Pattern) ℕ → Expect (Option Points)
points_expected (Ok ps) = given (Some (points_with (value_at ps)))
points_expected (Err line) = refused (out.BadPatterns line)

-- those of a patterns text that may be there
abbrev pub patterns_expected : Option (List ℕ) → Expect (Option Points)
patterns_expected None = given None
patterns_expected (Some text) = points_expected (patterns_of text)

-- the nodes of the HTML, or the limit that they pass
abbrev pub nodes_expected : Result (List Node) DomErr → Expect (List Node)
nodes_expected (Ok nodes) = given nodes
nodes_expected (Err dom_err.Nodes) = refused (out.Limit limit.Nodes)
nodes_expected (Err dom_err.Depth) = refused (out.Limit limit.Depth)
nodes_expected (Err dom_err.NoMemory) = refused out.NoMemory

-- there are at most 16 sheets, and none has more than 20,000 rules
abbrev pub sheets_expected : (List ℕ → SheetOf) → List (List ℕ) → Expect (Unit {0})
sheets_expected reading texts = if are_many (length texts) then refused (out.Limit limit.Sheets) else
    if list_any (has_many_rules reading) texts then refused (out.Limit limit.Rules) else given tt

-- the document of the texts, or the first refusal; `reading` gives what each text is read as, as a sheet
abbrev pub document_of : (List ℕ → SheetOf) → BookTexts → Expect Document
document_of reading t = faces_expected (faces_of t.metrics) >>= λ faces.
    patterns_expected t.patterns >>= λ points.
    nodes_expected (tree_of t.html) >>= λ nodes.
    sheets_expected reading (author_texts (element_sheets nodes) t.sheets) >>= λ few.
    given (record {
      passes = t.passes;
      grid = t.grid;
      output = t.output;
      faces = faces;
      points = points;
      nodes = nodes;
      sheets = t.sheets;
    })
