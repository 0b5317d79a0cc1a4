-- What the passes over a document read, and how they end.
use Rattle.std.specs.Prelude.{◌≡◌, ℕ, ◌*◌, ℤ, pos, List, [], fold}
use Rattle.std.specs.List.{AllZip}
use Rattle.bk_num.specs.Names.{with_name}
use Rattle.bk_num.specs.declared.ids.NodeId.{NodeId}
use Rattle.boxes.specs.Frames.{column_at, meets_by, meets_by_parity, page_at, PageFrames}
use Rattle.cascade.specs.declared.sheet.ReadSheet.{ReadSheet}
use Rattle.columns.specs.Columns.{column_of}
use Rattle.computed.specs.Document.{AreDocumentStyles}
use Rattle.counters.specs.Document.{values_of}
use Rattle.css_page.specs.declared.rules.PageRule.{PageRule}
use Rattle.gen_text.specs.References.{AreTargets, IsNamed}
use Rattle.page_ctx.specs.Selectors.{classes_of}
use Rattle.page_ctx.specs.Strings.{all_running}
use Rattle.page_ctx.specs.Tables.{page_cell, text_of}
use Rattle.passes.specs.Passes.{End, EndsIn}
use Rattle.passes.specs.Work.{Work}
use Rattle.sheets.specs.Sheets.{author_texts, element_sheets}
use Rattle.style.specs.Nodes.{NodeStyles}
use Rattle.sheets.specs.Sources.{ArePageRules, authors_of, sources_of, IsReadFrom}
use Rattle.book.specs.Document.{Document}
use Rattle.book.specs.declared.document.ColumnGrid.{ColumnGrid}

-- the texts of a document's sheets: those of files, and then those of its `style` elements (CSS 2.1, 6.4)
abbrev pub texts_of : Document → List (List ℕ)
texts_of d = author_texts (element_sheets d.nodes) d.sheets

-- the page rules of a document's sheets (css-page-3, 3)
abbrev pub AreRulesOf : Document → List PageRule → Type 0
AreRulesOf d rules = ArePageRules (authors_of (texts_of d)) rules

-- each page has the frame that its winning page declarations give; page 1 is a right page, and sides alternate
-- (css-page-3, 3 to 7)
abbrev pub whole_frames : List PageRule → List (List ℕ) → PageFrames
whole_frames rules names = record {
  meets = meets_by_parity;
  frame_of = λ index name kind. (page_cell rules (text_of names name) (classes_of index kind)).frame;
}

-- the gap between columns, in units
abbrev pub gap_units : ColumnGrid → ℤ
gap_units grid = pos (grid.gap * 64)

-- each frame is a column of the frame of its page
abbrev pub page_frames : List PageRule → List (List ℕ) → ColumnGrid → PageFrames
page_frames rules names grid = record {
  meets = meets_by grid.columns;
  frame_of = λ index name kind. column_of grid.columns (gap_units grid)
      ((whole_frames rules names).frame_of (page_at grid.columns index) name kind) (column_at grid.columns index);
}

-- nodes have the computed styles (CSS 2.1, 6) that the default sheet and those of the document give, with these names
-- of pages
pub record AreStylesBy (d : Document) (names : List (List ℕ)) (rows : List NodeStyles) : Type 0 where
  pub sheets : List ReadSheet
  pub read : AllZip IsReadFrom (sources_of (texts_of d)) sheets
  pub styles : AreDocumentStyles names d.nodes sheets rows

-- the names of the strings that the margin boxes of page rules ask for, each once (css-gcpm-3, string())
abbrev pub asked_of : List PageRule → List (List ℕ)
asked_of rules = fold with_name [] (all_running rules)

-- what the passes over a document read: its nodes in their styles, the values of its counters by them (CSS 2.1, 12.4),
-- the names of the strings that its page rules ask for, its faces, the points of its words, the columns of the frames
-- that its page rules give, and the elements that its page references lead to
abbrev pub work_by : Document → List PageRule → List (List ℕ) → List NodeStyles → List NodeId → Work
work_by d rules names rows targets = record {
  nodes = d.nodes;
  rows = rows;
  values = values_of d.nodes rows;
  asked = asked_of rules;
  faces = d.faces;
  points = d.points;
  frames = page_frames rules names d.grid;
  per = d.grid.columns;
  targets = targets;
}

-- a document without page references: none leads to an element, whatever its styles are (css-gcpm-3, target-counter)
abbrev pub HasNoReferences : Document → Type 0
HasNoReferences d = (names : List (List ℕ)) (rows : List NodeStyles) (target : ℕ) → AreStylesBy d names rows →
    ¬ (IsNamed d.nodes rows target)

-- the work that a document gives: its rules, its styles and what is laid out with them
pub record IsWorkOf (d : Document) (rules : List PageRule) (names : List (List ℕ)) (w : Work) : Type 0 where
  pub by : AreRulesOf d rules
  pub rows : List NodeStyles
  pub styles : AreStylesBy d names rows
  pub targets : List NodeId
  pub are : AreTargets d.nodes rows targets
  pub is : w ≡ work_by d rules names rows targets

-- how the passes over a document end, of which there are at most so many
pub record HasEnd (d : Document) (end : End) : Type 0 where
  pub rules : List PageRule
  pub names : List (List ℕ)
  pub work : Work
  pub of : IsWorkOf d rules names work
  pub ends : EndsIn work d.passes end
