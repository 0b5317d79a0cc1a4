-- The table of pages: six cells a name (css-page-3, 3 and 4).
use Rattle.std.specs.Prelude.{◌≡◌, ℕ, true, false, List, [], ◌∷◌, Some, drop, map, slice_get, unwrap_or}
use Rattle.bk_num.specs.declared.ids.NameId.{NameId}
use Rattle.boxes.specs.Table.{cell_in, cell_of, row_of}
use Rattle.boxes.specs.declared.frames.PageKind.{PageKind}
use Rattle.boxes.specs.declared.table.PageRow.{PageRow}
use Rattle.boxes.specs.declared.table.PageCell.{PageCell}
use Rattle.css_page.specs.declared.rules.PageRule.{PageRule}
use Rattle.css_page.specs.declared.selectors.PageSelector.{PageSelector}
use Rattle.page_ctx.specs.declared.classes.PageClasses.{PageClasses}
use Rattle.page_ctx.specs.Selectors.{classes_of, takes}
use Rattle.page_ctx.specs.Winners.{applied_to, page_declared}
use Rattle.page_ctx.specs.Cells.{cell_by}

-- the page box of the pages of a name that have these pseudo-classes
abbrev pub page_cell : List PageRule → List ℕ → PageClasses → PageCell
page_cell rules name c = cell_by (page_declared (applied_to name c rules))

-- the texts of names by their numbers: number 0 is no name, whose text is empty
abbrev pub texts_of : List (List ℕ) → List (List ℕ)
texts_of names = [] ∷ drop 1 names

-- a number past the names is that of no name
abbrev pub text_of : List (List ℕ) → NameId → List ℕ
text_of names name = unwrap_or (slice_get (texts_of names) name.0) []

-- the cell that a table has for each page is the one of its name and its pseudo-classes
abbrev pub IsTable : List PageRule → List (List ℕ) → List PageRow → Type 0
IsTable rules names rows =
    (index : ℕ) (name : NameId) (kind : PageKind) →
    cell_in (row_of rows name) (cell_of index kind) ≡
    Some (page_cell rules (text_of names name) (classes_of index kind))

-- pages of one cell are taken by the same selectors, so six cells a name suffice
abbrev pub CellsSuffice : Type 0
CellsSuffice =
    (s : PageSelector) (name : List ℕ) (i j : ℕ) (k l : PageKind) → cell_of i k ≡ cell_of j l →
    takes s name (classes_of i k) ≡ takes s name (classes_of j l)

-- page 1
abbrev pub page_1 : PageClasses
page_1 = record { first = true; left = false; blank = false }

-- a left page
abbrev pub a_left_page : PageClasses
a_left_page = record { first = false; left = true; blank = false }

-- a right page other than page 1
abbrev pub a_right_page : PageClasses
a_right_page = record { first = false; left = false; blank = false }

-- such a page that is blank
abbrev pub as_blank : PageClasses → PageClasses
as_blank c = record c { blank = true }

-- page 1, another left page, another right page, and the same three blank
abbrev pub six_pages : List PageClasses
six_pages = page_1 ∷ a_left_page ∷ a_right_page ∷ as_blank page_1 ∷ as_blank a_left_page ∷ as_blank a_right_page ∷ []

-- the six page boxes of the pages of a name
abbrev pub row_by : List PageRule → List ℕ → PageRow
row_by rules name = record { cells = map (page_cell rules name) six_pages }
