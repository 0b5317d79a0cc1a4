-- The limits of the program, and the sizes that a page has where no sheet says another, in units of 1/64 px.
use Rattle.std.specs.Prelude.{◌≡◌, ◌^◌, ℕ, ℤ, pos}
use Rattle.bk_num.specs.declared.limits.TheConstants.{MOST_NODES, MOST_DEPTH, MOST_FILE_BYTES, MOST_TEXT_BYTES, MOST_PAGES, MOST_SHEETS, MOST_RULES, MOST_EVENTS, MOST_OPEN, MOST_ENTRIES, MOST_LENGTH, PAGE_WIDTH, PAGE_HEIGHT, PAGE_MARGIN, ROOT_SIZE, SEPARATOR}

-- the most nodes of a document, elements and texts
abbrev pub most_nodes : ℕ
most_nodes = 400000

-- the greatest depth of an element; the root `html` has depth 1
abbrev pub most_depth : ℕ
most_depth = 200

-- the most bytes of a file, 16 MB
abbrev pub most_file_bytes : ℕ
most_file_bytes = 16777216

-- the most bytes of the texts of all leaves of a flow, those of its notes among them
abbrev pub most_text_bytes : ℕ
most_text_bytes = 33554432

-- the most pages of a book
abbrev pub most_pages : ℕ
most_pages = 100000

-- the most style sheets of a run: those of the command line and those of `style` elements together
abbrev pub most_sheets : ℕ
most_sheets = 16

-- the most rules of one sheet: rulesets, page rules and margin boxes
abbrev pub most_rules : ℕ
most_rules = 20000

-- the most events of a tree of boxes
abbrev pub most_events : ℕ
most_events = 8000000

-- the most boxes of a tree that are open at once
abbrev pub most_open : ℕ
most_open = 2048

-- the most entries of a list of solids, nodes, pages or spans, 2^26
abbrev pub most_entries : ℕ
most_entries = 67108864

-- the greatest length either way, in units
abbrev pub most_length : ℕ
most_length = 2 ^ 27

-- the width of the default page, 148 mm
abbrev pub page_width : ℤ
page_width = pos 35800

-- the height of the default page, 210 mm
abbrev pub page_height : ℤ
page_height = pos 50797

-- each of its margins, 0.75 in
abbrev pub page_margin : ℤ
page_margin = pos 4608

-- the font size that the root begins with, 16 px (CSS 2.1, 'medium')
abbrev pub root_size : ℤ
root_size = pos 1024

-- the height of the separator above the notes of a page, 8 px
abbrev pub separator : ℤ
separator = pos 512

-- the code has these limits
pub record LimitsAgree : Type 0 where
  pub nodes : MOST_NODES ≡ most_nodes
  pub depth : MOST_DEPTH ≡ most_depth
  pub file_bytes : MOST_FILE_BYTES ≡ most_file_bytes
  pub text_bytes : MOST_TEXT_BYTES ≡ most_text_bytes
  pub pages : MOST_PAGES ≡ most_pages
  pub sheets : MOST_SHEETS ≡ most_sheets
  pub rules : MOST_RULES ≡ most_rules
  pub events : MOST_EVENTS ≡ most_events
  pub opened : MOST_OPEN ≡ most_open
  pub entries : MOST_ENTRIES ≡ most_entries
  pub length : MOST_LENGTH ≡ pos most_length

-- the code has this page
pub record PageAgrees : Type 0 where
  pub width : PAGE_WIDTH ≡ page_width
  pub height : PAGE_HEIGHT ≡ page_height
  pub margin : PAGE_MARGIN ≡ page_margin
  pub size : ROOT_SIZE ≡ root_size
  pub separator : SEPARATOR ≡ separator
