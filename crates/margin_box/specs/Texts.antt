-- What the margin boxes of a page print (css-page-3, page-margin boxes; css-gcpm-3, 1.1.2; CSS 2.1, 12.2).
use Rattle.std.specs.Prelude.{ℕ, ℤ, pos, List, [], Option, length, slice_get}
use Rattle.std.specs.List.{flat_map}
use Rattle.bk_num.specs.declared.ids.NameId.{NameId}
use Rattle.style.specs.declared.content.Part.{Part}
use Rattle.style.specs.declared.content.Part.TheVariants as part
use Rattle.metrics.specs.Face.{FontFace}
use Rattle.boxes.specs.declared.flow.Flow.{Flow}
use Rattle.boxes.specs.declared.frames.PageKind.{PageKind}
use Rattle.boxes.specs.declared.page.Page.{Page}
use Rattle.boxes.specs.declared.table.PageCell.{PageCell}
use Rattle.counters.specs.Numerals.{numeral_of, number_text}
use Rattle.strings.specs.Shown.{string_of}
use Rattle.page_ctx.specs.Margins.{MarginStyleOf}

-- what the margin boxes of a page list are printed with: the faces, the flow that stands on the pages, the pages with
-- their numbers, the page box of an index, a name and a kind, and the style of a margin box there, which only boxes
-- with content have
pub record MarginsOf : Type 0 where
  pub faces : List FontFace
  pub flow : Flow
  pub pages : List Page
  pub numbers : List ℤ
  pub cell : ℕ → NameId → PageKind → Option PageCell
  pub style : ℕ → NameId → PageKind → ℕ → Option MarginStyleOf

-- what a part prints on a page: a text, a running string, the page's number, or how many pages there are; no margin box
-- has another part
abbrev pub part_text : MarginsOf → ℕ → Part → List ℕ
part_text m page (part.Text text) = text
part_text m page (part.Running name keyword) = string_of m.flow.main m.pages m.flow.strings page name keyword
part_text m page (part.Page style) = number_text style (slice_get m.numbers page)
part_text m page (part.Pages style) = numeral_of style (pos (length m.pages))
part_text m page (part.Attr name) = []
part_text m page (part.Counter name style) = []
part_text m page (part.Counters name between style) = []
part_text m page (part.Target link name style) = []
part_text m page part.Own = []

-- the text of a box on a page: those of its parts, one after the other; its white space isn't collapsed
abbrev pub box_text : MarginsOf → ℕ → List Part → List ℕ
box_text m page parts = flat_map (part_text m page) parts
