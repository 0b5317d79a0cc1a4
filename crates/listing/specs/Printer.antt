-- What a printer stands for, and what is asked of it.
use Rattle.std.specs.Prelude.{◌≡◌, ◌<◌, ◌^◌, All, length}
use Rattle.boxes.specs.Table.{cell_in, cell_of, row_of}
use Rattle.page_ctx.specs.Margins.{style_of}
use Rattle.boxes.specs.Frames.{IsPerPage}
use Rattle.page_seq.specs.Folds.{fold_of}
use Rattle.page_seq.specs.Numbers.{numbers_of}
use Rattle.paint.specs.Conditions.{CanFlowBePainted}
use Rattle.paint.specs.Order.{IsPageOf}
use Rattle.strings.specs.Assigned.{AreStrings}
use Rattle.listing.specs.Printed.{Print}
use Rattle.listing.specs.declared.pages.Printer.{Printer}

-- the page boxes and the styles of margin boxes stand in a table
abbrev pub view_of : Printer → Print
view_of p = record {
  passes = p.passes;
  faces = p.faces.now;
  flow = p.flow.now;
  frames = p.frames.now.pages;
  per = p.per;
  names = p.names.now;
  cell = λ index name kind. cell_in (row_of p.styles.now.table.rows name) (cell_of index kind);
  style = λ index name kind place. style_of p.styles.now.boxes index name kind place;
}

-- the flow can be painted, the frames are those of pages of it, the pages are those on which the frames stand, the
-- numbers and the running strings are those of these pages, and a listing counts them
pub record CanPrint (p : Printer) : Type 0 where
  pub painted : CanFlowBePainted p.faces.now p.flow.now
  pub frames : All (IsPageOf p.flow.now) p.frames.now.pages
  pub per : IsPerPage p.per
  pub pages : p.list.now.pages ≡ fold_of p.per p.frames.now.pages
  pub numbers : p.numbers.now ≡ numbers_of p.flow.now.main p.list.now.pages p.flow.now.resets
  pub strings : AreStrings p.flow.now.main p.list.now.pages p.flow.now.strings p.strings.now
  pub few : length p.list.now.pages < 2 ^ 31
