-- What a table of pages gives is what the page rules give.
use Rattle.std.proofs.Common.{◌≡◌, ℕ, ◌-◌, ℤ, pos, ◌≤ℤ◌, ◌-ℤ◌, ◌*ℤ◌, List, ap, arith}
use Rattle.std.proofs.lemmas.Int.{ints, clamps}
use Rattle.std.specs.Int.{int_max}
use Rattle.bk_num.specs.declared.ids.NameId.{NameId}
use Rattle.bk_num.specs.Units.{floor_div}
use Rattle.boxes.specs.Frames.{HaveWidths, column_at, meets_by, page_at}
use Rattle.boxes.specs.Table.{cell_in, cell_of, row_of}
use Rattle.boxes.specs.declared.flow.Flow.{Flow}
use Rattle.boxes.specs.declared.frames.PageKind.{PageKind}
use Rattle.boxes.specs.declared.page.Page.{Page}
use Rattle.boxes.specs.declared.table.PageRow.{PageRow}
use Rattle.columns.specs.Columns.{column_frames, column_of}
use Rattle.css_page.specs.declared.rules.PageRule.{PageRule}
use Rattle.metrics.specs.Face.{FontFace}
use Rattle.page_ctx.specs.Cells.{cell_by, cell_sized, font_size_of, height_by, margins_by, width_by}
use Rattle.page_ctx.specs.Margins.{AreMarginStyles, style_of}
use Rattle.page_ctx.specs.Selectors.{classes_of}
use Rattle.page_ctx.specs.Tables.{IsTable, page_cell, text_of}
use Rattle.page_ctx.specs.Winners.{Declared, applied_to, page_declared, value_of}
use Rattle.page_ctx.specs.declared.property.PageProperty.TheVariants as property
use Rattle.page_ctx.specs.declared.resolve.PageStyles.{PageStyles}
use Rattle.page_seq.specs.Frames.{frame_in, frame_of}
use Rattle.book.specs.Answer.{print_of}
use Rattle.book.specs.Flow.{gap_units, page_frames, whole_frames}
use Rattle.book.specs.declared.document.ColumnGrid.{ColumnGrid}
use Rattle.listing.specs.Printed.{Print}

-- what is printed of a flow, whose page boxes and margin boxes are these
abbrev pub table_print : List FontFace → PageStyles → List (List ℕ) → ℕ → ℕ → Flow → List Page → Print
table_print faces styles names per passes flow frames = record {
  passes = passes;
  faces = faces;
  flow = flow;
  frames = frames;
  per = per;
  names = names;
  cell = λ index name kind. cell_in (row_of styles.table.rows name) (cell_of index kind);
  style = λ index name kind place. style_of styles.boxes index name kind place;
}

held_least : (z : ℤ) → pos 0 ≤ℤ int_max z (pos 0)
held_least z = omega (arith, ints, clamps)

held_first : (z : ℤ) → pos 0 ≤ℤ int_max (pos 0) z
held_first z = omega (arith, ints, clamps)

sized_least : (font width height : ℤ) (ds : List Declared) → pos 0 ≤ℤ (cell_sized font width height ds).frame.width
sized_least font width height ds = held_least ((width -ℤ (margins_by font width height ds).left) -ℤ (margins_by font width height ds).right)

cell_least : (ds : List Declared) → pos 0 ≤ℤ (cell_by ds).frame.width
cell_least ds = sized_least (font_size_of ds) (width_by (font_size_of ds) (value_of property.Size ds)) (height_by (font_size_of ds) (value_of property.Size ds)) ds

module _ (rules : List PageRule) (names : List (List ℕ)) where
  -- no frame's width is negative
  pub whole_widths : HaveWidths (whole_frames rules names)
  whole_widths index name kind = cell_least (page_declared (applied_to (text_of names name) (classes_of index kind) rules))

  pub page_widths : (grid : ColumnGrid) → HaveWidths (page_frames rules names grid)
  page_widths grid index name kind = held_first (floor_div (((whole_frames rules names).frame_of (page_at grid.columns index) name kind).width -ℤ pos (grid.columns - 1) *ℤ gap_units grid) grid.columns)

  frame_is : (rows : List PageRow) → IsTable rules names rows → (index : ℕ) (name : NameId) (kind : PageKind) → frame_of rows index name kind ≡ (page_cell rules (text_of names name) (classes_of index kind)).frame
  frame_is rows table index name kind = ap frame_in (table index name kind)

  pub frames_are : (grid : ColumnGrid) (rows : List PageRow) → IsTable rules names rows → column_frames rows grid.columns (gap_units grid) ≡ page_frames rules names grid
  frames_are grid rows table = λ i. record {
    meets = meets_by grid.columns;
    frame_of = λ index name kind. column_of grid.columns (gap_units grid) (frame_is rows table (page_at grid.columns index) name kind i) (column_at grid.columns index);
  }

  pub print_is : (faces : List FontFace) (per passes : ℕ) (flow : Flow) (frames : List Page) (styles : PageStyles) → IsTable rules names styles.table.rows → AreMarginStyles rules names styles.boxes → table_print faces styles names per passes flow frames ≡ print_of faces rules names per passes flow frames
  print_is faces per passes flow frames styles table boxes = λ i. record {
    passes = passes;
    faces = faces;
    flow = flow;
    frames = frames;
    per = per;
    names = names;
    cell = λ index name kind. table index name kind i;
    style = λ index name kind place. boxes index name kind place i;
  }
