-- What holds of each frame of a table, and of the frame of no page, holds of the frame of whatever page.
use Rattle.std.proofs.Common.{◌≡◌, ℕ, List, Option, None, Some, slice_get, refl, ◌∙◌, arith}
use Rattle.std.specs.List.{All}
use Rattle.std.specs.Option.{option_or}
use Rattle.std.proofs.lemmas.Int.{ints}
use Rattle.bk_num.proofs.ListLemmas.{all-get}
use Rattle.bk_num.specs.declared.ids.NameId.{NameId}
use Rattle.boxes.specs.Frames.{IsGoodFrame}
use Rattle.boxes.specs.Table.{cell_in, cell_of, row_of}
use Rattle.boxes.specs.declared.frames.Frame.{Frame}
use Rattle.boxes.specs.declared.frames.PageKind.{PageKind}
use Rattle.boxes.specs.declared.table.PageCell.{PageCell}
use Rattle.boxes.specs.declared.table.PageRow.{PageRow}
use Rattle.page_seq.specs.Frames.{HasCells, IsGoodTable, frame_in, frame_of, no_frame}

module _ (P : Frame → Type 0) (none : P no_frame) where
  cell_has : (row : Option PageRow) (k : ℕ) → ((r : PageRow) → row ≡ Some r → HasCells P r) →
      P (frame_in (cell_in row k))
  cell_has None k has = none
  cell_has (Some row) k has = by (slice_get row.cells k) refl
    where
      by : (cell : Option PageCell) → slice_get row.cells k ≡ cell → P (frame_in cell)
      by None e = none
      by (Some cell) e = all-get (λ (x : PageCell). P x.frame) row.cells k cell (has row refl) e

  row_has : (rows : List PageRow) (name : NameId) → All (HasCells P) rows → (r : PageRow) →
      row_of rows name ≡ Some r → HasCells P r
  row_has rows name all r e = by (slice_get rows name.0) refl e
    where
      by : (o : Option PageRow) → slice_get rows name.0 ≡ o → option_or o (slice_get rows 0) ≡ Some r → HasCells P r
      by None f is = all-get (HasCells P) rows 0 r all is
      by (Some x) f is = all-get (HasCells P) rows name.0 r all (f ∙ is)

  pub frame_has : (rows : List PageRow) → All (HasCells P) rows → (index : ℕ) (name : NameId) (kind : PageKind) →
      P (frame_of rows index name kind)
  frame_has rows all index name kind = cell_has (row_of rows name) (cell_of index kind) (row_has rows name all)

none_good : IsGoodFrame no_frame
none_good = record {
  height_low = omega (arith, ints);
  height_high = omega (arith, ints);
  width_low = omega (arith, ints);
  width_high = omega (arith, ints);
  left_low = omega (arith, ints);
  left_high = omega (arith, ints);
  top_low = omega (arith, ints);
  top_high = omega (arith, ints);
}

pub good_frame : (rows : List PageRow) → IsGoodTable rows → (index : ℕ) (name : NameId) (kind : PageKind) →
    IsGoodFrame (frame_of rows index name kind)
good_frame rows good = frame_has IsGoodFrame none_good rows good.cells
