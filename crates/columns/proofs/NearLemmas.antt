-- The frame of whatever page is near where each frame of the table is.
use Rattle.std.proofs.Common.{ℕ, List, arith}
use Rattle.std.specs.List.{All}
use Rattle.std.proofs.lemmas.Int.{ints}
use Rattle.bk_num.specs.declared.ids.NameId.{NameId}
use Rattle.boxes.specs.declared.frames.PageKind.{PageKind}
use Rattle.boxes.specs.declared.table.PageRow.{PageRow}
use Rattle.columns.specs.Columns.{IsNearFrame}
use Rattle.page_seq.specs.Frames.{HasCells, frame_of as page_frame_of, no_frame}
use Rattle.page_seq.specs.GoodFrames.{frame_has}

none_near : IsNearFrame no_frame
none_near = record { low = omega (arith, ints); high = omega (arith, ints) }

pub near_frame : (rows : List PageRow) → All (HasCells IsNearFrame) rows →
    (index : ℕ) (name : NameId) (kind : PageKind) →
    IsNearFrame (page_frame_of rows index name kind)
near_frame rows near = frame_has IsNearFrame none_near rows near
