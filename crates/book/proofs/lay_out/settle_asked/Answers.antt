use Rattle.std.proofs.Common.{ap}
use Rattle.std.proofs.lemmas.Result.{err_from_is_err_and}
use Rattle.soft_hyphens.specs.Words.{points_in}
use Rattle.columns.specs.Columns.{column_frames}
use Rattle.book.proofs.BoundLemmas.{are_pages, table_good}
use Rattle.book.proofs.PassLemmas.{in_frames, stops_by}
use Rattle.book.proofs.LineLemmas.{few_in, unsettled_few}
use Rattle.book.proofs.lay_out.settle_asked.Goals as goal

pub returns-clause-settled : goal.returns-clause-settled
returns-clause-settled g c =
    let columns = c.in_ok-frames.frames in
    let of = c.in_ok-frames.ensures in
    let is = c.in_ok-settle.ensures.settles in
    in_frames c.args.styled.now _ _ (column_frames columns.pages.table.rows columns.count columns.gap) columns.count _ c.requires.asked (ap points_in c.patterns_of.ensures) of.frames of.per is.targets is.are is.ends

pub returns-clause-frames : goal.returns-clause-frames
returns-clause-frames g c =
    let columns = c.in_ok-frames.frames in
    let is = c.in_ok-settle.ensures.settles in
    are_pages _ _ _ _ _ _ is.ends (table_good columns.count columns.gap columns.pages.table.rows columns.good) c.in_ok-settle.ensures.good.paged c.in_ok-settle.ensures.tops

pub returns-in_err-settle-clause-stops : goal.returns-in_err-settle-clause-stops
returns-in_err-settle-clause-stops g c =
    let s = c.args.styled.now in
    let columns = c.in_ok-frames.frames in
    let of = c.in_ok-frames.ensures in
    let frames = column_frames columns.pages.table.rows columns.count columns.gap in
    let p = err_from_is_err_and c.from_residual-in_err-settle.result c.from_residual-in_err-settle.ensures.1 in
    rw (p.1, p.2) (stops_by s _ frames columns.count (λ end is. in_frames s _ _ frames columns.count end c.requires.asked (ap points_in c.patterns_of.ensures) of.frames of.per is.targets is.are is.ends) c.in_err-settle.field-0.0 c.in_err-settle.ensures.settles)

pub returns-clause-lines : goal.returns-clause-lines
returns-clause-lines g c =
    let columns = c.in_ok-frames.frames in
    let of = c.in_ok-frames.ensures in
    let is = c.in_ok-settle.ensures.lines in
    few_in c.args.styled.now _ _ (column_frames columns.pages.table.rows columns.count columns.gap) columns.count _ _ _ c.requires.asked (ap points_in c.patterns_of.ensures) of.frames of.per is.targets is.are is.looks

pub returns-in_err-settle-clause-lines : goal.returns-in_err-settle-clause-lines
returns-in_err-settle-clause-lines g c =
    let s = c.args.styled.now in
    let columns = c.in_ok-frames.frames in
    let of = c.in_ok-frames.ensures in
    let frames = column_frames columns.pages.table.rows columns.count columns.gap in
    let p = err_from_is_err_and c.from_residual-in_err-settle.result c.from_residual-in_err-settle.ensures.1 in
    rw (p.1, p.2) (unsettled_few s _ frames columns.count _ _ (λ h. few_in s _ _ frames columns.count _ _ _ c.requires.asked (ap points_in c.patterns_of.ensures) of.frames of.per h.targets h.are h.looks) c.in_err-settle.field-0.0 c.in_err-settle.ensures.lines)
