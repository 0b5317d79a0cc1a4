use Rattle.std.proofs.Common.{rules, w64, FitsSigned, refl, ◌+ℤ◌}
use Rattle.std.proofs.lemmas.Int.{to_z-of_z}
use Rattle.columns.proofs.columns.column_of.Goals as goal

pub returns-clause-column : goal.returns-clause-column
returns-clause-column c =
    let width : FitsSigned w64 c.column_width-width.result = search rules in
    let left : FitsSigned w64 c.column_left.result = search rules in
    let own_left : FitsSigned w64 c.args.frame.left = search rules in
    let own_top : FitsSigned w64 c.args.frame.top = search rules in
    let own_width : FitsSigned w64 c.args.frame.width = search rules in
    let own_height : FitsSigned w64 c.args.frame.height = search rules in
    let step : FitsSigned w64 (c.column_width-width.result +ℤ c.args.gap) = search rules in
    let w = rw (to_z-of_z w64 c.args.gap c.ranges.gap, to_z-of_z w64 c.args.frame.width own_width) at c.column_width-width.ensures.width in
    let l = rw (to_z-of_z w64 c.args.frame.left own_left, to_z-of_z w64 c.args.gap c.ranges.gap, to_z-of_z w64 c.column_width-width.result width, to_z-of_z w64 (c.column_width-width.result +ℤ c.args.gap) step) at c.column_left.ensures.left in
    rw (to_z-of_z w64 c.column_left.result left, to_z-of_z w64 c.args.frame.top own_top, to_z-of_z w64 c.column_width-width.result width, to_z-of_z w64 c.args.frame.height own_height, l, w) refl
