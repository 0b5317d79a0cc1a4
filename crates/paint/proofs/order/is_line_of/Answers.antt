use Rattle.std.proofs.Common.{ℕ, MatchBool, subst}
use Rattle.line_fill.specs.LineEnd.{IsLineBetween}
use Rattle.paint.proofs.order.is_line_of.Goals as goal

pub returns : goal.returns
returns c =
    let from : ℕ = c.args.s.now.at.offset in
    subst (λ (to : ℕ). MatchBool c.is_line_between.result (IsLineBetween c.args.leaf.now from to) (¬ (IsLineBetween c.args.leaf.now from to))) c.end_in.ensures c.is_line_between.ensures
