use Rattle.std.proofs.Common.{◌<◌, ◌≤◌, ◌⊎◌, inl, inr, length, ◌-◌, List, arith}
use Rattle.std.proofs.lemmas.Bool.{cases_lt}
use Rattle.cuts.specs.declared.row.SolidRow.{SolidRow}
use Rattle.cuts.proofs.PointLemmas.{joined_end}
use Rattle.cuts.proofs.points.lines_from.Goals as goal
use Rattle.cuts.proofs.points.lines_from.Goals.{After-loop-at}

-- only lines that go on with their leaf follow where the count ends
side : (c : After-loop-at) → (c.args.joined ≤ c.loop-at.at) ⊎ (length c.args.rows.now ≤ c.loop-at.at)
side c =
    by (cases_lt (length c.args.rows.now) c.args.joined)
  where
    by : (length c.args.rows.now < c.args.joined) ⊎ (c.args.joined ≤ length c.args.rows.now) → (c.args.joined ≤ c.loop-at.at) ⊎ (length c.args.rows.now ≤ c.loop-at.at)
    by (inl h) = let widest = c.max.ensures in let apart = c.min-apart.ensures in let end = c.loop-at-test.false in inr (omega arith)
    by (inr h) = let widest = c.max.ensures in let apart = c.min-apart.ensures in let end = c.loop-at-test.false in inl (omega arith)

pub returns : goal.returns
returns c =
    let rows : List SolidRow = c.args.rows.now in
    let within = c.requires.from in
    let widest = c.max.ensures in
    let apart = c.min-apart.ensures in
    let last = c.loop-at.auto.at-end in
    let low : c.loop-at.at ≤ length rows = omega arith in
    let all = joined_end rows c.args.joined c.loop-at.at c.requires.joined low (side (goal.at.returns c).After-loop-at) in
    let rest = c.loop-at.invariant.rest in
    let placed = c.loop-at.invariant.placed in
    omega arith
