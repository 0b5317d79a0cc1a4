use Rattle.std.proofs.Common.{ℕ, ◌-◌, ◌≤◌, drop}
use Rattle.std.specs.List.{All}
use Rattle.line_fill.specs.LineEnd.{IsLine}
use Rattle.line_fill.specs.Rests.{IsRestOfPlan}
use Rattle.line_fill.proofs.plan.planned.Given as goal

abbrev pub invariant-loop-index : goal.invariant-loop-index
invariant-loop-index l = record {
  low : 1 ≤ l.index;
  rest : (last : ℕ) × (at : ℕ) × IsRestOfPlan l.faces l.leaf l.from l.measure last at (drop (l.index - 1) l.ends);
  ahead : All (λ x. IsLine l.faces l.leaf x.from l.measure x) l.ahead.items;
}
