use Rattle.std.proofs.Common.{◌≡◌, ◌-◌}
use Rattle.line_fill.specs.Stops.{first_wide}
use Rattle.line_fill.proofs.wide.first_wide.Given as goal

abbrev pub invariant-loop-at : goal.invariant-loop-at
invariant-loop-at l = first_wide l.text l.from (l.end - l.from) ≡ first_wide l.text l.at (l.end - l.at)
