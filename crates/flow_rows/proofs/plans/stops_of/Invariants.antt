use Rattle.std.specs.List.{All}
use Rattle.total_fit.specs.Lines.{IsGoodStop}
use Rattle.flow_rows.proofs.plans.stops_of.Given as goal

abbrev pub invariant-loop-piece : goal.invariant-loop-piece
invariant-loop-piece l = record { good : All IsGoodStop l.stops.items }
