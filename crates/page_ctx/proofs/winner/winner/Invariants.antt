use Rattle.std.proofs.Common.{◌≡◌, map, option_map, drop, None}
use Rattle.std.specs.List.{fold}
use Rattle.page_ctx.specs.Winners.{candidate_in, with_declared}
use Rattle.page_ctx.proofs.winner.winner.Given as goal

abbrev pub invariant-loop-candidate : goal.invariant-loop-candidate
invariant-loop-candidate l = fold (with_declared l.property) (option_map candidate_in l.best) (map candidate_in (drop l.candidate-index l.declared)) ≡ fold (with_declared l.property) None (map candidate_in l.declared)
