use Rattle.std.proofs.Common.{◌≡◌, ◌++◌, map, drop}
use Rattle.page_ctx.specs.Winners.{applied_in, candidate_in, page_declared}
use Rattle.page_ctx.proofs.applied.push_page.Given as goal

abbrev pub invariant-loop-applied : goal.invariant-loop-applied
invariant-loop-applied l = map candidate_in l.declared.items ++ page_declared (map applied_in (drop l.applied-index l.rules)) ≡ map candidate_in l.fn.declared.items ++ page_declared (map applied_in l.rules)
