use Rattle.std.proofs.Common.{◌≡◌, ◌++◌, drop}
use Rattle.page_ctx.proofs.applied.push_all.Given as goal

abbrev pub invariant-loop-candidate : goal.invariant-loop-candidate
invariant-loop-candidate l = l.declared.items ++ drop l.candidate-index l.kept ≡ l.fn.declared.items ++ l.kept
