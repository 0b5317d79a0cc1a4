use Rattle.std.proofs.Common.{◌≡◌, ◌++◌, map, drop}
use Rattle.page_ctx.specs.Winners.{candidate_in, decls_of}
use Rattle.page_ctx.proofs.applied.push_decls.Given as goal

abbrev pub invariant-loop-decl : goal.invariant-loop-decl
invariant-loop-decl l = map candidate_in l.declared.items ++ decls_of l.weight (drop l.decl-index l.decls) ≡ map candidate_in l.fn.declared.items ++ decls_of l.weight l.decls
