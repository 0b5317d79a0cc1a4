use Rattle.std.proofs.Common.{◌≡◌, ◌++◌, map, drop}
use Rattle.page_ctx.specs.Winners.{candidate_in, declared_by}
use Rattle.page_ctx.proofs.applied.push_longs.Given as goal

abbrev pub invariant-loop-long : goal.invariant-loop-long
invariant-loop-long l = map candidate_in l.declared.items ++ map (declared_by l.weight) (drop l.long-index l.longs) ≡ map candidate_in l.fn.declared.items ++ map (declared_by l.weight) l.longs
