use Rattle.std.proofs.Common.{◌≡◌, ◌++◌, map, drop}
use Rattle.std.specs.List.{flat_map}
use Rattle.page_ctx.specs.Winners.{candidate_in, block_declared}
use Rattle.page_ctx.proofs.applied.push_blocks.Given as goal

abbrev pub invariant-loop-block : goal.invariant-loop-block
invariant-loop-block l = map candidate_in l.declared.items ++ flat_map (block_declared l.weight l.place) (drop l.block-index l.blocks) ≡ map candidate_in l.fn.declared.items ++ flat_map (block_declared l.weight l.place) l.blocks
