use Rattle.std.proofs.Common.{subst, sym}
use Rattle.cursor.specs.Conditions.{IsGreedy}
use Rattle.page_rows.proofs.WalkLemmas.{same_tree}
use Rattle.page_rows.proofs.tree_pages.push_walk.Goals as goal

pub loop-preserved : goal.loop-preserved
loop-preserved g c = record {
  greedy = subst IsGreedy (sym (same_tree c.next.result c.loop.cursor c.next.new.self c.next.ensures.goes)) c.loop.invariant.greedy;
}
