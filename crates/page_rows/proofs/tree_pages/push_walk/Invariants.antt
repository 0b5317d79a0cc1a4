use Rattle.cursor.specs.Conditions.{IsGreedy}
use Rattle.page_rows.proofs.tree_pages.push_walk.Given as goal

abbrev pub invariant-loop : goal.invariant-loop
invariant-loop g l = record {
  greedy : IsGreedy l.cursor.tree;
}
