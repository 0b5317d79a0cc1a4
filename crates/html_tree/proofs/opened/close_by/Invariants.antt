use Rattle.std.proofs.Common.{◌≡◌, ◌≤◌, length}
use Rattle.bk_num.specs.Names.{has_name}
use Rattle.html_tree.specs.Tree.{kept}
use Rattle.html_tree.specs.Rules.{texts}
use Rattle.html_tree.proofs.opened.close_by.Given as goal

abbrev pub invariant-loop-at : goal.invariant-loop-at
invariant-loop-at l = record {
  same : l.opened ≡ l.fn.opened;
  within : l.at ≤ length l.opened.items;
  rest : kept (has_name (texts l.closes)) (has_name (texts l.scope)) l.dom l.opened.items l.at ≡ kept (has_name (texts l.closes)) (has_name (texts l.scope)) l.dom l.opened.items (length l.opened.items);
}

abbrev pub decreases-loop-at : goal.decreases-loop-at
decreases-loop-at l = l.at
