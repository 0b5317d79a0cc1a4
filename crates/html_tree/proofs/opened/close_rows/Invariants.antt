use Rattle.std.proofs.Common.{◌≡◌, fold, take}
use Rattle.html_tree.specs.Rules.{rules}
use Rattle.html_tree.specs.Tree.{after_rule}
use Rattle.html_tree.specs.Built.{AreElements}
use Rattle.html_tree.specs.Scopes.{HaveScopes}
use Rattle.html_tree.proofs.opened.close_rows.Given as goal

abbrev pub invariant-loop-index : goal.invariant-loop-index
invariant-loop-index l = record {
  closed : l.opened.items ≡ fold (after_rule l.name l.dom) l.fn.opened.items (take l.index rules);
  elements : AreElements l.dom l.opened.items;
  scopes : HaveScopes l.dom l.opened.items l.scopes.items;
}
