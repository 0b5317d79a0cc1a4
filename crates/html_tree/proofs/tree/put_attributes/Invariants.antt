use Rattle.std.proofs.Common.{◌≡◌, length, true}
use Rattle.dom.specs.Nodes.{is_element_at}
use Rattle.html_tok.specs.Tags.{attributes_of}
use Rattle.html_tree.specs.Tree.{put_all}
use Rattle.html_tree.proofs.tree.put_attributes.Given as goal

abbrev pub invariant-loop-name : goal.invariant-loop-name
invariant-loop-name l = record {
  element : is_element_at l.dom l.node.0 ≡ true;
  left : put_all l.node.0 l.attrs l.dom ≡ put_all l.node.0 (attributes_of l.fn.attrs) l.fn.dom;
}

abbrev pub decreases-loop-name : goal.decreases-loop-name
decreases-loop-name l = length l.attrs
