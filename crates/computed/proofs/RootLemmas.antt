-- The root of a document is shown.
use Rattle.std.proofs.Common.{◌≡◌, ◌∙◌, ℕ, Bool, true, false, List, Option, None, Some, is_some, refl, ap, arith}
use Rattle.bk_num.proofs.ListLemmas.{slice_get_at}
use Rattle.bk_num.specs.declared.values.Pseudo.TheVariants as pseudo
use Rattle.dom.specs.Nodes.{Node, NodeData, IsTree, HasPlace, parents_of, parent_at, name_at, name_in, is_element, part_of}
use Rattle.dom.specs.Nodes as nodes
use Rattle.dom.proofs.WalkLemmas.{root-parent}
use Rattle.style.specs.Nodes.{NodeStyles, style_of, is_shown_in}
use Rattle.style.specs.declared.style.Style.{Style}
use Rattle.cascade.specs.declared.table.NodeWinners.{NodeWinners}
use Rattle.computed.specs.Walk.{IsNode}
use Rattle.computed.specs.Laws.{RootIsShown}

abbrev IsShownAt : Option NodeStyles → Type 0
IsShownAt o = ((s : Style) × (style_of o pseudo.Element ≡ Some s)) × (is_shown_in o ≡ true)

element-named : (d : NodeData) → is_element d ≡ true → is_some (name_in d) ≡ true
element-named (nodes.Element name attrs) h = refl
element-named (nodes.Text text) h = cc

root-named : (dom : List Node) → IsTree dom → is_some (name_at dom 0) ≡ true
root-named dom tree =
    let root = slice_get_at dom 0 tree.some in
    ap (λ o. is_some (part_of name_in o)) root.1 ∙ by root.0 root.0.parent (tree.placed 0 root.0 root.1)
  where
    by : (n : Node) (q : Option ℕ) → HasPlace dom 0 n q → is_some (name_in n.what) ≡ true
    by n None h = element-named n.what h.2
    by n (Some p) h = let l = h.0 in absurd (omega arith)

root-node : (names : List (List ℕ)) (rows : List NodeStyles) (parent : Option ℕ) (element : Bool) (w : NodeWinners) (r : NodeStyles) → parent ≡ None → element ≡ true → IsNode names rows parent element w r → IsShownAt (Some r)
root-node names rows None true w r p e x = ((x.style, x.own), x.shown)
root-node names rows (Some q) b w r p e x = cc
root-node names rows None false w r p e x = cc

pub root-shown : RootIsShown
root-shown dom sheets names rows tree x =
    let some = tree.some in
    let full = x.are_winners.count in
    let count = x.styles.count in
    let winner = slice_get_at x.winners 0 (omega arith) in
    let row = slice_get_at rows 0 (omega arith) in
    let node = x.styles.each 0 winner.0 row.0 winner.1 row.1 in
    let shown = root-node names rows (parent_at (parents_of dom) 0) (is_some (name_at dom 0)) winner.0 row.0 (root-parent dom tree) (root-named dom tree) node in
    ((shown.0.0, ap (λ o. style_of o pseudo.Element) row.1 ∙ shown.0.1), ap is_shown_in row.1 ∙ shown.1, count)
