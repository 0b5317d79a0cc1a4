use Rattle.std.proofs.Common.{All, ◌∙◌, ◌+◌, ℕ, List, length, ap, sym, subst}
use Rattle.std.proofs.lemmas.List.Elements.{All-push}
use Rattle.std.proofs.lemmas.List.Sums.{sum_by_push}
use Rattle.boxes.specs.Tree.{Tree}
use Rattle.boxes.specs.declared.leaf.Leaf.{Leaf}
use Rattle.tree_fixtures.specs.Leaves.{IsShortLeaf, bytes_of}
use Rattle.tree_fixtures.proofs.tree.fill.Goals as goal

pub returns-clause-leaves : goal.returns-clause-leaves
returns-clause-leaves c =
    subst (λ (t : Tree). All IsShortLeaf t.leaves) (sym c.in_ok-add_leaf.ensures.ok)
    (All-push IsShortLeaf c.args.tree.now.leaves c.in_ok-leaf.leaf c.requires.leaves c.in_ok-leaf.ensures.short)

pub returns-clause-bytes : goal.returns-clause-bytes
returns-clause-bytes c =
    ap (λ (t : Tree). bytes_of t.leaves) c.in_ok-add_leaf.ensures.ok
    ∙ sum_by_push (λ (leaf : Leaf). length leaf.text) c.args.tree.now.leaves c.in_ok-leaf.leaf
    ∙ ap (λ (text : List ℕ). bytes_of c.args.tree.now.leaves + length text) c.in_ok-leaf.ensures.text
