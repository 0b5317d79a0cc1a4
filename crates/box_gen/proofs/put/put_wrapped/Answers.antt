use Rattle.std.proofs.Common.{◌≡◌, ◌∙◌, ℕ, List, ◌∷◌, is_some, length, ap, sym, subst}
use Rattle.std.proofs.lemmas.Result.{on_ok_weaker}
use Rattle.boxes.specs.Tree.{Tree, HaveOwners, with_box, with_leaf, takes_leaf, innermost_of, first_of}
use Rattle.box_gen.specs.Flow.{shut}
use Rattle.box_gen.proofs.TreeLemmas.{opens, box-takes}
use Rattle.box_gen.proofs.PutLemmas.{close-is, filled, owned_in_box}
use Rattle.box_gen.proofs.put.put_wrapped.Goals as goal

pub add_leaf-requires-clause-place : goal.add_leaf-requires-clause-place
add_leaf-requires-clause-place c = ap (λ (t : Tree). takes_leaf t.events) c.in_ok-add_box.ensures.ok ∙ box-takes c.args.tree.now c.args.anonymous

pub add_leaf-requires-clause-owners : goal.add_leaf-requires-clause-owners
add_leaf-requires-clause-owners c = subst (λ (t : Tree). HaveOwners t.events c.args.leaf.leads) (sym c.in_ok-add_box.ensures.ok) (owned_in_box c.args.tree.now c.args.anonymous c.args.leaf.leads c.requires.owners)

pub close_box-requires-clause-open : goal.close_box-requires-clause-open
close_box-requires-clause-open c =
    let tree : c.add_leaf.new.self ≡ with_leaf (with_box c.args.tree.now c.args.anonymous) c.args.leaf = c.in_ok-add_leaf.ensures.ok ∙ ap (λ (t : Tree). with_leaf t c.args.leaf) c.in_ok-add_box.ensures.ok in
    ap (λ (t : Tree). is_some (innermost_of t.events)) tree ∙ ap (λ (os : List ℕ). is_some (first_of os)) (filled c.args.tree.now c.args.anonymous c.args.leaf)

pub returns : goal.returns
returns c =
    let tree : c.add_leaf.new.self ≡ with_leaf (with_box c.args.tree.now c.args.anonymous) c.args.leaf = c.in_ok-add_leaf.ensures.ok ∙ ap (λ (t : Tree). with_leaf t c.args.leaf) c.in_ok-add_box.ensures.ok in
    let now : opens c.add_leaf.new.self ≡ length c.args.tree.now.boxes ∷ opens c.args.tree.now = ap opens tree ∙ filled c.args.tree.now c.args.anonymous c.args.leaf in
    on_ok_weaker c.close_box.result (λ h. close-is c.add_leaf.new.self c.close_box.new.self (length c.args.tree.now.boxes) (opens c.args.tree.now) now h ∙ ap shut tree) c.close_box.ensures.ok
