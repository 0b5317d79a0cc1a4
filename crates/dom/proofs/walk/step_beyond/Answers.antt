use Rattle.std.proofs.Common.{◌≡◌, ◌∷◌, sym, ◌∙◌, ap, None, Some, refl}
use Rattle.dom.specs.Nodes.{parents_of, parent_at, next_of}
use Rattle.dom.specs.declared.walk.Step.TheVariants.{Leave}
use Rattle.dom.proofs.WalkLemmas.{after-sibling, after-last, after-root}
use Rattle.dom.proofs.walk.step_beyond.Goals as goal

pub returns-in-Some-clause-steps : goal.returns-in-Some-clause-steps
returns-in-Some-clause-steps c =
    let h : next_of (parents_of c.args.dom.now) c.args.node.0 ≡ Some c.in-Some.sibling.0 = sym c.next_sibling.ensures ∙ rw c.in-Some.is refl in
    ap (λ r. Leave c.args.node ∷ r) (after-sibling c.args.dom.now c.args.node.0 c.in-Some.sibling.0 c.requires.tree h).1

pub returns-in-Some-clause-within : goal.returns-in-Some-clause-within
returns-in-Some-clause-within c =
    let h : next_of (parents_of c.args.dom.now) c.args.node.0 ≡ Some c.in-Some.sibling.0 = sym c.next_sibling.ensures ∙ rw c.in-Some.is refl in
    (after-sibling c.args.dom.now c.args.node.0 c.in-Some.sibling.0 c.requires.tree h).0

pub returns-in-Some-parent-clause-steps : goal.returns-in-Some-parent-clause-steps
returns-in-Some-parent-clause-steps c =
    let h : next_of (parents_of c.args.dom.now) c.args.node.0 ≡ None = sym c.next_sibling.ensures ∙ rw c.in-None.is refl in
    let up : parent_at (parents_of c.args.dom.now) c.args.node.0 ≡ Some c.in-Some-parent.parent.0 = sym c.parent.ensures ∙ rw c.in-Some-parent.is refl in
    ap (λ r. Leave c.args.node ∷ r) (after-last c.args.dom.now c.args.node.0 c.in-Some-parent.parent.0 c.requires.tree c.requires.within h up).1

pub returns-in-Some-parent-clause-within : goal.returns-in-Some-parent-clause-within
returns-in-Some-parent-clause-within c =
    let h : next_of (parents_of c.args.dom.now) c.args.node.0 ≡ None = sym c.next_sibling.ensures ∙ rw c.in-None.is refl in
    let up : parent_at (parents_of c.args.dom.now) c.args.node.0 ≡ Some c.in-Some-parent.parent.0 = sym c.parent.ensures ∙ rw c.in-Some-parent.is refl in
    (after-last c.args.dom.now c.args.node.0 c.in-Some-parent.parent.0 c.requires.tree c.requires.within h up).0

pub returns-in-None-parent-clause-steps : goal.returns-in-None-parent-clause-steps
returns-in-None-parent-clause-steps c =
    let up : parent_at (parents_of c.args.dom.now) c.args.node.0 ≡ None = sym c.parent.ensures ∙ rw c.in-None-parent.is refl in
    ap (λ r. Leave c.args.node ∷ r) (after-root (parents_of c.args.dom.now) c.args.node.0 up)
