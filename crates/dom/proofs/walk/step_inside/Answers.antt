use Rattle.std.proofs.Common.{◌≡◌, ◌<◌, sym, ◌∙◌, length, None, Some, refl}
use Rattle.std.proofs.lemmas.List.{length-map}
use Rattle.dom.specs.Nodes.{parents_of, first_child_of}
use Rattle.dom.proofs.WalkLemmas.{falling, enter-child, enter-leaf}
use Rattle.dom.proofs.walk.step_inside.Goals as goal

pub returns-in-Some-clause-steps : goal.returns-in-Some-clause-steps
returns-in-Some-clause-steps c =
    let l : c.args.node.0 < length (parents_of c.args.dom.now) = simp length-map c.requires.within in
    let h : first_child_of (parents_of c.args.dom.now) c.args.node.0 ≡ Some c.in-Some.child.0 = sym c.first_child.ensures ∙ rw c.in-Some.is refl in
    (enter-child (parents_of c.args.dom.now) c.args.node.0 c.in-Some.child.0 (falling c.args.dom.now c.requires.tree) l h).1

pub returns-in-Some-clause-within : goal.returns-in-Some-clause-within
returns-in-Some-clause-within c =
    let l : c.args.node.0 < length (parents_of c.args.dom.now) = simp length-map c.requires.within in
    let h : first_child_of (parents_of c.args.dom.now) c.args.node.0 ≡ Some c.in-Some.child.0 = sym c.first_child.ensures ∙ rw c.in-Some.is refl in
    let w = (enter-child (parents_of c.args.dom.now) c.args.node.0 c.in-Some.child.0 (falling c.args.dom.now c.requires.tree) l h).0 in
    simp length-map at w

pub returns-in-None-clause-steps : goal.returns-in-None-clause-steps
returns-in-None-clause-steps c =
    let l : c.args.node.0 < length (parents_of c.args.dom.now) = simp length-map c.requires.within in
    let h : first_child_of (parents_of c.args.dom.now) c.args.node.0 ≡ None = sym c.first_child.ensures ∙ rw c.in-None.is refl in
    enter-leaf (parents_of c.args.dom.now) c.args.node.0 (falling c.args.dom.now c.requires.tree) l h
