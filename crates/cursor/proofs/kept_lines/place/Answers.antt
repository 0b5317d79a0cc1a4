use Rattle.std.proofs.Common.{◌≡◌, refl, sym, subst, FitsSigned, w64}
use Rattle.std.proofs.lemmas.Int.{to_z-of_z}
use Rattle.boxes.specs.declared.leaf.Leaf.{Leaf}
use Rattle.line_fill.specs.Kept.{IsLeafAt}
use Rattle.line_fill.specs.Keys.{key_of}
use Rattle.cursor.proofs.PlaceLemmas.{placed_grown, placed_noted, same_leaf}
use Rattle.cursor.proofs.kept_lines.place.Goals as goal

pub returns-in-Some-clause-at : goal.returns-in-Some-clause-at
returns-in-Some-clause-at c = λ leaf has.
    let fits : FitsSigned w64 c.args.measure = c.ranges.measure in
    c.requires.placed c.args.number.leaf c.in-Some.at c.args.measure leaf (sym (rw (to_z-of_z w64 c.args.measure fits) at c.in-Some.ensures)) has

pub returns-in_err-at-clause-placed : goal.returns-in_err-at-clause-placed
returns-in_err-at-clause-placed c =
    placed_grown c.args.tree.now c.args.number.tree c.args.kept.now c.place.new.self c.args.places.now c.args.places.now c.place.ensures.grows.places refl

pub returns-in_err-note-clause-placed : goal.returns-in_err-note-clause-placed
returns-in_err-note-clause-placed c =
    placed_grown c.args.tree.now c.args.number.tree c.args.kept.now c.place.new.self c.args.places.now c.note.new.self c.in_ok-at.ensures.grows.places c.in_err-note.ensures.same

pub returns-clause-at : goal.returns-clause-at
returns-clause-at c = λ leaf has.
    let fits : FitsSigned w64 c.args.measure = c.ranges.measure in
    let is : c.in_ok-leaf.leaf.value ≡ leaf = same_leaf c.args.tree.now c.args.number.leaf c.in_ok-leaf.leaf.value leaf c.in_ok-leaf.ensures has in
    subst (λ (l : Leaf). IsLeafAt c.place.new.self c.in_ok-at.at (key_of l) c.args.measure) is (rw (to_z-of_z w64 c.args.measure fits) at c.in_ok-at.ensures.at)

pub returns-clause-placed : goal.returns-clause-placed
returns-clause-placed c =
    let fits : FitsSigned w64 c.args.measure = c.ranges.measure in
    placed_noted c.args.tree.now c.args.number.tree c.args.number.leaf c.in_ok-at.at c.args.measure c.args.kept.now c.place.new.self c.args.places.now c.note.new.self c.in_ok-leaf.leaf.value c.in_ok-leaf.ensures
    (rw (to_z-of_z w64 c.args.measure fits) at c.in_ok-at.ensures.at) c.in_ok-at.ensures.grows.places (rw (to_z-of_z w64 c.args.measure fits) at c.in_ok-note.ensures.noted)
