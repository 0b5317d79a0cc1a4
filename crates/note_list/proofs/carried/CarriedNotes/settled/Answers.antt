use Rattle.std.proofs.Common.{◌≡◌, ◌++◌, ◌<◌, [], List, All, get_or, take, sym, ap, ◌∙◌, subst}
use Rattle.std.specs.List.{flat_map}
use Rattle.bk_num.proofs.ListLemmas.{take-past}
use Rattle.note_list.specs.Conditions.{IsAtSolid, IsHeld, NotesAscend}
use Rattle.note_list.specs.Left.{left_part}
use Rattle.note_list.specs.Lists.{AreNoted, carried_parts}
use Rattle.note_list.specs.declared.carried.Carried.{Carried}
use Rattle.note_list.proofs.BodyLemmas.{take_next}
use Rattle.note_list.proofs.PartLemmas.{left_held, left_stands, push_next}
use Rattle.note_list.proofs.SettledLemmas.{settled_ascends, settled_below, settled_goes, settled_lists}
use Rattle.note_list.proofs.carried.CarriedNotes.settled.Goals as goal
use Rattle.note_list.proofs.carried.CarriedNotes.settled.Goals.{After-loop-part}

pub loop-part-init : goal.loop-part-init
loop-part-init c = c.new-left.ensures

pub loop-part-preserved : goal.loop-part-preserved
loop-part-preserved c =
    let none : Carried = record { note = 0; at = record { event = 0; offset = 0 } } in
    let parts : List Carried = c.args.parts.now in
    push_next (left_part c.args.flow.now.notes) [] c.loop-part.left c.push_part.new.left (take c.loop-part.part-index parts) (get_or parts c.loop-part.part-index none) c.in_ok-push_part.ensures c.loop-part.invariant
    ∙ ap (λ (xs : List Carried). flat_map (left_part c.args.flow.now.notes) xs) (sym (take_next parts c.loop-part.part-index none c.loop-part-test.true))

-- all of them
made : (c : After-loop-part) → c.loop-part.left ≡ flat_map (left_part c.args.flow.now.notes) c.args.parts.now
made c = c.loop-part.invariant ∙ ap (λ (xs : List Carried). flat_map (left_part c.args.flow.now.notes) xs) (take-past c.args.parts.now c.loop-part.part-index c.loop-part-test.false)

pub returns-clause-held : goal.returns-clause-held
returns-clause-held c = subst (All (IsHeld c.args.flow.now.notes)) (sym (made c)) (left_held c.args.flow.now.notes _ (settled_goes c.args.flow.now.notes c.args.parts.now c.requires.held))

pub returns-clause-stands : goal.returns-clause-stands
returns-clause-stands c = subst (All (IsAtSolid c.args.flow.now.notes)) (sym (made c)) (left_stands c.args.flow.now.notes _ (settled_goes c.args.flow.now.notes c.args.parts.now c.requires.held))

pub returns-clause-order : goal.returns-clause-order
returns-clause-order c = subst NotesAscend (sym (made c)) (settled_ascends c.args.flow.now.notes c.args.parts.now c.requires.held c.requires.order)

pub returns-clause-below : goal.returns-clause-below
returns-clause-below c = λ to low. subst (All (λ p. p.note < to)) (sym (made c)) (settled_below c.args.flow.now.notes to c.args.parts.now c.requires.order low)

pub returns-clause-lists : goal.returns-clause-lists
returns-clause-lists c = λ faces width more list are.
    settled_lists faces c.args.flow.now.notes width c.args.parts.now more list c.requires.held (subst (λ (cs : List Carried). AreNoted faces c.args.flow.now.notes width (carried_parts cs ++ more) list) (made c) are)
