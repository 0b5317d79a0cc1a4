use Rattle.std.proofs.Common.{List, length, ap, arith, rules, to_z, of_z}
use Rattle.std.proofs.lemmas.Int.{ints, to_z-of_z}
use mir.Val.{SFits}
use mir.Syntax.{w64}
use Rattle.boxes.specs.declared.flow.Note.{Note}
use Rattle.page_list.proofs.LookedLemmas.{looked_carried}
use Rattle.fragment.proofs.KeptLemmas.{noted_held}
use Rattle.fragment.proofs.NotesLemmas.{carried_low, carried_on, notes_cut}
use Rattle.fragment.proofs.SolidLemmas.{if_ok, both_ok}
use Rattle.fragment.proofs.next_notes.next_notes.Goals as goal

pub place-requires : goal.place-requires
place-requires g c =
    let all = ap (λ (notes : List Note). length notes) c.as_slice.ensures in
    let low = c.requires.frame.height_low in
    let high = c.requires.frame.height_high in
    record {
      ready = c.in_ok-list.ensures.ready;
      ends = c.in_ok-list.ensures.ends;
      carried = c.requires.carried.held;
      stands = c.requires.stands;
      order = c.requires.carried.order;
      before = carried_low c.args.flow.now c.args.carried (length c.as_slice.result.now) all c.requires.carried;
      called = omega arith;
      within = omega (arith, all);
      few = c.requires.flow.count;
      low = omega (arith, ints);
      high = omega (arith, ints);
      room = omega (arith, ints);
    }

pub returns-clause-cut : goal.returns-clause-cut
returns-clause-cut g c =
    let tall : SFits w64 c.args.frame.height = search rules in
    if_ok _ _ c.place.result
    (λ p placed. notes_cut c.args.faces.now c.args.flow.now c.args.frame c.args.carried c.in_ok-list.list (length c.as_slice.result.now) c.in_ok-list.ensures.list c.requires.some c.requires.stands (to_z w64 (of_z w64 c.args.frame.height)) (to_z-of_z w64 c.args.frame.height tall) p placed)
    c.place.ensures.placed

pub returns-clause-carried : goal.returns-clause-carried
returns-clause-carried g c =
    if_ok _ _ c.place.result
    (λ p is. carried_on c.args.flow.now p.left (length c.as_slice.result.now) (ap (λ (notes : List Note). length notes) c.as_slice.ensures) is.0 is.1.0 is.1.1)
    (both_ok _ _ c.place.result c.place.ensures.held (both_ok _ _ c.place.result c.place.ensures.order c.place.ensures.below))

pub returns-clause-lines : goal.returns-clause-lines
returns-clause-lines g c =
    if_ok _ _ c.place.result
    (λ p placed. looked_carried c.args.faces.now c.args.flow.now c.args.frame c.args.carried c.in_ok-list.list c.args.lines.now.kept c.args.steps.now c.carried-2.new.steps c.in_ok-list.ensures.list c.in_ok-list.ensures.short c.requires.frame.height_low c.in_ok-list.ensures.lines)
    c.place.ensures.placed

pub returns-clause-takes : goal.returns-clause-takes
returns-clause-takes g c = if_ok _ _ c.place.result (λ p placed. c.in_ok-list.ensures.takes) c.place.ensures.front

pub returns-clause-now : goal.returns-clause-now
returns-clause-now g c =
    if_ok _ _ c.place.result (λ p front. noted_held c.args.flow.now c.args.frame.width c.carried-2.new.lines.kept c.in_ok-list.list.solids.items p.notes c.in_ok-list.ensures.now front) c.place.ensures.front
