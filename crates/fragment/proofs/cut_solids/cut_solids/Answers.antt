use Rattle.std.proofs.Common.{◌≡◌, ◌<◌, ◌≤◌, ℕ, ℤ, All, Bool, take, pos, ◌+ℤ◌, ◌-ℤ◌, List, nat_eq, length, map, slice_get, sym, ap, ◌∙◌, subst, rules, arith, to_z, of_z}
use Rattle.std.proofs.lemmas.Int.{ints, to_z-of_z}
use Rattle.std.proofs.lemmas.List.{length-map}
use Rattle.std.proofs.lemmas.List.Elements.{All-map}
use mir.Val.{SFits}
use mir.Syntax.{w64}
use Rattle.boxes.specs.Tree.{Tree, Holds}
use Rattle.cursor.specs.Fields.{solid_view}
use Rattle.cursor.specs.Remainder.{SolidView}
use Rattle.cuts.specs.Areas.{AreAreas, cut_number}
use Rattle.cuts.specs.declared.row.SolidRow.{SolidRow}
use Rattle.cuts.specs.Cuts.{IsPageCut}
use Rattle.cuts.specs.Rows.{IsSmallRow, rows_extent, rows_reach, tail_after}
use Rattle.note_list.specs.Calls.{called_before}
use Rattle.page_list.specs.Cuts.{first_gap, forced_after, place_after, placed_from, row_of, rows_of}
use Rattle.page_list.specs.declared.cut.Cut.{Cut}
use Rattle.page_list.proofs.ExistLemmas.{called_within}
use Rattle.fragment.specs.CutsAt.{PlacesNotes}
use Rattle.fragment.specs.Solids.{foot_from}
use Rattle.fragment.proofs.CutLemmas.{best_of}
use Rattle.fragment.proofs.FootLemmas.{foot_is}
use Rattle.fragment.proofs.SolidLemmas.{holds_after, small_rows}
use Rattle.fragment.proofs.cut_solids.cut_solids.Goals as goal
use Rattle.fragment.proofs.cut_solids.cut_solids.Goals.{After-place_after-to}

abbrev views : After-place_after-to → List SolidView
views c = map solid_view c.args.solids.now

-- where the page leaves off
leaves : (c : After-place_after-to) → c.place_after-to.result ≡ place_after c.args.flow.now.main (slice_get (views c) c.cut_rows-cut.result.count)
leaves c = c.place_after-to.ensures

left_holds : (c : After-place_after-to) → Holds c.args.flow.now.main c.place_after-to.result
left_holds c =
    subst (Holds c.args.flow.now.main) (sym (leaves c))
    (holds_after c.args.flow.now.main (views c) (All-map (λ (v : SolidView). Holds c.args.flow.now.main v.placed_at) solid_view c.args.solids.now c.requires.solids.placed) c.cut_rows-cut.result.count)

pub tail_at-tail-requires : goal.tail_at-tail-requires
tail_at-tail-requires c = subst (All IsSmallRow) (sym c.requires.solids.rows_are) (small_rows c.args.flow.now.main c.args.solids.now c.requires.solids.small)

pub called_before-requires-clause-holds : goal.called_before-requires-clause-holds
called_before-requires-clause-holds c = left_holds (goal.at.called_before-requires-clause-holds c).After-place_after-to

pub place-requires : goal.place-requires
place-requires c =
    let d = (goal.at.place-requires c).After-place_after-to in
    let here = ap (called_before c.args.flow.now.main c.args.flow.now.notes) (leaves d) in
    let most = called_within c.args.flow.now.main c.args.flow.now.notes c.place_after-to.result in
    let is = c.called_before.ensures in
    let from = c.requires.called c.cut_rows-cut.result.count c.cut_rows-cut.ensures.some in
    let low = c.requires.cut.low in
    let high = c.requires.cut.high in
    let foot_low = c.in_ok-placed.ensures.low in
    let foot_high = c.in_ok-placed.ensures.high in
    let below = c.room_below.ensures.room in
    record {
      ready = c.requires.cut.ready;
      ends = c.requires.cut.ends;
      carried = c.requires.cut.carried;
      stands = c.requires.cut.stands;
      order = c.requires.cut.order;
      before = c.requires.cut.before;
      called = omega arith;
      within = omega arith;
      few = c.requires.cut.count;
      low = omega (arith, ints);
      high = omega (arith, ints);
      room = omega (arith, ints);
    }

pub returns-clause-holds : goal.returns-clause-holds
returns-clause-holds c = left_holds (goal.at.returns-clause-holds c).After-place_after-to

pub returns-clause-carried : goal.returns-clause-carried
returns-clause-carried c =
    let d = (goal.at.returns-clause-carried c).After-place_after-to in
    let here = ap (called_before c.args.flow.now.main c.args.flow.now.notes) (leaves d) in
    let is = c.called_before.ensures in
    let low = c.requires.called c.cut_rows-cut.result.count c.cut_rows-cut.ensures.some in
    record {
      held = c.in_ok-noted.ensures.held;
      called = λ k d h. let below = c.in_ok-noted.ensures.below k d h in omega arith;
      order = c.in_ok-noted.ensures.order;
    }

pub returns-clause-cut : goal.returns-clause-cut
returns-clause-cut c =
    let d = (goal.at.returns-clause-cut c).After-place_after-to in
    let t : Tree = c.args.flow.now.main in
    let kept : Bool = c.args.room.now.kept in
    let height : ℤ = c.args.room.now.height in
    let vs : List SolidView = views d in
    let count : ℕ = c.cut_rows-cut.result.count in
    let size : length vs ≡ length c.args.solids.now = length-map c.args.solids.now solid_view in
    let rows_size : length (rows_of t vs) ≡ length vs = length-map vs (row_of t) in
    let some : 0 < length (rows_of t vs) = let h = c.requires.solids.some in omega arith in
    let low : count ≤ length vs = let h = c.cut_rows-cut.ensures.within in omega arith in
    let solids_is : c.in_ok-placed.placed.items.items ≡ placed_from (first_gap kept vs) (take count vs) =
    c.in_ok-placed.ensures.solids in
    let foot : c.in_ok-placed.placed.foot ≡ rows_extent kept (rows_of t vs) count =
    c.in_ok-placed.ensures.foot ∙ ap (foot_from (pos 0)) solids_is ∙ foot_is t kept vs count c.cut_rows-cut.ensures.some low in
    let tall : SFits w64 height = search rules in
    let foot_low = c.in_ok-placed.ensures.low in
    let foot_high = c.in_ok-placed.ensures.high in
    let deep : SFits w64 c.in_ok-placed.placed.foot = search rules in
    let low_tail : SFits w64 c.tail_at-tail.result = search rules in
    let tail : to_z w64 (of_z w64 c.tail_at-tail.result) ≡ tail_after (rows_of t vs) count =
    to_z-of_z w64 c.tail_at-tail.result low_tail ∙ c.tail_at-tail.ensures.tail ∙ ap (λ (rs : List SolidRow). tail_after rs count) c.requires.solids.rows_are in
    let fits : SFits w64 c.room_below.result = search rules in
    let room : to_z w64 (of_z w64 c.room_below.result) ≡ height -ℤ rows_reach kept (rows_of t vs) count =
    to_z-of_z w64 c.room_below.result fits ∙ c.room_below.ensures.room ∙ ap (λ (z : ℤ). z -ℤ (to_z w64 (of_z w64 c.in_ok-placed.placed.foot) +ℤ to_z w64 (of_z w64 c.tail_at-tail.result))) (to_z-of_z w64 height tall) ∙ ap (λ (z : ℤ). height -ℤ (z +ℤ to_z w64 (of_z w64 c.tail_at-tail.result))) (to_z-of_z w64 c.in_ok-placed.placed.foot deep ∙ foot) ∙ ap (λ (z : ℤ). height -ℤ (rows_extent kept (rows_of t vs) count +ℤ z)) tail in
    let cut : ℕ → Cut = λ n. record { to = c.place_after-to.result; ended = nat_eq count (length c.args.solids.now); forced = c.forced_after.result; level = n; solids = c.of.result; notes = c.in_ok-noted.noted.notes; carried = c.in_ok-noted.noted.left } in
    let level : c.number.result ≡ cut_number c.cut_rows-cut.result.level = c.number.ensures in
    record {
      count = count;
      within = low;
      best = λ list told. best_of kept (rows_of t vs) height list c.args.notes.now.list.own c.number.result count some
          (subst (λ (n : ℕ). IsPageCut kept (rows_of t vs) height list c.args.notes.now.list.own n count) (sym level) (c.cut_rows-cut.ensures.best list c.args.notes.now.list.own (subst (λ (zs : List ℤ). AreAreas kept (rows_of t vs) height list c.args.notes.now.list.own zs c.args.room.now.carried) (sym c.as_slice-areas.ensures.value) told)));
      to_is = leaves d;
      ended_is = ap (λ (n : ℕ). nat_eq count n) (sym size);
      forced_is = c.forced_after.ensures;
      solids_is = c.of.ensures ∙ solids_is;
      places = subst (λ (n : ℕ). PlacesNotes c.args.flow.now c.args.carried c.args.called (called_before t c.args.flow.now.notes c.place_after-to.result) height (height -ℤ rows_reach kept (rows_of t vs) count) c.args.notes.now.list (cut n)) (sym level)
          (subst (λ (z : ℤ). PlacesNotes c.args.flow.now c.args.carried c.args.called (called_before t c.args.flow.now.notes c.place_after-to.result) height z c.args.notes.now.list (cut (cut_number c.cut_rows-cut.result.level))) room
          (subst (λ (to : ℕ). PlacesNotes c.args.flow.now c.args.carried c.args.called to height (to_z w64 (of_z w64 c.room_below.result)) c.args.notes.now.list (cut (cut_number c.cut_rows-cut.result.level))) c.called_before.ensures
          (subst (λ (z : ℤ). PlacesNotes c.args.flow.now c.args.carried c.args.called c.called_before.result z (to_z w64 (of_z w64 c.room_below.result)) c.args.notes.now.list (cut (cut_number c.cut_rows-cut.result.level))) (to_z-of_z w64 height tall) c.in_ok-noted.ensures.placed)));
    }
