use Rattle.std.proofs.Common.{◌≡◌, ℕ, ℤ, true, ◌-ℤ◌, [], None, length, refl, rules, sym, ap, ◌∙◌, subst, arith, to_z, of_z}
use Rattle.std.proofs.lemmas.Int.{ints, to_z-of_z}
use mir.Val.{SFits}
use mir.Syntax.{w64}
use Rattle.cuts.specs.Areas.{AreTold, area_after, cut_number}
use Rattle.cuts.specs.Rows.{rows_reach}
use Rattle.note_list.specs.Calls.{called_before}
use Rattle.page_list.specs.Cuts.{IsBestCut, place_after}
use Rattle.page_list.specs.declared.cut.Cut.{Cut}
use Rattle.fragment.specs.CutsAt.{PlacesNotes}
use Rattle.fragment.proofs.CutLemmas.{end_best}
use Rattle.fragment.proofs.PlaceLemmas.{before_end}
use Rattle.fragment.proofs.cut_solids.cut_end.Goals as goal

pub returns-clause-cut : goal.returns-clause-cut
returns-clause-cut c =
    let fits : SFits w64 c.area.result = search rules in
    let tall : SFits w64 c.args.room.now.height = search rules in
    let area_is : to_z w64 (of_z w64 c.area.result) ≡ area_after c.args.notes.now.areas.items (length c.args.notes.now.areas.items) = to_z-of_z w64 c.area.result fits ∙ c.area.ensures.area in
    let end : record { event = c.count.result; offset = 0 } ≡ place_after c.args.flow.now.main None = ap (λ (n : ℕ). record { event = n; offset = 0 }) c.count.ensures.count in
    let all : c.args.notes.now.called ≡ called_before c.args.flow.now.main c.args.flow.now.notes (record { event = c.count.result; offset = 0 }) =
    c.requires.all ∙ sym (before_end c.args.flow.now.main c.args.flow.now.notes) ∙ ap (called_before c.args.flow.now.main c.args.flow.now.notes) (sym end) in
    let room : c.args.room.now.height ≡ c.args.room.now.height -ℤ rows_reach c.args.room.now.kept [] 0 = omega (arith, ints) in
    let cut : ℕ → Cut = λ n. record { to = record { event = c.count.result; offset = 0 }; ended = true; forced = None; level = n; solids = c.of.result; notes = c.in_ok-noted.noted.notes; carried = c.in_ok-noted.noted.left } in
    let level : c.number.result ≡ cut_number c.end_level.result = c.number.ensures in
    record {
      count = 0;
      within = omega arith;
      best = λ list told. subst (λ (n : ℕ). IsBestCut c.args.room.now.kept [] c.args.room.now.height list c.args.notes.now.list.own n 0) (sym level) (end_best c.args.room.now.kept c.args.room.now.height list c.args.notes.now.list.own (cut_number c.end_level.result) (to_z w64 (of_z w64 c.area.result)) c.args.room.now.carried
          (subst (λ (z : ℤ). AreTold c.args.room.now.height list c.args.notes.now.list.own 0 z c.args.room.now.carried) (sym area_is) told) c.end_level.ensures.one c.end_level.ensures.fits c.end_level.ensures.loose c.end_level.ensures.first);
      to_is = end;
      ended_is = refl;
      forced_is = refl;
      solids_is = c.of.ensures ∙ c.new.ensures.items;
      places = subst (λ (n : ℕ). PlacesNotes c.args.flow.now c.args.carried c.args.called (called_before c.args.flow.now.main c.args.flow.now.notes (record { event = c.count.result; offset = 0 })) c.args.room.now.height (c.args.room.now.height -ℤ rows_reach c.args.room.now.kept [] 0) c.args.notes.now.list (cut n)) (sym level) (subst (λ (z : ℤ). PlacesNotes c.args.flow.now c.args.carried c.args.called (called_before c.args.flow.now.main c.args.flow.now.notes (record { event = c.count.result; offset = 0 })) c.args.room.now.height z c.args.notes.now.list (cut (cut_number c.end_level.result))) room
          (subst (λ (to : ℕ). PlacesNotes c.args.flow.now c.args.carried c.args.called to c.args.room.now.height c.args.room.now.height c.args.notes.now.list (cut (cut_number c.end_level.result))) all
          (subst (λ (z : ℤ). PlacesNotes c.args.flow.now c.args.carried c.args.called c.args.notes.now.called z z c.args.notes.now.list (cut (cut_number c.end_level.result))) (to_z-of_z w64 c.args.room.now.height tall) c.in_ok-noted.ensures.placed)));
    }

pub place-requires : goal.place-requires
place-requires c =
    let low = c.requires.cut.low in
    let high = c.requires.cut.high in
    let all = c.requires.all in
    let called = c.requires.called in
    record {
      ready = c.requires.cut.ready;
      ends = c.requires.cut.ends;
      carried = c.requires.cut.carried;
      stands = c.requires.cut.stands;
      order = c.requires.cut.order;
      before = c.requires.cut.before;
      called = omega arith;
      within = omega arith;
      few = c.requires.cut.count;
      low = omega (arith, ints);
      high = omega (arith, ints);
      room = omega (arith, ints);
    }
