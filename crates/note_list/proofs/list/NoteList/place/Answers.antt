use Rattle.std.proofs.Common.{◌≡◌, ◌<◌, ◌≤◌, ◌-◌, ℕ, List, Option, Some, All, IfSome, length, min, take, slice_get, sym, ap, ◌∙◌, subst, arith}
use Rattle.std.proofs.lemmas.Int.{ints}
use Rattle.std.proofs.lemmas.List.Elements.{All-take}
use Rattle.bk_num.specs.Limits.{separator}
use Rattle.notes.specs.Notes.{IsPlaced, IsSmallNote, must_of}
use Rattle.cuts.specs.Areas.{cut_number}
use Rattle.notes.specs.Near.{IsNearSolid}
use Rattle.note_list.specs.Left.{left_after_last}
use Rattle.note_list.specs.Lists.{placed_notes, note_rows}
use Rattle.note_list.specs.Places.{least_of}
use Rattle.note_list.specs.declared.solid.NotedSolid.{NotedSolid}
use Rattle.note_list.proofs.BodyLemmas.{EndsIn}
use Rattle.note_list.proofs.KeptLemmas.{front_of}
use Rattle.note_list.proofs.PartLemmas.{GoesOn, IsBelow, RiseBy, left_goes, left_held, left_stands, near_notes, next_low, placing, rise_ascends, rise_below, rise_left, small_taken, some_of, taken_low}
use Rattle.note_list.proofs.list.NoteList.place.Goals as goal

pub number_of-requires-clause-small : goal.number_of-requires-clause-small
number_of-requires-clause-small c =
    let solids : List NotedSolid = c.args.self.now.solids.items in
    let read : ℕ = c.count_below.result in
    let items : c.as_slice-solids.result.now ≡ solids = c.as_slice-solids.ensures.value in
    let read_is : c.split_at.result.0.now ≡ take read solids = c.split_at.ensures.front ∙ ap (take read) items in
    subst (λ (xs : List NotedSolid). All IsSmallNote (note_rows xs)) (sym read_is) (small_taken solids read c.requires.ready.small)

pub place_all-requires-clause-small : goal.place_all-requires-clause-small
place_all-requires-clause-small c =
    let solids : List NotedSolid = c.args.self.now.solids.items in
    let read : ℕ = c.count_below.result in
    let items : c.as_slice-solids.result.now ≡ solids = c.as_slice-solids.ensures.value in
    let read_is : c.split_at.result.0.now ≡ take read solids = c.split_at.ensures.front ∙ ap (take read) items in
    let placed_is : c.split_at-2.result.0.now ≡ take c.in_ok-number.number (take read solids) = c.split_at-2.ensures.front ∙ ap (take c.in_ok-number.number) read_is in
    subst (λ (xs : List NotedSolid). All IsSmallNote (note_rows xs)) (sym placed_is) (small_taken (take read solids) c.in_ok-number.number (small_taken solids read c.requires.ready.small))

pub left_after-requires-clause-last : goal.left_after-requires-clause-last
left_after-requires-clause-last c =
    let solids : List NotedSolid = c.args.self.now.solids.items in
    let read : ℕ = c.count_below.result in
    let items : c.as_slice-solids.result.now ≡ solids = c.as_slice-solids.ensures.value in
    let read_is : c.split_at.result.0.now ≡ take read solids = c.split_at.ensures.front ∙ ap (take read) items in
    let placed_is : c.split_at-2.result.0.now ≡ take c.in_ok-number.number (take read solids) = c.split_at-2.ensures.front ∙ ap (take c.in_ok-number.number) read_is in
    let ends : All (EndsIn c.args.flow.now.notes) (take read solids) = All-take (EndsIn c.args.flow.now.notes) read solids c.requires.ends in
    let last_ends : IfSome c.last_of.result (EndsIn c.args.flow.now.notes) = subst (λ (o : Option NotedSolid). IfSome o (EndsIn c.args.flow.now.notes)) (sym c.last_of.ensures) (some_of (EndsIn c.args.flow.now.notes) c.split_at-2.result.0.now (length c.split_at-2.result.0.now - 1) (subst (All (EndsIn c.args.flow.now.notes)) (sym placed_is) (All-take (EndsIn c.args.flow.now.notes) c.in_ok-number.number (take read solids) ends))) in
    last_ends

pub returns-clause-placed : goal.returns-clause-placed
returns-clause-placed c = λ faces width own list later owned listed after of counts fits.
    let solids : List NotedSolid = c.args.self.now.solids.items in
    let read : ℕ = c.count_below.result in
    let items : c.as_slice-solids.result.now ≡ solids = c.as_slice-solids.ensures.value in
    let read_is : c.split_at.result.0.now ≡ take read solids = c.split_at.ensures.front ∙ ap (take read) items in
    let placed_is : c.split_at-2.result.0.now ≡ take c.in_ok-number.number (take read solids) = c.split_at-2.ensures.front ∙ ap (take c.in_ok-number.number) read_is in
    let under : All (λ s. s.note < c.args.room.now.to) (take read solids) = subst (λ (xs : List NotedSolid). All (λ s. s.note < c.args.room.now.to) (take read xs)) items c.count_below.ensures.below in
    let ends : All (EndsIn c.args.flow.now.notes) (take read solids) = All-take (EndsIn c.args.flow.now.notes) read solids c.requires.ends in
    let within : read ≤ length solids = subst (λ (xs : List NotedSolid). read ≤ length xs) items c.count_below.ensures.within in
    let stops : (s : NotedSolid) → slice_get solids read ≡ Some s → c.args.room.now.to ≤ s.note = subst (λ (xs : List NotedSolid). (s : NotedSolid) → slice_get xs read ≡ Some s → c.args.room.now.to ≤ s.note) items c.count_below.ensures.stops in
    let own_is : c.own_of-own.result ≡ min c.args.self.now.own (length (take read solids)) = c.own_of-own.ensures ∙ ap (λ (xs : List NotedSolid). min c.args.self.now.own (length xs)) read_is in
    let number : IsPlaced (note_rows (take read solids)) (least_of (cut_number c.args.room.now.level) (must_of (note_rows (take read solids)) c.own_of-own.result) c.own_of-own.result c.own_of-own.result) c.args.room.now.room c.in_ok-number.number =
    subst (λ (xs : List NotedSolid). IsPlaced (note_rows xs) (least_of (cut_number c.args.room.now.level) (must_of (note_rows xs) c.own_of-own.result) c.own_of-own.result c.own_of-own.result) c.args.room.now.room c.in_ok-number.number) read_is c.in_ok-number.ensures in
    let number_is = subst (λ (n : ℕ). IsPlaced (note_rows (take read solids)) (least_of (cut_number c.args.room.now.level) (must_of (note_rows (take read solids)) n) n n) c.args.room.now.room c.in_ok-number.number) own_is number in
    placing faces c.args.flow.now.notes width c.args.room.now.height c.args.self.now c.args.carried c.args.from c.args.room.now.to (cut_number c.args.room.now.level) c.args.room.now.room own list later read c.in_ok-number.number _
    c.requires.ready ends c.requires.carried c.requires.order c.requires.before c.requires.called c.requires.within within under stops number_is
    (c.in_ok-place_all.ensures ∙ ap (placed_notes separator) placed_is)
    (c.in_ok-left_after.ensures ∙ ap (left_after_last c.args.flow.now.notes c.args.carried c.args.from c.args.room.now.to) (c.last_of.ensures ∙ ap (λ (xs : List NotedSolid). slice_get xs (length xs - 1)) placed_is))
    owned listed after of counts fits

pub returns-clause-front : goal.returns-clause-front
returns-clause-front c =
    let solids : List NotedSolid = c.args.self.now.solids.items in
    let read : ℕ = c.count_below.result in
    let read_is : c.split_at.result.0.now ≡ take read solids = c.split_at.ensures.front ∙ ap (take read) c.as_slice-solids.ensures.value in
    let placed_is : c.split_at-2.result.0.now ≡ take c.in_ok-number.number (take read solids) = c.split_at-2.ensures.front ∙ ap (take c.in_ok-number.number) read_is in
    front_of solids read c.in_ok-number.number _ (c.in_ok-place_all.ensures ∙ ap (placed_notes separator) placed_is)

pub returns-clause-held : goal.returns-clause-held
returns-clause-held c =
    let solids : List NotedSolid = c.args.self.now.solids.items in
    let read : ℕ = c.count_below.result in
    let items : c.as_slice-solids.result.now ≡ solids = c.as_slice-solids.ensures.value in
    let read_is : c.split_at.result.0.now ≡ take read solids = c.split_at.ensures.front ∙ ap (take read) items in
    let placed_is : c.split_at-2.result.0.now ≡ take c.in_ok-number.number (take read solids) = c.split_at-2.ensures.front ∙ ap (take c.in_ok-number.number) read_is in
    let ends : All (EndsIn c.args.flow.now.notes) (take read solids) = All-take (EndsIn c.args.flow.now.notes) read solids c.requires.ends in
    let last_ends : IfSome c.last_of.result (EndsIn c.args.flow.now.notes) = subst (λ (o : Option NotedSolid). IfSome o (EndsIn c.args.flow.now.notes)) (sym c.last_of.ensures) (some_of (EndsIn c.args.flow.now.notes) c.split_at-2.result.0.now (length c.split_at-2.result.0.now - 1) (subst (All (EndsIn c.args.flow.now.notes)) (sym placed_is) (All-take (EndsIn c.args.flow.now.notes) c.in_ok-number.number (take read solids) ends))) in
    let goes : All (GoesOn c.args.flow.now.notes) c.in_ok-left_after.field-0 = subst (All (GoesOn c.args.flow.now.notes)) (sym c.in_ok-left_after.ensures) (left_goes c.args.flow.now.notes c.args.carried c.args.from c.args.room.now.to c.last_of.result c.requires.carried c.requires.called c.requires.within last_ends) in
    left_held c.args.flow.now.notes c.in_ok-left_after.field-0 goes

pub returns-clause-order : goal.returns-clause-order
returns-clause-order c =
    let solids : List NotedSolid = c.args.self.now.solids.items in
    let read : ℕ = c.count_below.result in
    let items : c.as_slice-solids.result.now ≡ solids = c.as_slice-solids.ensures.value in
    let read_is : c.split_at.result.0.now ≡ take read solids = c.split_at.ensures.front ∙ ap (take read) items in
    let placed_is : c.split_at-2.result.0.now ≡ take c.in_ok-number.number (take read solids) = c.split_at-2.ensures.front ∙ ap (take c.in_ok-number.number) read_is in
    let under : All (λ s. s.note < c.args.room.now.to) (take read solids) = subst (λ (xs : List NotedSolid). All (λ s. s.note < c.args.room.now.to) (take read xs)) items c.count_below.ensures.below in
    let last_under : IfSome c.last_of.result (IsBelow c.args.room.now.to) = subst (λ (o : Option NotedSolid). IfSome o (IsBelow c.args.room.now.to)) (sym c.last_of.ensures) (some_of (IsBelow c.args.room.now.to) c.split_at-2.result.0.now (length c.split_at-2.result.0.now - 1) (subst (All (IsBelow c.args.room.now.to)) (sym placed_is) (All-take (IsBelow c.args.room.now.to) c.in_ok-number.number (take read solids) under))) in
    let rise : RiseBy 0 c.args.room.now.to c.in_ok-left_after.field-0 = subst (RiseBy 0 c.args.room.now.to) (sym c.in_ok-left_after.ensures) (rise_left c.args.flow.now.notes c.args.carried c.args.from c.args.room.now.to c.last_of.result c.requires.called c.requires.order c.requires.before (next_low c.last_of.result c.args.room.now.to last_under)) in
    rise_ascends 0 c.args.room.now.to c.in_ok-left_after.field-0 rise

pub returns-clause-below : goal.returns-clause-below
returns-clause-below c =
    let solids : List NotedSolid = c.args.self.now.solids.items in
    let read : ℕ = c.count_below.result in
    let items : c.as_slice-solids.result.now ≡ solids = c.as_slice-solids.ensures.value in
    let read_is : c.split_at.result.0.now ≡ take read solids = c.split_at.ensures.front ∙ ap (take read) items in
    let placed_is : c.split_at-2.result.0.now ≡ take c.in_ok-number.number (take read solids) = c.split_at-2.ensures.front ∙ ap (take c.in_ok-number.number) read_is in
    let under : All (λ s. s.note < c.args.room.now.to) (take read solids) = subst (λ (xs : List NotedSolid). All (λ s. s.note < c.args.room.now.to) (take read xs)) items c.count_below.ensures.below in
    let last_under : IfSome c.last_of.result (IsBelow c.args.room.now.to) = subst (λ (o : Option NotedSolid). IfSome o (IsBelow c.args.room.now.to)) (sym c.last_of.ensures) (some_of (IsBelow c.args.room.now.to) c.split_at-2.result.0.now (length c.split_at-2.result.0.now - 1) (subst (All (IsBelow c.args.room.now.to)) (sym placed_is) (All-take (IsBelow c.args.room.now.to) c.in_ok-number.number (take read solids) under))) in
    let rise : RiseBy 0 c.args.room.now.to c.in_ok-left_after.field-0 = subst (RiseBy 0 c.args.room.now.to) (sym c.in_ok-left_after.ensures) (rise_left c.args.flow.now.notes c.args.carried c.args.from c.args.room.now.to c.last_of.result c.requires.called c.requires.order c.requires.before (next_low c.last_of.result c.args.room.now.to last_under)) in
    let below = rise_below 0 c.args.room.now.to c.in_ok-left_after.field-0 rise in
    λ k d l. let less = below k d l in omega arith

pub returns-clause-stands : goal.returns-clause-stands
returns-clause-stands c =
    let solids : List NotedSolid = c.args.self.now.solids.items in
    let read : ℕ = c.count_below.result in
    let items : c.as_slice-solids.result.now ≡ solids = c.as_slice-solids.ensures.value in
    let read_is : c.split_at.result.0.now ≡ take read solids = c.split_at.ensures.front ∙ ap (take read) items in
    let placed_is : c.split_at-2.result.0.now ≡ take c.in_ok-number.number (take read solids) = c.split_at-2.ensures.front ∙ ap (take c.in_ok-number.number) read_is in
    let ends : All (EndsIn c.args.flow.now.notes) (take read solids) = All-take (EndsIn c.args.flow.now.notes) read solids c.requires.ends in
    let last_ends : IfSome c.last_of.result (EndsIn c.args.flow.now.notes) = subst (λ (o : Option NotedSolid). IfSome o (EndsIn c.args.flow.now.notes)) (sym c.last_of.ensures) (some_of (EndsIn c.args.flow.now.notes) c.split_at-2.result.0.now (length c.split_at-2.result.0.now - 1) (subst (All (EndsIn c.args.flow.now.notes)) (sym placed_is) (All-take (EndsIn c.args.flow.now.notes) c.in_ok-number.number (take read solids) ends))) in
    let goes : All (GoesOn c.args.flow.now.notes) c.in_ok-left_after.field-0 = subst (All (GoesOn c.args.flow.now.notes)) (sym c.in_ok-left_after.ensures) (left_goes c.args.flow.now.notes c.args.carried c.args.from c.args.room.now.to c.last_of.result c.requires.carried c.requires.called c.requires.within last_ends) in
    left_stands c.args.flow.now.notes c.in_ok-left_after.field-0 goes

pub returns-clause-near : goal.returns-clause-near
returns-clause-near c =
    let solids : List NotedSolid = c.args.self.now.solids.items in
    let read : ℕ = c.count_below.result in
    let items : c.as_slice-solids.result.now ≡ solids = c.as_slice-solids.ensures.value in
    let read_is : c.split_at.result.0.now ≡ take read solids = c.split_at.ensures.front ∙ ap (take read) items in
    let placed_is : c.split_at-2.result.0.now ≡ take c.in_ok-number.number (take read solids) = c.split_at-2.ensures.front ∙ ap (take c.in_ok-number.number) read_is in
    let few = c.requires.ready.few in
    let count = c.split_at-2.ensures.front_len in
    let within = c.in_ok-number.ensures.within in
    let small = subst (λ (xs : List NotedSolid). All IsSmallNote (note_rows xs)) (sym placed_is) (small_taken (take read solids) c.in_ok-number.number (small_taken solids read c.requires.ready.small)) in
    let size : length c.split_at-2.result.0.now ≤ length solids = subst (λ (xs : List NotedSolid). length xs ≤ length solids) (sym placed_is) (taken_low solids read c.in_ok-number.number) in
    subst (All (λ n. IsNearSolid n.1)) (sym c.in_ok-place_all.ensures) (near_notes 0 separator c.split_at-2.result.0.now (omega arith) (omega (arith, ints)) (omega (arith, ints)) small)
