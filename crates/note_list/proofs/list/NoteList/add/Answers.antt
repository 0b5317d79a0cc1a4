use Rattle.std.proofs.Common.{◌≡◌, ◌<ℤ◌, ◌≤ℤ◌, ◌∙◌, rules, true, false, refl, subst, arith}
use Rattle.std.proofs.lemmas.Int.{ints, to_z-of_z}
use mir.Val.{SFits}
use mir.Syntax.{w64}
use Rattle.note_list.proofs.ReadLemmas.{area_next, needed_small, ready_more, ready_reach, reach_high, reach_low}
use Rattle.note_list.proofs.ShortLemmas.{short_next}
use Rattle.note_list.proofs.list.NoteList.add.Goals as goal

pub place_note-self-requires-clause-bottom : goal.place_note-self-requires-clause-bottom
place_note-self-requires-clause-bottom c =
    let reach = ready_reach c.args.self.now c.requires.ready in
    let low = reach.low in
    let high = reach.high in
    let few = c.requires.ready.few in
    omega (arith, ints)

pub area-area-requires-clause-low : goal.area-area-requires-clause-low
area-area-requires-clause-low c = reach_low c.args.self.now c.args.solid _ _ c.requires.ready c.place_note-self.ensures.bottom c.place_note-self.ensures.extent

pub area-area-requires-clause-high : goal.area-area-requires-clause-high
area-area-requires-clause-high c =
    let less = c.is_full.ensures.room c.if-is_full.false in
    reach_high c.args.self.now c.args.solid _ _ c.requires.ready c.requires.small (omega arith) c.place_note-self.ensures.bottom c.place_note-self.ensures.extent

pub returns-clause-ready : goal.returns-clause-ready
returns-clause-ready c =
    let less = c.is_full.ensures.room c.if-is_full.false in
    let low = c.area-area.ensures.low in
    let high = c.area-area.ensures.high in
    let area : SFits w64 c.area-area.result = omega (arith, ints) in
    let small = needed_small c.args.self.now c.requires.ready in
    let small_low = small.0 in
    let small_high = small.1 in
    let needed : SFits w64 c.args.self.now.needed = omega (arith, ints) in
    let new : SFits w64 c.needed_with-self.result = search rules in
    let all : c.args.solid.row.begins ≡ true → c.needed_with-self.result ≡ c.area-area.result = simp to_z-of_z at c.needed_with-self.ensures.all in
    let same : c.args.solid.row.begins ≡ false → c.needed_with-self.result ≡ c.args.self.now.needed = simp to_z-of_z at c.needed_with-self.ensures.same in
    ready_more c.args.self.now _ c.args.solid c.requires.ready c.requires.small (omega arith) c.in_ok-push.ensures.items c.place_note-self.ensures.bottom c.place_note-self.ensures.extent refl refl
    (λ e. to_z-of_z w64 _ new ∙ all e ∙ c.area-area.ensures.area) (λ e. to_z-of_z w64 _ new ∙ same e)

pub returns-clause-over : goal.returns-clause-over
returns-clause-over c = λ e.
    let low = c.area-area.ensures.low in
    let high = c.area-area.ensures.high in
    let area : SFits w64 c.area-area.result = omega (arith, ints) in
    let height : SFits w64 c.args.height = c.ranges.height in
    let above : c.args.height <ℤ c.area-area.result = simp to_z-of_z at (c.is_above-self.ensures.above e) in
    let all = area_next c.args.self.now c.args.solid c.push.new.self.items _ _ c.requires.ready c.in_ok-push.ensures.items c.place_note-self.ensures.bottom c.place_note-self.ensures.extent in
    subst (λ z. c.args.height <ℤ z) (c.area-area.ensures.area ∙ all) above

pub returns-clause-short : goal.returns-clause-short
returns-clause-short c = λ room short.
    let low = c.area-area.ensures.low in
    let high = c.area-area.ensures.high in
    let area : SFits w64 c.area-area.result = omega (arith, ints) in
    let height : SFits w64 c.args.height = c.ranges.height in
    let all = area_next c.args.self.now c.args.solid c.push.new.self.items _ _ c.requires.ready c.in_ok-push.ensures.items c.place_note-self.ensures.bottom c.place_note-self.ensures.extent in
    short_next c.args.height c.args.self.now _ c.args.solid c.in_ok-push.ensures.items room
    (λ e. let within : c.area-area.result ≤ℤ c.args.height = simp to_z-of_z at (c.is_above-self.ensures.within e) in subst (λ z. z ≤ℤ c.args.height) (c.area-area.ensures.area ∙ all) within)
    short
