use Rattle.std.proofs.Common.{◌≡◌, ◌≢◌, ℕ, ◌+◌, ◌-◌, ◌<◌, ◌≤◌, Bool, true, false, cond, ◌&&◌, List, [], ◌⊎◌, length, get_or, max, arith, sym, ◌∙◌}
use Rattle.std.specs.Bool.{MatchBool}
use Rattle.std.specs.List.Sorted.{IsStrictlyIncreasing}
use Rattle.std.proofs.lemmas.Int.{ints}
use Rattle.line_fill.specs.Fill.{FitsIn}
use Rattle.line_fill.specs.LineEnd.{IsLineEnd, IsOrdinary, IsEmergency}
use Rattle.line_fill.proofs.LineLemmas.{IsMark, marked, next_after}
use Rattle.line_fill.proofs.FillLemmas.{Stretch, chosen_end, stop_end, noted_filled, skipped_filled, shown_bounds}
use Rattle.line_fill.proofs.end.pass_span.Goals as goal
use Rattle.line_fill.proofs.end.pass_span.Goals.{After-mark-stop, After-pass_stretch-stretch, After-is_place-emergency, then-is_any+else-line_width-room+else-stops, else-is_any}

abbrev MarkOf : After-mark-stop → Type 0
MarkOf c = IsMark c.as_slice-places.result.now c.emergencies-graphemes.result.now c.loop-at.at c.loop-at.next c.loop-at.next_grapheme c.args.span.now.to c.mark-stop.result

mark_of : (c : After-mark-stop) → MarkOf c
mark_of c = marked c.as_slice-places.result.now c.emergencies-graphemes.result.now c.loop-at.at c.loop-at.next c.loop-at.next_grapheme c.args.span.now.to c.mark.result c.mark-stop.result c.loop-at-test.true c.loop-at.invariant.next c.loop-at.invariant.next_grapheme c.mark.ensures c.mark-stop.ensures

pub pass_stretch-stretch-requires-clause-order : goal.pass_stretch-stretch-requires-clause-order
pass_stretch-stretch-requires-clause-order c = (mark_of (goal.at.pass_stretch-stretch-requires-clause-order c).After-mark-stop).after_at

pub pass_stretch-stretch-requires-clause-within : goal.pass_stretch-stretch-requires-clause-within
pass_stretch-stretch-requires-clause-within c = rw c.as_str-text.ensures (let m = (mark_of (goal.at.pass_stretch-stretch-requires-clause-within c).After-mark-stop).most in let e = c.requires.span.ends in omega arith)

run_low : (c : After-pass_stretch-stretch) → c.pass_stretch-stretch.result.to ≤ length c.args.leaf.now.text
run_low c = let m = (marked c.as_slice-places.result.now c.emergencies-graphemes.result.now c.loop-at.at c.loop-at.next c.loop-at.next_grapheme c.args.span.now.to c.mark.result c.mark-stop.result c.loop-at-test.true c.loop-at.invariant.next c.loop-at.invariant.next_grapheme c.mark.ensures c.mark-stop.ensures).most in let e = c.requires.span.ends in let w = c.pass_stretch-stretch.ensures.within in omega arith

pub is_stop-stops-requires-clause-within : goal.is_stop-stops-requires-clause-within
is_stop-stops-requires-clause-within c = rw (c.as_bytes-bytes.ensures.value, c.as_str-text.ensures) (run_low (goal.at.is_stop-stops-requires-clause-within c).After-pass_stretch-stretch)

pub is_place-ordinary-requires : goal.is_place-ordinary-requires
is_place-ordinary-requires c = let r = run_low (goal.at.is_place-ordinary-requires c).After-pass_stretch-stretch in let f = c.requires.few in omega arith

pub is_place-emergency-requires : goal.is_place-emergency-requires
is_place-emergency-requires c = let r = run_low (goal.at.is_place-emergency-requires c).After-pass_stretch-stretch in let f = c.requires.few in omega arith

abbrev KnownOf : After-is_place-emergency → Type 0
KnownOf c = Stretch c.args.faces.now c.args.leaf.now c.args.span.now c.args.room.from c.args.room.units c.loop-at.at c.pass_stretch-stretch.result.to c.loop-at.line_width c.pass_stretch-stretch.result.line_width c.loop-at.found c.loop-at.next c.loop-at.next_grapheme c.emergencies-graphemes.result.now

ascends : (b : Bool) (xs : List ℕ) → IsStrictlyIncreasing xs → IsStrictlyIncreasing (cond b xs [])
ascends true xs up = up
ascends false xs up = λ k h. absurd (omega arith)

known : (c : After-is_place-emergency) → KnownOf c
known c =
    let m = marked c.as_slice-places.result.now c.emergencies-graphemes.result.now c.loop-at.at c.loop-at.next c.loop-at.next_grapheme c.args.span.now.to c.mark.result c.mark-stop.result c.loop-at-test.true c.loop-at.invariant.next c.loop-at.invariant.next_grapheme c.mark.ensures c.mark-stop.ensures in
    let run = c.pass_stretch-stretch.ensures in
    let inv = c.loop-at.invariant in
    let begin : c.max-begin.result ≡ max c.args.room.from c.args.span.now.from = let m = c.max-begin.ensures in omega arith in
    record {
      here = c.requires.span.here;
      bound = c.requires.span.begins;
      ends_in = c.requires.span.ends;
      few = c.requires.few;
      low = inv.low;
      less = run.goes;
      high = let e = m.most in let w = run.within in omega arith;
      is = inv.filled;
      quiet = rw (← c.as_str-text.ensures) run.quiet;
      r_is = rw (← c.as_str-text.ensures, ← c.pen-pen.ensures, ← begin) run.line_width;
      least = run.low;
      most = run.high;
      some_is = c.emergencies-graphemes.ensures;
      up = c.requires.good.places.ascend;
      up' = rw c.emergencies-graphemes.ensures (ascends (c.args.span.now.wrap && c.args.span.now.anywhere) c.args.leaf.now.graphemes c.requires.good.graphemes.ascend);
      nexts = rw (← c.as_slice-places.ensures) inv.next;
      nexts' = inv.next_grapheme;
      below = rw (← c.as_slice-places.ensures) (λ h. let p = m.first h in let w = run.within in omega arith);
      below' = λ h. let p = m.second h in let w = run.within in omega arith;
    }

abbrev EndOf : After-is_place-emergency → ℕ → Type 0
EndOf c to = IsLineEnd (FitsIn c.args.faces.now c.args.leaf.now c.args.room.from c.args.room.units) (IsOrdinary c.args.leaf.now.text c.args.leaf.now.places c.args.room.from) (IsEmergency c.args.leaf.now c.args.room.from) to

-- what the three tests say, of the leaf's own text and places
record Tests (c : After-is_place-emergency) : Type 0 where
  stops : MatchBool c.is_stop-stops.result ((get_or c.args.leaf.now.text (c.pass_stretch-stretch.result.to - 1) 0 ≡ 10) ⊎ (c.pass_stretch-stretch.result.to ≡ length c.args.leaf.now.text)) ((get_or c.args.leaf.now.text (c.pass_stretch-stretch.result.to - 1) 0 ≢ 10) × (c.pass_stretch-stretch.result.to < length c.args.leaf.now.text))
  ordinary : MatchBool c.is_place-ordinary.result ((c.loop-at.next < length c.args.leaf.now.places) × (get_or c.args.leaf.now.places c.loop-at.next 0 ≡ c.pass_stretch-stretch.result.to)) (c.loop-at.next < length c.args.leaf.now.places → get_or c.args.leaf.now.places c.loop-at.next 0 ≢ c.pass_stretch-stretch.result.to)

tests : (c : After-is_place-emergency) → Tests c
tests c = record {
  stops = rw (← c.as_str-text.ensures, ← c.as_bytes-bytes.ensures.value) c.is_stop-stops.ensures;
  ordinary = rw (← c.as_slice-places.ensures) c.is_place-ordinary.ensures;
}

pub returns-then-line_width-room : goal.returns-then-line_width-room
returns-then-line_width-room c =
    let d = (goal.at.returns-then-line_width-room c).After-is_place-emergency in
    let t = tests d in
    rw c.choose.ensures (chosen_end _ _ _ _ _ _ _ _ _ _ _ _ _ (known d) c.is_stop-stops.result c.is_place-ordinary.result c.is_place-emergency.result t.stops t.ordinary c.is_place-emergency.ensures (sym c.is_any.ensures ∙ c.if-is_any.true) (let m = c.if-line_width-room.true in grind (arith, ints)))

pub returns-then-stops : goal.returns-then-stops
returns-then-stops c =
    let d = (goal.at.returns-then-stops c).After-is_place-emergency in
    let t = tests d in
    stop_end _ _ _ _ _ _ _ _ _ _ _ _ _ (known d) c.is_stop-stops.result t.stops c.if-stops.true (let m = c.if-line_width-room.false in grind (arith, ints))

pub fits-fits-requires-clause-low : goal.fits-fits-requires-clause-low
fits-fits-requires-clause-low c = (shown_bounds _ _ _ _ _ _ _ _ _ _ _ _ _ (known (goal.at.fits-fits-requires-clause-low c).After-is_place-emergency)).0

pub fits-fits-requires-clause-high : goal.fits-fits-requires-clause-high
fits-fits-requires-clause-high c = (shown_bounds _ _ _ _ _ _ _ _ _ _ _ _ _ (known (goal.at.fits-fits-requires-clause-high c).After-is_place-emergency)).1

pub loop-at-preserved : goal.loop-at-preserved
loop-at-preserved c =
    let d = (goal.at.loop-at-preserved c).After-is_place-emergency in
    let t = tests d in
    let k = known d in
    record {
      filled = elim c.if-is_any.branch [
        | then-is_any+else-line_width-room+else-stops w ↦ rw w.found-is (rw w.note.ensures (noted_filled _ _ _ _ _ _ _ _ _ _ _ _ _ k c.is_stop-stops.result c.is_place-ordinary.result c.is_place-emergency.result w.fits-fits.result w.hyphen_at.result t.stops t.ordinary c.is_place-emergency.ensures (sym c.is_any.ensures ∙ w.if-is_any.true) w.if-stops.false (rw (← c.as_str-text.ensures, ← c.as_bytes-bytes.ensures.value, ← c.pen-pen.ensures) w.hyphen_at.ensures.value) w.fits-fits.ensures))
        | else-is_any w ↦ rw w.found-is (skipped_filled _ _ _ _ _ _ _ _ _ _ _ _ _ k c.is_stop-stops.result c.is_place-ordinary.result c.is_place-emergency.result t.stops t.ordinary c.is_place-emergency.ensures (sym c.is_any.ensures ∙ w.if-is_any.false))
      ];
      low = let a = k.low in let b = k.less in omega arith;
      high = k.high;
      next = rw (c.after-next.ensures, c.as_slice-places.ensures) (next_after c.args.leaf.now.places c.loop-at.at c.pass_stretch-stretch.result.to c.loop-at.next k.up k.nexts k.less k.below c.is_place-ordinary.result t.ordinary);
      next_grapheme = rw c.after-next_grapheme.ensures (next_after c.emergencies-graphemes.result.now c.loop-at.at c.pass_stretch-stretch.result.to c.loop-at.next_grapheme k.up' k.nexts' k.less k.below' c.is_place-emergency.result c.is_place-emergency.ensures);
    }

pub returns : goal.returns
returns c =
    let e : c.loop-at.at ≡ c.args.span.now.to = let h = c.loop-at.invariant.high in let t = c.loop-at-test.false in omega arith in
    rw (← e) c.loop-at.invariant.filled
