use Rattle.std.proofs.Common.{◌≡◌, ◌∙◌, ◌+◌, ◌-◌, ◌<◌, ℕ, true, drop, get_or, length, arith, rules, refl, subst, sym, FitsSigned, w64}
use Rattle.std.specs.Str.{IsUtf8}
use Rattle.std.proofs.lemmas.Int.{to_z-of_z}
use Rattle.std.proofs.lemmas.List.Elements.{All-nil, All-push}
use Rattle.total_fit.specs.Plans.{IsBest}
use Rattle.line_fill.specs.LineEnd.{IsEnd}
use Rattle.line_fill.specs.Rests.{IsRestOfPlan, begins_plain}
use Rattle.line_fill.specs.Stops.{measures_of, offsets_of, stops_of}
use Rattle.line_fill.proofs.PlanAheadLemmas.{ahead-inside, ahead-line, ahead-rest, end-stands}
use Rattle.line_fill.proofs.PlanLineLemmas.{planned-end, planned-first, planned-within}
use Rattle.line_fill.proofs.RestLemmas.{rest-begins}
use Rattle.line_fill.proofs.SetLemmas.{IsOwnLine}
use Rattle.line_fill.proofs.plan.planned.Goals as goal
use Rattle.line_fill.proofs.plan.planned.Goals.{After-as_slice-ends, After-offset-at}

best : (c : After-as_slice-ends) → IsBest (stops_of c.args.faces.now c.args.leaf.now c.args.from) (measures_of c.args.leaf.now c.args.from c.args.measure) c.as_slice-ends.result.now
best c =
    let fits : FitsSigned w64 c.args.measure = c.ranges.measure in
    let b = rw c.in-Some.is at (simp to_z-of_z at c.in_ok-plan.ensures.best) in
    rw c.as_slice-ends.ensures b

pub bounds-ends-0 : goal.bounds-ends-0
bounds-ends-0 c =
    let b = best (goal.at.bounds-ends-0 c).After-as_slice-ends in
    (planned-first c.args.faces.now c.args.leaf.now c.args.from c.args.measure c.as_slice-ends.result.now b).some

pub line_to-line-requires-clause-low : goal.line_to-line-requires-clause-low
line_to-line-requires-clause-low c =
    let b = best (goal.at.line_to-line-requires-clause-low c).After-as_slice-ends in
    (planned-first c.args.faces.now c.args.leaf.now c.args.from c.args.measure c.as_slice-ends.result.now b).low

pub line_to-line-requires-clause-high : goal.line_to-line-requires-clause-high
line_to-line-requires-clause-high c =
    let b = best (goal.at.line_to-line-requires-clause-high c).After-as_slice-ends in
    rw c.requires.from (planned-within c.args.faces.now c.args.leaf.now c.args.from c.args.measure c.as_slice-ends.result.now b)

pub loop-index-init : goal.loop-index-init
loop-index-init c =
    let fits : FitsSigned w64 c.args.measure = c.ranges.measure in
    let b = best (goal.at.loop-index-init c).After-as_slice-ends in
    rw (to_z-of_z w64 c.args.measure fits, c.new-ahead.ensures.items) (record {
      low = omega arith;
      rest = (0, c.args.from, rest-begins c.args.faces.now c.args.leaf.now c.args.from c.args.measure c.as_slice-ends.result.now b);
      ahead = All-nil (IsOwnLine c.args.faces.now c.args.leaf.now c.args.measure);
    })

pub offset-at-requires-clause-index : goal.offset-at-requires-clause-index
offset-at-requires-clause-index c =
    let b = best (goal.at.offset-at-requires-clause-index c).After-as_slice-ends in
    let l : c.loop-index.index - 1 < length c.as_slice-ends.result.now = search rules in
    rw c.requires.from (end-stands c.args.faces.now c.args.leaf.now c.args.from c.args.measure c.as_slice-ends.result.now b (c.loop-index.index - 1) l)

inside : (c : After-offset-at) → c.offset-at.result < length c.args.leaf.now.text
inside c =
    let fits : FitsSigned w64 c.args.measure = c.ranges.measure in
    let more : c.loop-index.index < length c.as_slice-ends.result.now = search rules in
    let rest = rw (to_z-of_z w64 c.args.measure fits) at c.loop-index.invariant.rest in
    let at = rw c.requires.from at c.offset-at.ensures in
    rw at (ahead-inside c.args.faces.now c.args.leaf.now c.args.from c.args.measure c.as_slice-ends.result.now c.loop-index.index c.requires.can.good c.loop-index.invariant.low more rest)

pub begins_plain-requires : goal.begins_plain-requires
begins_plain-requires c = rw (c.as_bytes.ensures.value, c.as_str-text.ensures) (inside (goal.at.begins_plain-requires c).After-offset-at)

pub line_to-requires-clause-from : goal.line_to-requires-clause-from
line_to-requires-clause-from c = inside (goal.at.line_to-requires-clause-from c).After-offset-at

pub line_to-requires-clause-high : goal.line_to-requires-clause-high
line_to-requires-clause-high c =
    let b = best (goal.at.line_to-requires-clause-high c).After-as_slice-ends in
    let l : c.loop-index.index < length c.as_slice-ends.result.now = search rules in
    rw c.requires.from (end-stands c.args.faces.now c.args.leaf.now c.args.from c.args.measure c.as_slice-ends.result.now b c.loop-index.index l)

pub loop-index-preserved : goal.loop-index-preserved
loop-index-preserved c =
    let fits : FitsSigned w64 c.args.measure = c.ranges.measure in
    let more : c.loop-index.index < length c.as_slice-ends.result.now = search rules in
    let rest = rw (to_z-of_z w64 c.args.measure fits) at c.loop-index.invariant.rest in
    let ahead = rw (to_z-of_z w64 c.args.measure fits) at c.loop-index.invariant.ahead in
    let utf8 : IsUtf8 c.args.leaf.now.text = rw (← c.as_str-text.ensures) c.as_str-text.utf8 in
    let at : c.offset-at.result ≡ get_or (offsets_of c.args.leaf.now c.args.from) (get_or c.as_slice-ends.result.now (c.loop-index.index - 1) 0 - 1) 0 = rw c.requires.from at c.offset-at.ensures in
    let told : c.begins_plain.result ≡ true = search rules in
    let plain : begins_plain c.args.leaf.now.text (get_or (offsets_of c.args.leaf.now c.args.from) (get_or c.as_slice-ends.result.now (c.loop-index.index - 1) 0 - 1) 0) ≡ true = rw (told, c.as_bytes.ensures.value, c.as_str-text.ensures, at) at (sym c.begins_plain.ensures) in
    let begins : c.line_to.result.from ≡ get_or (offsets_of c.args.leaf.now c.args.from) (get_or c.as_slice-ends.result.now (c.loop-index.index - 1) 0 - 1) 0 = c.line_to.ensures.from ∙ at in
    let to : c.line_to.result.to ≡ get_or (offsets_of c.args.leaf.now c.args.from) (get_or c.as_slice-ends.result.now c.loop-index.index 0 - 1) 0 = rw c.requires.from at c.line_to.ensures.to in
    let ends = ahead-line c.args.faces.now c.args.leaf.now c.args.from c.args.measure c.as_slice-ends.result.now c.loop-index.index c.requires.can.good c.loop-index.invariant.low more rest utf8 plain c.requires.fit c.requires.stops in
    let line : IsOwnLine c.args.faces.now c.args.leaf.now c.args.measure c.line_to.result = record {
      begins = refl;
      ends = rw (begins, to) ends;
      hyphen = c.line_to.ensures.hyphen;
    } in
    let left = ahead-rest c.args.faces.now c.args.leaf.now c.args.from c.args.measure c.as_slice-ends.result.now c.loop-index.index c.requires.can.good c.loop-index.invariant.low more rest utf8 plain in
    let next : c.loop-index.index ≡ c.loop-index.index + 1 - 1 = omega arith in
    rw (to_z-of_z w64 c.args.measure fits, c.in_ok-push.ensures.items) (record {
      low = omega arith;
      rest = (
        get_or c.as_slice-ends.result.now (c.loop-index.index - 1) 0,
        get_or (offsets_of c.args.leaf.now c.args.from) (get_or c.as_slice-ends.result.now (c.loop-index.index - 1) 0 - 1) 0,
        subst (λ (k : ℕ). IsRestOfPlan c.args.faces.now c.args.leaf.now c.args.from c.args.measure (get_or c.as_slice-ends.result.now (c.loop-index.index - 1) 0) (get_or (offsets_of c.args.leaf.now c.args.from) (get_or c.as_slice-ends.result.now (c.loop-index.index - 1) 0 - 1) 0) (drop k c.as_slice-ends.result.now)) next left,
      );
      ahead = All-push (IsOwnLine c.args.faces.now c.args.leaf.now c.args.measure) c.loop-index.ahead.items c.line_to.result ahead line;
    })

pub returns-clause-lines : goal.returns-clause-lines
returns-clause-lines c =
    let fits : FitsSigned w64 c.args.measure = c.ranges.measure in
    let b = best (goal.at.returns-clause-lines c).After-as_slice-ends in
    let to : c.line_to-line.result.to ≡ get_or (offsets_of c.args.leaf.now c.args.from) (get_or c.as_slice-ends.result.now 0 0 - 1) 0 = rw c.requires.from at c.line_to-line.ensures.to in
    record {
      line = record {
        begins = c.line_to-line.ensures.from;
        ends = subst (λ (q : ℕ). IsEnd c.args.faces.now c.args.leaf.now c.args.from c.args.measure q) (sym to)
            (planned-end c.args.faces.now c.args.leaf.now c.args.from c.args.measure c.as_slice-ends.result.now b c.requires.fit c.requires.stops);
        hyphen = c.line_to-line.ensures.hyphen;
      };
      ahead = rw (to_z-of_z w64 c.args.measure fits) at c.loop-index.invariant.ahead;
    }
