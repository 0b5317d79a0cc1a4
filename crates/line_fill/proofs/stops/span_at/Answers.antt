use Rattle.std.proofs.Common.{◌≡◌, ℕ, ◌<◌, ◌≤◌, Some, length, get_or, sym, subst}
use Rattle.std.specs.Str.{IsCharBoundary}
use Rattle.std.specs.List.{Contains}
use Rattle.std.proofs.lemmas.Str.{IsCharBoundary-start}
use Rattle.std.proofs.lemmas.List.Elements.{Contains-get_or}
use Rattle.boxes.specs.declared.leaf.Span.{Span}
use Rattle.line_fill.specs.Widths.{span_at}
use Rattle.line_fill.proofs.SpanLemmas.{part_at, part_here}
use Rattle.line_fill.proofs.stops.span_at.Goals as goal
use Rattle.line_fill.proofs.stops.span_at.Goals.{After-index-spans-number}

start : (c : After-index-spans-number) → IsCharBoundary c.args.leaf.now.text 0
start c = IsCharBoundary-start c.args.leaf.now.text (rw (← c.as_str-text.ensures) c.as_str-text.utf8)

below : (c : After-index-spans-number) → c.first_span-number.result < length c.args.leaf.now.spans
below c = rw (← c.as_slice-spans.ensures) c.first_span-number.ensures.within

is_at : (c : After-index-spans-number) → c.index-spans-number.result ≡ get_or c.args.leaf.now.spans c.first_span-number.result c.index-spans-number.result
is_at c = rw (← c.as_slice-spans.ensures) c.index-spans-number.is

pub returns-clause-here : goal.returns-clause-here
returns-clause-here c =
    let d = (goal.at.returns-clause-here c).After-index-spans-number in
    let span : Span = c.index-spans-number.result in
    let h = part_here c.args.leaf.now.text 0 c.args.leaf.now.spans c.first_span-number.result span c.requires.good.spans (start d) (below d) in
    subst (λ (z : Span). (j : ℕ) → z.from ≤ j → j < z.to → span_at c.args.leaf.now.spans j ≡ Some z) (sym (is_at d)) h

pub returns-clause-begins : goal.returns-clause-begins
returns-clause-begins c =
    let span : Span = c.index-spans-number.result in
    subst (λ (z : Span). z.from ≤ c.args.at) (sym c.index-spans-number.is) (c.first_span-number.ensures.begins span)

pub returns-clause-ends : goal.returns-clause-ends
returns-clause-ends c =
    let span : Span = c.index-spans-number.result in
    subst (λ (z : Span). c.args.at < z.to) (sym c.index-spans-number.is) (c.first_span-number.ensures.ends span)

pub returns-clause-within : goal.returns-clause-within
returns-clause-within c =
    let d = (goal.at.returns-clause-within c).After-index-spans-number in
    let p = part_at c.args.leaf.now.text 0 c.args.leaf.now.spans c.first_span-number.result c.index-spans-number.result c.requires.good.spans (start d) (below d) in
    subst (λ (z : Span). z.to ≤ length c.args.leaf.now.text) (sym (is_at d)) p.within

pub returns-clause-listed : goal.returns-clause-listed
returns-clause-listed c =
    let d = (goal.at.returns-clause-listed c).After-index-spans-number in
    subst (λ (z : Span). Contains c.args.leaf.now.spans z) (sym (is_at d)) (Contains-get_or c.args.leaf.now.spans c.first_span-number.result c.index-spans-number.result (below d))
