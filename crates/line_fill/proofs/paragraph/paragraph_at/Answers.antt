use Rattle.std.proofs.Common.{◌-◌, ◌<◌, ◌≤◌, length, refl, arith}
use Rattle.line_fill.proofs.ParagraphLemmas.{IsSought, is-paragraph, offsets-count, order, sought-all, sought-some, too-many}
use Rattle.line_fill.proofs.paragraph.paragraph_at.Goals as goal
use Rattle.line_fill.proofs.paragraph.paragraph_at.Goals.{After-newline_end-end, After-count_up_to-last}

some : (c : After-newline_end-end) → c.args.from < c.newline_end-end.result
some c =
    sought-some c.args.leaf.now c.args.from c.count_up_to-first.result c.newline_end-end.result c.sought_end-most.result c.requires.from
    (rw (← c.as_slice-places.ensures) c.count_up_to-first.ensures.after)
    (rw (c.as_bytes-bytes.ensures.value, c.as_str.ensures) at c.newline_end-end.ensures)
    (rw (c.as_bytes-bytes.ensures.value, c.as_str.ensures, c.as_slice-places.ensures) at c.sought_end-most.ensures.place)

abbrev Sought : After-count_up_to-last → Type 0
Sought c = IsSought c.args.leaf.now c.args.from c.count_up_to-first.result c.count_up_to-last.result c.newline_end-end.result c.sought_end-most.result

sought : (c : After-count_up_to-last) → c.args.from < c.newline_end-end.result → Sought c
sought c later = record {
  inside = c.requires.from;
  below = rw (← c.as_slice-places.ensures) c.count_up_to-first.ensures.before;
  above = rw (← c.as_slice-places.ensures) c.count_up_to-first.ensures.after;
  ends = rw (c.as_bytes-bytes.ensures.value, c.as_str.ensures) at c.newline_end-end.ensures;
  some = later;
  within = rw (← c.as_slice-places.ensures) c.count_up_to-last.ensures.within;
  before = rw (← c.as_slice-places.ensures) c.count_up_to-last.ensures.before;
  past = rw (← c.as_slice-places.ensures) c.count_up_to-last.ensures.after;
}

within : (c : After-count_up_to-last) → c.count_up_to-first.result ≤ length c.args.leaf.now.places
within c = rw (← c.as_slice-places.ensures) c.count_up_to-first.ensures.within

pub overflow_sub-end : goal.overflow_sub-end
overflow_sub-end c = let s = some (goal.at.overflow_sub-end c).After-newline_end-end in omega arith

pub overflow_sub-last : goal.overflow_sub-last
overflow_sub-last c =
    let d = (goal.at.overflow_sub-last c).After-count_up_to-last in
    let s = sought d (some (goal.at.overflow_sub-last c).After-newline_end-end) in
    order _ _ _ _ _ _ s (within d)

pub returns-then-last-first-ge-MOST_STOPS : goal.returns-then-last-first-ge-MOST_STOPS
returns-then-last-first-ge-MOST_STOPS c =
    let d = (goal.at.returns-then-last-first-ge-MOST_STOPS c).After-count_up_to-last in
    let s = sought d (some (goal.at.returns-then-last-first-ge-MOST_STOPS c).After-newline_end-end) in
    too-many _ _ _ _ _ _ s (within d) (let t = c.if-last-first-ge-MOST_STOPS.true in omega arith)

pub returns : goal.returns
returns c =
    let d = (goal.at.returns c).After-count_up_to-last in
    let s = sought d (some (goal.at.returns c).After-newline_end-end) in
    let few : c.count_up_to-last.result - c.count_up_to-first.result < 4096 = let t = c.if-last-first-ge-MOST_STOPS.false in omega arith in
    let place = rw (c.as_bytes-bytes.ensures.value, c.as_str.ensures, c.as_slice-places.ensures) at c.sought_end-most.ensures.place in
    let same = sought-all _ _ _ _ _ _ s (within d) place few in
    let is = is-paragraph _ _ _ _ _ _ s (within d) same in
    let n = offsets-count _ _ is in
    (refl, omega (arith, n), is)
