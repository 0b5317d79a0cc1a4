use Rattle.std.proofs.Common.{◌≡◌, List, ℕ, map, sym, subst}
use Rattle.std.specs.String.{string_bytes}
use Rattle.named_lists.specs.Lists.{ListsOf, lists_in, no_lists}
use Rattle.counters.specs.declared.scopes.CounterEvent.{CounterEvent}
use Rattle.counters.specs.Log.{events_in, of_asked}
use Rattle.counters.specs.Gather.{AreInOrder, AreMarksOf, with_changes}
use Rattle.counters.proofs.NeededLemmas.{AreKept, kept-changes}
use Rattle.counters.proofs.NumberLemmas.{all-marks, asked-nested, in-order, keep-asked}
use Rattle.counters.proofs.number.asked_marks.Goals as goal

-- the lists of the counters that are asked for
kept-lists : (asked : List (List ℕ)) (events : List (List ℕ × CounterEvent)) (v l : ListsOf CounterEvent) → v ≡ with_changes no_lists (of_asked asked events) → l ≡ v → AreKept (of_asked asked events) l
kept-lists asked events v l f g = rw (g, f) (kept-changes (of_asked asked events))

pub all_marks-requires : goal.all_marks-requires
all_marks-requires c =
    let asked : List (List ℕ) = map (λ k. string_bytes k) c.args.asked.now.keys in
    let events : List (List ℕ × CounterEvent) = events_in c.args.rows.now in
    let lists : ListsOf CounterEvent = lists_in (map (λ k. string_bytes k) c.into_parts-names.result.0.keys) c.into_parts-names.result.1.items in
    let kept : AreKept (of_asked asked events) lists = kept-lists asked events c.in_ok-asked_events.field-0 lists c.in_ok-asked_events.ensures c.into_parts-names.ensures in
    subst AreInOrder (sym c.deref.ensures.value) (in-order (of_asked asked events) lists (asked-nested asked events c.requires) kept)

pub returns-clause-marks : goal.returns-clause-marks
returns-clause-marks c = all-marks c.deref.result.now c.in_ok-marks.marks.items c.in_ok-marks.ensures

pub returns-clause-asked : goal.returns-clause-asked
returns-clause-asked c =
    let asked : List (List ℕ) = map (λ k. string_bytes k) c.args.asked.now.keys in
    let events : List (List ℕ × CounterEvent) = events_in c.args.rows.now in
    let lists : ListsOf CounterEvent = lists_in (map (λ k. string_bytes k) c.into_parts-names.result.0.keys) c.into_parts-names.result.1.items in
    let kept : AreKept (of_asked asked events) lists = kept-lists asked events c.in_ok-asked_events.field-0 lists c.in_ok-asked_events.ensures c.into_parts-names.ensures in
    keep-asked asked events lists c.in_ok-marks.marks.items c.requires kept (subst (λ v. AreMarksOf v c.in_ok-marks.marks.items) c.deref.ensures.value c.in_ok-marks.ensures)
