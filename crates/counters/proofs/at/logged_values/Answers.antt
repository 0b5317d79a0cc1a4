use Rattle.std.proofs.Common.{◌≡◌, ◌∙◌, List, sym, subst}
use Rattle.std.specs.List.Sorted.{IsNonDecreasingBy}
use Rattle.named_lists.specs.Lists.{of_name}
use Rattle.counters.specs.declared.scopes.CounterEvent.{CounterEvent}
use Rattle.counters.specs.Chains.{AreMarked}
use Rattle.counters.specs.Log.{events_in}
use Rattle.counters.proofs.NumberLemmas.{nested-sorted}
use Rattle.counters.proofs.ValueLemmas.{values-are}
use Rattle.counters.proofs.at.logged_values.Goals as goal

pub marks_of-requires : goal.marks_of-requires
marks_of-requires c =
    let events : List CounterEvent = of_name (events_in c.args.rows.now) c.args.name.now in
    let is : c.as_slice.result.now ≡ events = c.as_slice.ensures.value ∙ c.in_ok-events.ensures in
    subst (IsNonDecreasingBy (λ (e : CounterEvent). e.at)) (sym is) (nested-sorted events (c.requires c.args.name.now))

pub returns : goal.returns
returns c =
    let events : List CounterEvent = of_name (events_in c.args.rows.now) c.args.name.now in
    let is : c.as_slice.result.now ≡ events = c.as_slice.ensures.value ∙ c.in_ok-events.ensures in
    let marked : AreMarked events c.as_slice-2.result.now = rw (← is, c.as_slice-2.ensures) c.in_ok-marks.ensures.marked in
    c.of.ensures ∙ c.in_ok-values_at.ensures ∙ values-are events c.as_slice-2.result.now c.args.place (c.requires c.args.name.now) marked
