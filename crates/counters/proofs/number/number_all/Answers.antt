use Rattle.std.proofs.Common.{◌∙◌, sym, subst}
use Rattle.counters.specs.At.{AreAllNested}
use Rattle.counters.specs.Log.{events_in}
use Rattle.counters.proofs.NumberLemmas.{all-nested, values-are-those}
use Rattle.counters.proofs.number.number_all.Goals as goal

pub asked_marks-requires : goal.asked_marks-requires
asked_marks-requires c = subst (λ r. AreAllNested (events_in r)) (sym c.deref-2.ensures.value) (all-nested c.args.dom.now c.args.styles.now (events_in c.into_parts-rows.result.0.items) c.in_ok-spots.ensures.tree (c.into_parts-rows.ensures ∙ c.in_ok-all_changes.ensures))

pub of-requires-clause-nested : goal.of-requires-clause-nested
of-requires-clause-nested c = all-nested c.args.dom.now c.args.styles.now _ c.in_ok-spots.ensures.tree (c.into_parts-rows.ensures ∙ c.in_ok-all_changes.ensures)

pub returns : goal.returns
returns c = values-are-those c.args.dom.now c.args.styles.now c.in_ok-spots.spots.items c.in_ok-spots.ensures.spots c.of.result (c.of.ensures.events ∙ c.into_parts-rows.ensures ∙ c.in_ok-all_changes.ensures) c.of.ensures.spots
