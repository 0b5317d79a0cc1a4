use Rattle.std.proofs.Common.{rules}
use Rattle.inline_text.proofs.SpanLemmas.{held, not_held, past_all}
use Rattle.inline_text.proofs.places.span_before.Goals as goal
use Rattle.inline_text.proofs.places.span_before.Goals.{in_default-via-in-Some+else-span-at, in_default-via-in_default}

pub returns-in-Some : goal.returns-in-Some
returns-in-Some c = λ p. held p c.args.text.now c.args.at c.args.spans.now c.count_before.result _ c.in-Some.span.now c.requires c.count_before.ensures.before (search rules) c.count_before.ensures.after c.in-Some.ensures.lookup.1 c.if-span-at.true

pub returns-in_default : goal.returns-in_default
returns-in_default c = λ p. elim c.in_default.branch [
  | in_default-via-in-Some+else-span-at w ↦ not_held p c.args.text.now c.args.at c.args.spans.now c.count_before.result _ w.in-Some.span.now c.requires c.count_before.ensures.before w.in-Some.ensures.lookup.1 w.if-span-at.false
  | in_default-via-in_default w ↦ past_all p c.args.text.now c.args.at c.args.spans.now c.count_before.result c.requires c.count_before.ensures.before (search rules)
]
