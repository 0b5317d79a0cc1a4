use Rattle.std.proofs.Common.{◌≤◌, ℕ, Some, ap, ◌∙◌, arith, add-one}
use Rattle.boxes.specs.Clones.{open_through}
use Rattle.boxes.specs.Tree.{Tree}
use Rattle.boxes.specs.declared.place.Event.{Event}
use Rattle.seams.specs.Runs.{events_in}
use Rattle.paint.proofs.ThroughLemmas.{inner_there, left_closes, left_other, left_start}
use Rattle.paint.proofs.again.through.Goals as goal
use Rattle.paint.proofs.again.through.Goals.{in-Closes, in_default}

pub loop-at-init : goal.loop-at-init
loop-at-init c = left_start c.args.tree.now c.args.parts.now c.args.from c.args.inner c.requires.inner

pub left_by-inner-requires : goal.left_by-inner-requires
left_by-inner-requires c = λ i is. inner_there c.args.parts.now (open_through c.args.tree.now c.args.from (events_in c.args.tree.now c.args.from c.loop-at.at)) c.loop-at.inner c.loop-at.invariant.on i is

pub loop-at-preserved : goal.loop-at-preserved
loop-at-preserved c =
    let t : Tree = c.args.tree.now in
    let at : ℕ = c.loop-at.at in
    let low : c.args.from ≤ at = omega arith in
    elim c.match-event.branch [
      | in-Closes w ↦ (
          let there = c.event.ensures ∙ ap (λ (e : Event). Some e) w.in-Closes.is in
          rw (add-one, w.inner-is, w.left_by-inner.ensures) (left_closes t c.count-count.ensures.tree c.args.parts.now c.args.from at w.in-Closes.number c.loop-at.inner low there c.loop-at.invariant))
      | in_default w ↦ rw (add-one, w.inner-is) (left_other t c.count-count.ensures.tree c.args.parts.now c.args.from at c.loop-at.inner c.event.result low c.event.ensures (λ b e. w.in_default.not-Closes b e) c.loop-at.invariant)
    ]
