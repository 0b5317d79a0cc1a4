use Rattle.std.proofs.Common.{◌<◌, ◌-◌, ◌+◌, ◌++◌, length, map, arith, ap, sym, ◌∙◌, append_assoc}
use Rattle.unread_list.specs.Elements.{idle_at, idle_from, numbered}
use Rattle.unread_list.specs.IdleViews.{idle_in}
use Rattle.unread_list.proofs.ElementLemmas.{idle_step}
use Rattle.unread_list.proofs.elements.idle_elements.Goals as goal

pub loop-index-preserved : goal.loop-index-preserved
loop-index-preserved c =
    let within : c.loop-index.index < length c.args.dom.now = omega (arith, c.len-index-end.ensures.len) in
    rw c.in_ok-push_idle.ensures (append_assoc (map idle_in c.loop-index.found.items) (numbered c.loop-index.index (idle_at c.args.dom.now c.loop-index.index)) (idle_from c.args.dom.now (c.loop-index.index + 1) (length c.args.dom.now - (c.loop-index.index + 1)))
    ∙ ap (λ r. map idle_in c.loop-index.found.items ++ r) (sym (idle_step c.args.dom.now c.loop-index.index within)) ∙ c.loop-index.invariant)
