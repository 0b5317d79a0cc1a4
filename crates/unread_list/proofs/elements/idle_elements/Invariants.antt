use Rattle.std.proofs.Common.{◌≡◌, ◌-◌, ◌++◌, length, map}
use Rattle.unread_list.specs.Elements.{idle_from, idle_elements}
use Rattle.unread_list.specs.IdleViews.{idle_in}
use Rattle.unread_list.proofs.elements.idle_elements.Given as goal

abbrev pub invariant-loop-index : goal.invariant-loop-index
invariant-loop-index l = map idle_in l.found.items ++ idle_from l.dom l.index (length l.dom - l.index) ≡ idle_elements l.dom
