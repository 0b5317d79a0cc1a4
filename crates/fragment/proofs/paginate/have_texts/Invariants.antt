use Rattle.std.proofs.Common.{ℕ, ◌<◌}
use Rattle.page_list.specs.Bounds.{HasText}
use Rattle.fragment.proofs.paginate.have_texts.Given as goal

abbrev pub invariant-loop-event : goal.invariant-loop-event
invariant-loop-event l = (k : ℕ) → k < l.event → HasText l.tree k
