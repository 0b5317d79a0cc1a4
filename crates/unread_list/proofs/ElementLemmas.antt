-- Elements one after another.
use Rattle.std.proofs.Common.{◌≡◌, ℕ, suc, ◌+◌, ◌-◌, ◌<◌, List, ◌++◌, length, ap, arith}
use Rattle.dom.specs.Nodes.{Node}
use Rattle.unread_list.specs.Elements.{idle_at, idle_from, numbered}

pub idle_step : (nodes : List Node) (i : ℕ) → i < length nodes →
    idle_from nodes i (length nodes - i) ≡ numbered i (idle_at nodes i) ++ idle_from nodes (i + 1) (length nodes - (i + 1))
idle_step nodes i h = let e : length nodes - i ≡ suc (length nodes - (i + 1)) = omega arith in ap (idle_from nodes i) e
