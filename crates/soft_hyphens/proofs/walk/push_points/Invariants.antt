use Rattle.std.proofs.Common.{◌≡◌, ◌+◌, ◌++◌, ℕ, map, take}
use Rattle.soft_hyphens.proofs.walk.push_points.Given as goal

abbrev pub invariant-loop-point : goal.invariant-loop-point
invariant-loop-point l = l.offsets.items ≡ l.initial.offsets.items ++ map (λ (p : ℕ). l.from + p) (take l.point-index l.points)
