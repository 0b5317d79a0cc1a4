use Rattle.std.proofs.Common.{ℕ, ◌≤◌, length}
use Rattle.line_fill.specs.Keys.{key_of}
use Rattle.line_fill.specs.Kept.{IsLeafAt}
use Rattle.line_fill.specs.KeptSearch.{IsLast}
use Rattle.line_fill.proofs.search.find.Given as goal

abbrev pub invariant-loop-next : goal.invariant-loop-next
invariant-loop-next l = (l.end ≤ length l.leaves) × IsLast l.leaves l.end l.print l.next × ((j : ℕ) → l.end ≤ j → IsLeafAt l.leaves j (key_of l.leaf) l.measure → ⊥)

abbrev pub decreases-loop-next : goal.decreases-loop-next
decreases-loop-next l = l.end
