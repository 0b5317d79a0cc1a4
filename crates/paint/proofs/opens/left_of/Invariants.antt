use Rattle.std.proofs.Common.{◌≡◌, ◌≤◌, ℕ, ℤ, List, length}
use Rattle.boxes.specs.Tree.{Tree}
use Rattle.paint.specs.Opens.{opens_of}
use Rattle.paint.proofs.OpenLemmas.{AreUpTo}
use Rattle.paint.proofs.opens.left_of.Given as goal

abbrev pub invariant-loop-at : goal.invariant-loop-at
invariant-loop-at l = record {
  within : l.at ≤ length l.opens;
  up_to : (t : Tree) (m : ℤ) (boxes : List ℕ) → l.opens ≡ opens_of t m boxes → AreUpTo t m l.opens l.number l.at boxes;
}

abbrev pub decreases-loop-at : goal.decreases-loop-at
decreases-loop-at l = l.at
