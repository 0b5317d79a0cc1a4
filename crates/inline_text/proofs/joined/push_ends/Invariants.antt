use Rattle.std.proofs.Common.{◌≡◌, ◌-◌, ◌++◌, List, ℕ, length}
use Rattle.std.specs.List.{All}
use Rattle.std.specs.Str.{IsCharBoundary}
use Rattle.inline_text.specs.Joined.{repeated}
use Rattle.inline_text.proofs.joined.push_ends.Given as goal

abbrev pub invariant-loop-ends : goal.invariant-loop-ends
invariant-loop-ends l = record {
  ends : l.ends.items ++ repeated (l.count - length l.ends.items) l.at ≡ l.initial.ends.items ++ repeated (l.count - length l.initial.ends.items) l.at;
  stand : (text : List ℕ) → IsCharBoundary text l.at → All (IsCharBoundary text) l.initial.ends.items → All (IsCharBoundary text) l.ends.items;
}

abbrev pub decreases-loop-ends : goal.decreases-loop-ends
decreases-loop-ends l = l.count - length l.ends.items
