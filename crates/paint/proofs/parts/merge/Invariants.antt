use Rattle.std.proofs.Common.{◌≡◌, ◌≤◌, List, length}
use Rattle.paint.specs.Parts.{Mark, AreMarks, HaveFrom, HaveOuters, bare_of, spine_of}
use Rattle.paint.proofs.parts.merge.Given as goal

abbrev pub invariant-loop-at : goal.invariant-loop-at
invariant-loop-at l = record {
  within : l.at ≤ length l.parts.items;
  rest : bare_of l.parts.items ≡ bare_of l.fn.parts.items;
  outers : HaveOuters l.parts.items;
  from : (marks : List Mark) → AreMarks (spine_of l.fn.parts.items) marks → HaveFrom (length l.fn.parts.items) l.fn.parts.items marks → HaveFrom l.at l.parts.items marks;
}

abbrev pub decreases-loop-at : goal.decreases-loop-at
decreases-loop-at l = l.at
