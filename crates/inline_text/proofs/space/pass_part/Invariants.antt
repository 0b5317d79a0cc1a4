use Rattle.std.proofs.Common.{◌≡◌, ◌++◌, ◌-◌, List, drop, length}
use Rattle.std.specs.Str.{chars, IsCharBoundary}
use Rattle.inline_text.specs.Space.{Char, chars_of_part, marked}
use Rattle.inline_text.specs.Gaps.{laid, left_from}
use Rattle.inline_text.proofs.space.pass_part.Given as goal

abbrev pub invariant-loop-at : goal.invariant-loop-at
invariant-loop-at l = record {
  boundary : IsCharBoundary l.text l.at;
  goes : (rest : List Char) → laid l.initial.joined (left_from l.initial.gap (chars_of_part l.index l.part ++ rest)) ≡ laid l.joined (left_from l.gap (marked l.space l.index (chars (drop l.at l.text)) ++ rest));
}

abbrev pub decreases-loop-at : goal.decreases-loop-at
decreases-loop-at l = length l.text - l.at
