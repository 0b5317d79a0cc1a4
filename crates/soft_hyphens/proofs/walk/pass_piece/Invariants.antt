use Rattle.std.proofs.Common.{◌≡◌, ◌+◌, ◌++◌, List, length, drop}
use Rattle.std.specs.Str.{chars, IsUtf8}
use Rattle.std.specs.Str.Iter.{chars_rest}
use Rattle.hyphen.specs.Meaning.{value_in}
use Rattle.soft_hyphens.specs.Pass.{letters_with}
use Rattle.soft_hyphens.specs.Walk.{IsIn, IsOver}
use Rattle.soft_hyphens.specs.Words.{points_with}
use Rattle.soft_hyphens.specs.declared.letter.Letter.{Letter}
use Rattle.soft_hyphens.proofs.walk.pass_piece.Given as goal

abbrev pub invariant-loop-code : goal.invariant-loop-code
invariant-loop-code l = record {
  can : (goal.iterator-loop-code).can_next l.code-iterator;
  finite : (goal.iterator-loop-code).is_finite l.code-iterator;
  utf8 : IsUtf8 (chars_rest l.code-iterator);
  walk : IsIn l.text l.walk l.offsets.items;
  at : l.walk.at + length (chars_rest l.code-iterator) ≡ l.fn.walk.at + length l.piece;
  next : drop l.walk.at l.text ≡ chars_rest l.code-iterator ++ drop (l.fn.walk.at + length l.piece) l.text;
  over : (ls more : List Letter) → IsOver (points_with (value_in l.hyphenator)) ls l.text l.fn.walk l.fn.offsets.items → drop l.fn.walk.place ls ≡ letters_with l.fn.auto (chars l.piece) ++ more → IsOver (points_with (value_in l.hyphenator)) ls l.text l.walk l.offsets.items × (drop l.walk.place ls ≡ letters_with l.fn.auto (chars (chars_rest l.code-iterator)) ++ more);
}
