use Rattle.std.proofs.Common.{◌≡◌, ◌++◌, ◌+◌, length}
use Rattle.std.specs.Str.{chars, IsUtf8}
use Rattle.std.specs.Str.Iter.{char_indices_offset, char_indices_rest}
use Rattle.inline_text.specs.Places.{opportunities_of}
use Rattle.inline_text.proofs.PlaceLemmas.{places_after}
use Rattle.inline_text.proofs.places.ordinary.Given as goal

abbrev pub invariant-loop-at : goal.invariant-loop-at
invariant-loop-at l = record {
  can : (goal.iterator-loop-at).can_next l.at-iterator;
  finite : (goal.iterator-loop-at).is_finite l.at-iterator;
  utf8 : IsUtf8 (char_indices_rest l.at-iterator);
  end : char_indices_offset l.at-iterator + length (char_indices_rest l.at-iterator) ≡ length l.text;
  goes : l.places ++ places_after l.spans l.before (char_indices_offset l.at-iterator) (chars (char_indices_rest l.at-iterator)) ≡ opportunities_of l.text l.spans;
}
