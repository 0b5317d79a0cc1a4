use Rattle.std.proofs.Common.{◌≡◌, ◌++◌, string_bytes}
use Rattle.std.specs.Str.Iter.{chars_rest}
use Rattle.gen_text.specs.Own.{added, ending_after}
use Rattle.gen_text.proofs.own.push_words.Given as goal

abbrev pub invariant-loop-c : goal.invariant-loop-c
invariant-loop-c l = record {
  can : (goal.iterator-loop-c).can_next l.c-iterator;
  finite : (goal.iterator-loop-c).is_finite l.c-iterator;
  text : string_bytes l.into ++ added l.ending (chars_rest l.c-iterator) ≡ string_bytes l.fn.into ++ added l.fn.ending l.text;
  ending : ending_after l.ending (chars_rest l.c-iterator) ≡ ending_after l.fn.ending l.text;
}
