-- What holds of texts with soft hyphens.
use Rattle.std.specs.Prelude.{◌≡◌, ℕ, ◌+◌, ◌<◌, ◌≤◌, Bool, true, false, List, length, slice_index, Some, All}
use Rattle.std.specs.Str.{IsUtf8, chars}
use Rattle.inline_text.specs.Joined.{joined}
use Rattle.soft_hyphens.specs.Words.{Points, codes_of, is_of_word, is_put, letters_in, word_begin, word_end}
use Rattle.soft_hyphens.specs.declared.letter.Letter.{Letter}
use Rattle.soft_hyphens.specs.Hyphenated.{encoded, hyphenated, put_from}

-- the whole text is the text without, with a soft hyphen at each place at which one is put, and at no other
abbrev pub TextsJoin : Type 0
TextsJoin =
    (points : Points) (autos : List Bool) (ts : List (List ℕ)) → All IsUtf8 ts →
    joined (hyphenated (Some points) autos ts) ≡
    encoded (put_from (is_put points (letters_in autos ts)) 0 (chars (joined ts)))

-- where nothing is put, all texts stay
abbrev pub NothingIsPut : Type 0
NothingIsPut =
    (autos : List Bool) (ts : List (List ℕ)) → All IsUtf8 ts → hyphenated (Some (λ word place. false)) autos ts ≡ ts

-- the word round a place has only characters of words, and none stands next to it
pub record IsLongest (cs : List ℕ) (k from to : ℕ) : Type 0 where
  pub begins : from ≤ k
  pub ends : k ≤ to
  pub within : to ≤ length cs
  pub all : (i : ℕ) → from ≤ i → i < to → is_of_word (slice_index cs i) ≡ true
  pub before : (i : ℕ) → i + 1 ≡ from → is_of_word (slice_index cs i) ≡ false
  pub after : to < length cs → is_of_word (slice_index cs to) ≡ false

abbrev pub WordsAreLongest : Type 0
WordsAreLongest =
    (ls : List Letter) (k : ℕ) → k ≤ length ls → IsLongest (codes_of ls) k (word_begin ls k) (word_end ls k)
