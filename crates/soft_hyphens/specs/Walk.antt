-- Where a walk over the characters of a run has come to.
use Rattle.std.specs.Prelude.{◌≡◌, ℕ, ◌+◌, ◌-◌, ◌≤◌, ◌<◌, ◌==◌, ◌&&◌, ◌||◌, not, true, false, List, length, slice_get, slice_index, nat_le, Bool}
use Rattle.std.specs.Char.{len_utf8}
use Rattle.std.specs.List.{All, slice_range}
use Rattle.std.specs.Str.{chars, IsCharBoundary}
use Rattle.bk_num.specs.Chars.{soft_hyphen}
use Rattle.hyphen.specs.Points.{offset_of}
use Rattle.soft_hyphens.specs.Pass.{offsets_before}
use Rattle.soft_hyphens.specs.Words.{Points, are_auto, codes_of, is_of_word, is_put, is_soft, letters_between, most_letters}
use Rattle.soft_hyphens.specs.declared.letter.Letter.{Letter}
use Rattle.soft_hyphens.specs.declared.walk.Walk.{Walk}

-- the word so far, as text
abbrev pub word_text : List ℕ → Walk → List ℕ
word_text text w = slice_range text w.from w.at

-- whether that word counts if it ends here, and a soft hyphen stands after it or not
abbrev pub counts_by : Walk → Bool → Bool
counts_by w soft = nat_le (w.place - w.first) most_letters && w.auto && not w.after_soft && not soft

-- it past a character of a word
abbrev pub after_letter : Walk → Letter → Walk
after_letter w l = record {
  at = w.at + len_utf8 l.code;
  place = w.place + 1;
  from = w.from;
  first = w.first;
  auto = w.auto && l.auto;
  after_soft = w.after_soft;
}

-- it past a character that is none of a word
abbrev pub after_other : Walk → Letter → Walk
after_other w l = record {
  at = w.at + len_utf8 l.code;
  place = w.place + 1;
  from = w.at + len_utf8 l.code;
  first = w.place + 1;
  auto = true;
  after_soft = l.code == soft_hyphen;
}

-- it stands in a text, and so do some offsets
pub record IsIn (text : List ℕ) (w : Walk) (offsets : List ℕ) : Type 0 where
  pub from : IsCharBoundary text w.from
  pub at : IsCharBoundary text w.at
  pub order : w.from ≤ w.at
  pub letters : w.first + length (chars (word_text text w)) ≡ w.place
  pub few : w.place ≤ w.at
  pub stand : All (IsCharBoundary text) offsets

-- the characters from one place on are of a word, up to another, and none stands before them
pub record IsWordFrom (ls : List Letter) (from at : ℕ) : Type 0 where
  pub order : from ≤ at
  pub all : (i : ℕ) → from ≤ i → i < at → is_of_word (slice_index (codes_of ls) i) ≡ true
  pub before : (i : ℕ) → i + 1 ≡ from → is_of_word (slice_index (codes_of ls) i) ≡ false

-- it goes over these characters: it knows where it is and the word that it is in, and the offsets are those of all
-- places before that word at which a soft hyphen is put
pub record IsOver (points : Points) (ls : List Letter) (text : List ℕ) (w : Walk) (offsets : List ℕ) : Type 0 where
  pub within : w.place ≤ length ls
  pub at : w.at ≡ offset_of (codes_of ls) w.place
  pub from : w.from ≡ offset_of (codes_of ls) w.first
  pub word : IsWordFrom ls w.first w.place
  pub letters : chars (word_text text w) ≡ codes_of (letters_between ls w.first w.place)
  pub auto : w.auto ≡ are_auto (letters_between ls w.first w.place)
  pub before : (w.first == 0 || not (is_soft (slice_get ls (w.first - 1)))) ≡ not w.after_soft
  pub put : offsets ≡ offsets_before (is_put points ls) (codes_of ls) w.first
