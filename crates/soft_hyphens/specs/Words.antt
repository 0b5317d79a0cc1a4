-- The words of a run that are hyphenated, and the places in them.
use Rattle.std.specs.Prelude.{ℕ, suc, ◌+◌, ◌-◌, Bool, true, false, not, List, [], ◌∷◌, ◌++◌, map, length, take, drop, reverse, slice_get, Option, None, Some, nat_le, ◌==◌, ◌&&◌, ◌||◌, if◌then◌else◌}
use Rattle.std.specs.Char.{to_ascii_lowercase}
use Rattle.std.specs.Str.{chars}
use Rattle.bk_num.specs.Chars.{soft_hyphen}
use Rattle.hyphen.specs.Meaning.{value_in}
use Rattle.hyphen.specs.Points.{is_point}
use Rattle.hyphen.specs.declared.patterns.Patterns.{Patterns}
use Rattle.soft_hyphens.specs.declared.letter.Letter.{Letter}

-- how many characters a word has at most that is hyphenated
abbrev pub most_letters : ℕ
most_letters = 64

-- whether a code is from one to another
abbrev pub is_from : ℕ → ℕ → ℕ → Bool
is_from low high c = nat_le low c && nat_le c high

-- the characters of words: letters of ASCII, of Latin-1, Latin Extended-A and B, of Greek and of Cyrillic
unfoldable pub is_of_word : ℕ → Bool
is_of_word c =
    is_from 65 90 c || is_from 97 122 c || (is_from 192 591 c && not (c == 215) && not (c == 247)) ||
    is_from 880 1023 c || is_from 1024 1279 c

-- where a word may be hyphenated: whether a place of it is a point
abbrev pub Points : Type 0
Points = List ℕ → ℕ → Bool

-- how many characters stand before a point at least
abbrev pub least_before : ℕ
least_before = 2

-- how many characters stand after a point at least
abbrev pub least_after : ℕ
least_after = 3

-- how many characters a word has at least that has a point: as many as stand before one and after it
abbrev pub least_letters : ℕ
least_letters = 5

-- the points of patterns, with so many characters before and after
abbrev pub points_with : (List ℕ → ℕ → ℕ) → Points
points_with value word place =
    is_point (length word) least_before least_after (value (map to_ascii_lowercase word)) place

-- those of patterns that are given; none else
abbrev pub points_in : Option Patterns → Option Points
points_in None = None
points_in (Some p) = Some (points_with (value_in p))

-- the characters of texts that stand one after the other, each with whether its text is hyphenated
abbrev pub letters_in : List Bool → List (List ℕ) → List Letter
letters_in [] ts = []
letters_in (auto ∷ autos) [] = []
letters_in (auto ∷ autos) (t ∷ ts) = map (λ c. record { code = c; auto = auto }) (chars t) ++ letters_in autos ts

-- the codes of characters
abbrev pub codes_of : List Letter → List ℕ
codes_of ls = map (λ l. l.code) ls

-- how many characters of a word stand at the front
unfoldable pub run_len : List ℕ → ℕ
run_len [] = 0
run_len (c ∷ cs) = if is_of_word c then suc (run_len cs) else 0

-- the longest run of a word's characters that a place is in or next to: where it begins, and where it ends
unfoldable pub word_begin : List Letter → ℕ → ℕ
word_begin ls k = k - run_len (reverse (codes_of (take k ls)))

unfoldable pub word_end : List Letter → ℕ → ℕ
word_end ls k = k + run_len (codes_of (drop k ls))

-- the characters from one place to another
abbrev pub letters_between : List Letter → ℕ → ℕ → List Letter
letters_between ls from to = take (to - from) (drop from ls)

-- whether a soft hyphen stands at a place
abbrev pub is_soft : Option Letter → Bool
is_soft None = false
is_soft (Some l) = l.code == soft_hyphen

-- whether all texts of characters are hyphenated
abbrev pub are_auto : List Letter → Bool
are_auto [] = true
are_auto (l ∷ ls) = l.auto && are_auto ls

-- whether a word counts: it isn't too long, all of it is hyphenated, and no soft hyphen stands next to it
unfoldable pub counts : List Letter → ℕ → ℕ → Bool
counts ls from to =
    nat_le (to - from) most_letters && are_auto (letters_between ls from to) &&
    (from == 0 || not (is_soft (slice_get ls (from - 1)))) && not (is_soft (slice_get ls to))

-- whether a soft hyphen is put at a place: a word that counts has a point there
unfoldable pub is_put : Points → List Letter → ℕ → Bool
is_put points ls k =
    let from = word_begin ls k in let to = word_end ls k in
    counts ls from to && points (codes_of (letters_between ls from to)) (k - from)
