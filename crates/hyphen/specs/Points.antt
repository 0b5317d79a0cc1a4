-- The points of a word: where it may be hyphenated.
use Rattle.std.specs.Prelude.{ℕ, ◌-◌, ◌%◌, Bool, List, length, take, map, filter, sum_by, nat_le, ◌==◌, ◌&&◌}
use Rattle.std.specs.List.{range_with_len}
use Rattle.std.specs.Char.{to_ascii_lowercase, len_utf8}
use Rattle.std.specs.Str.{chars}

-- the letters of a word: its characters, those of ASCII in lower case
unfoldable pub letters_of : List ℕ → List ℕ
letters_of word = map to_ascii_lowercase (chars word)

-- whether a place of a word of n letters is a point, by its value: that is odd, and enough letters stand before it and
-- after
unfoldable pub is_point : ℕ → ℕ → ℕ → (ℕ → ℕ) → ℕ → Bool
is_point n left right value place = value place % 2 == 1 &&
    (nat_le 1 place && nat_le left place) && nat_le right (n - place)

-- how many bytes the first letters have
unfoldable pub offset_of : List ℕ → ℕ → ℕ
offset_of letters place = sum_by len_utf8 (take place letters)

-- the places of a word that are points, by its letters, in order
unfoldable pub places_of : (List ℕ → ℕ → ℕ) → List ℕ → ℕ → ℕ → List ℕ
places_of value letters left right =
    filter (is_point (length letters) left right (value letters)) (range_with_len 0 (length letters))

-- the points of a word, as offsets in bytes, in order
unfoldable pub points_of : (List ℕ → ℕ → ℕ) → List ℕ → ℕ → ℕ → List ℕ
points_of value word left right =
    map (offset_of (letters_of word)) (places_of value (letters_of word) left right)
