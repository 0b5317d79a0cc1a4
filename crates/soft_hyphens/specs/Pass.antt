-- What passes over the texts of a run keep.
use Rattle.std.specs.Prelude.{ℕ, ◌+◌, Bool, List, [], ◌∷◌, ◌++◌, map, filter, length}
use Rattle.std.specs.Char.{encode_utf8}
use Rattle.std.specs.List.{range_with_len, slice_range}
use Rattle.std.specs.Str.{chars}
use Rattle.bk_num.specs.Chars.{soft_hyphen}
use Rattle.hyphen.specs.Points.{offset_of}
use Rattle.soft_hyphens.specs.declared.letter.Letter.{Letter}

-- characters with whether they are hyphenated
abbrev pub letters_with : Bool → List ℕ → List Letter
letters_with auto cs = map (λ c. record { code = c; auto = auto }) cs

-- the characters of some texts
abbrev pub chars_in : List (List ℕ) → List ℕ
chars_in [] = []
chars_in (t ∷ ts) = chars t ++ chars_in ts

-- the byte offsets of the places before one at which something holds, in order
abbrev pub offsets_before : (ℕ → Bool) → List ℕ → ℕ → List ℕ
offsets_before here cs place = map (offset_of cs) (filter here (range_with_len 0 place))

-- those of all places of some characters, also that of their end
abbrev pub offsets_in : (ℕ → Bool) → List ℕ → List ℕ
offsets_in here cs = offsets_before here cs (length cs + 1)

-- a soft hyphen as UTF-8
abbrev pub soft_bytes : List ℕ
soft_bytes = encode_utf8 soft_hyphen

-- what stands between two offsets of a text, with a soft hyphen at each of some offsets between them
abbrev pub softened : List ℕ → ℕ → List ℕ → ℕ → List ℕ
softened text from [] to = slice_range text from to
softened text from (o ∷ os) to = slice_range text from o ++ (soft_bytes ++ softened text o os to)
