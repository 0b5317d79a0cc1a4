-- Texts with soft hyphens at the points of their words.
use Rattle.std.specs.Prelude.{ℕ, suc, ◌+◌, Bool, List, [], ◌∷◌, ◌++◌, length, Option, None, Some, if◌then◌else◌}
use Rattle.std.specs.Char.{encode_utf8}
use Rattle.std.specs.Str.{chars}
use Rattle.bk_num.specs.Chars.{soft_hyphen}
use Rattle.soft_hyphens.specs.Words.{Points, is_put, letters_in}

-- characters as UTF-8
abbrev pub encoded : List ℕ → List ℕ
encoded [] = []
encoded (c ∷ cs) = encode_utf8 c ++ encoded cs

-- the characters from a place on, with a soft hyphen after each that stands before such a place
abbrev pub put_from : (ℕ → Bool) → ℕ → List ℕ → List ℕ
put_from here at [] = []
put_from here at (c ∷ cs) =
    c ∷ (if here (suc at) then soft_hyphen ∷ put_from here (suc at) cs else put_from here (suc at) cs)

-- texts from a place on with soft hyphens: one between two texts stands in the former
abbrev pub put_in : (ℕ → Bool) → ℕ → List (List ℕ) → List (List ℕ)
put_in here at [] = []
put_in here at (t ∷ ts) = encoded (put_from here at (chars t)) ∷ put_in here (at + length (chars t)) ts

-- texts with soft hyphens at the points of their words, of which those are hyphenated that are said to be (css-text-3,
-- 5.4); as they are where no patterns are given
unfoldable pub hyphenated : Option Points → List Bool → List (List ℕ) → List (List ℕ)
hyphenated None autos ts = ts
hyphenated (Some points) autos ts = put_in (is_put points (letters_in autos ts)) 0 ts
