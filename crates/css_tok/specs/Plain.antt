-- A text with its escapes undone (CSS 2.1, 4.1.3).
use Rattle.std.specs.Prelude.{◌≡◌, ℕ, zero, suc, Bool, false, MatchOption, if◌then◌else◌, ◌==◌, List, [], ◌∷◌, ◌++◌, take, Option, Some, None}
use Rattle.std.specs.Char.{is_ascii_hexdigit, encode_utf8}
use Rattle.std.specs.Str.{str_eq_ignore_ascii_case}
use Rattle.std.specs.Str.Parse.{digits_value}
use Rattle.bk_num.specs.Written.{character_of}
use Rattle.css_tok.specs.Lengths.{is_newline, hex_len, quoted_len}

-- What a `\` and what follows it stand for: nothing before a newline, a character before hexadecimal digits,
-- and else the first byte of the character after it. A `\` at the end stands for itself.
unfoldable pub escaped : List ℕ → List ℕ
escaped [] = 92 ∷ []
escaped (b ∷ bs) = if is_newline b then [] else (if is_ascii_hexdigit b
    then encode_utf8 (character_of (digits_value 16 (take (hex_len (b ∷ bs)) (b ∷ bs)))) else b ∷ [])

-- The number counts the bytes that are left of an escape.
unfoldable pub plain_from : ℕ → List ℕ → List ℕ
plain_from left [] = []
plain_from (suc left) (b ∷ bs) = plain_from left bs
plain_from zero (b ∷ bs) = if b == 92 then escaped bs ++ plain_from (quoted_len bs) bs else b ∷ plain_from zero bs

-- a text with its escapes undone
unfoldable pub plain_of : List ℕ → List ℕ
plain_of bs = plain_from 0 bs

-- what a character at the start of the answer adds, if there is one
abbrev pub bytes_of : Option ℕ → List ℕ
bytes_of None = []
bytes_of (Some c) = encode_utf8 c

-- A text with its escapes undone is this word, ASCII case aside. A name of CSS is compared so (CSS 2.1, 4.1.3).
abbrev pub is_word : List ℕ → List ℕ → Bool
is_word bs word = str_eq_ignore_ascii_case (plain_of bs) word

-- what is left of a word after a part of a text, or none where the part isn't its beginning, ASCII case aside
abbrev pub Strips : Option (List ℕ) → List ℕ → List ℕ → Type 0
Strips left part word = MatchOption left ((rest : List ℕ) → str_eq_ignore_ascii_case (part ++ rest) word ≡ false)
    (λ more. (rest : List ℕ) → str_eq_ignore_ascii_case (part ++ rest) word ≡ str_eq_ignore_ascii_case rest more)
