-- The argument of `:nth-child`: An+B (css-syntax, 6), over tokens. Escapes are undone in each token by itself.
use Rattle.std.specs.Prelude.{ℕ, ◌-◌, ◌*◌, ◌+◌, min, Bool, false, not, ◌&&◌, ◌||◌, if◌then◌else◌, ◌==◌}
use Rattle.std.specs.Prelude.{ℤ, pos, neg_ℤ, List, [], ◌∷◌, take, drop, length, slice_index, codes, Option, Some, None}
use Rattle.std.specs.Char.{is_ascii_digit}
use Rattle.std.specs.List.{list_all, list_any}
use Rattle.bk_num.specs.Written.{most_whole}
use Rattle.css_tok.specs.declared.kind.CssKind.TheVariants as kind
use Rattle.css_tok.specs.Lengths.{sign_len, number_len}
use Rattle.css_tok.specs.Numbers.{unit_of}
use Rattle.css_tok.specs.Plain.{plain_of}
use Rattle.css_tok.specs.Tokens.{Item}
use Rattle.css_words.specs.Parser.{Parser, ◌>>=◌, ◌>>◌, pure, refuse, on_some, peek, second, advance, spaces}
use Rattle.css_words.specs.Words.{is_kind, of_kind, is_mark, is_named, value}
use Rattle.selectors.specs.declared.an_plus_b.AfterN.{AfterN}
use Rattle.selectors.specs.declared.an_plus_b.AfterN.TheVariants as after

-- the number that digits write, where one above the greatest whole number is that
unfoldable pub number_from : ℕ → List ℕ → ℕ
number_from n [] = n
number_from n (d ∷ ds) = number_from (min most_whole (n * 10 + (d - 48))) ds

-- the whole number of a sign, if there is one, and digits
abbrev pub size_of : List ℕ → ℕ
size_of bs = number_from 0 (drop (sign_len bs) bs)

-- the whole number that is written, with its sign
unfoldable pub whole_of : List ℕ → ℤ
whole_of bs = if slice_index bs 0 == 45 then neg_ℤ (pos (size_of bs)) else pos (size_of bs)

-- a point stands in it
abbrev pub has_point : List ℕ → Bool
has_point bs = list_any (λ b. b == 46) bs

-- <integer>, and whether it has a sign (<signed-integer>, <signless-integer>)
unfoldable pub is_integer : Option Item → Bool
is_integer None = false
is_integer (Some t) = is_kind kind.Number t.kind && not (has_point t.slice)

-- a number that is written with a sign
unfoldable pub is_signed : Option Item → Bool
is_signed None = false
is_signed (Some t) = not (sign_len t.slice == 0)

-- the whole number of a token
unfoldable pub integer : Option Item → ℤ
integer None = pos 0
integer (Some t) = whole_of t.slice

-- the number of a token without a sign
unfoldable pub digits : Option Item → ℕ
digits None = 0
digits (Some t) = number_from 0 t.slice

-- a Dimension whose number is whole, that number, and what its unit says
abbrev pub number_in : List ℕ → List ℕ
number_in bs = take (number_len bs) bs

-- a Dimension whose number is whole
unfoldable pub is_step : Option Item → Bool
is_step None = false
is_step (Some t) = is_kind kind.Dimension t.kind && not (has_point (number_in t.slice))

-- its number
unfoldable pub step : Option Item → ℤ
step None = pos 0
step (Some t) = whole_of (number_in t.slice)

-- the unit of a token as it is written
abbrev pub unit_slice : Option Item → List ℕ
unit_slice None = []
unit_slice (Some t) = unit_of t.slice

-- the unit of a token, its escapes undone
unfoldable pub unit : Option Item → List ℕ
unit t = plain_of (unit_slice t)

-- what follows `n-` in a name or a unit: nothing, or the digits of B
abbrev pub after_minus : List ℕ → Option AfterN
after_minus bs =
    if length bs == 0 then Some after.Digits
    else (if list_all is_ascii_digit bs then Some (after.Nothing (neg_ℤ (pos (number_from 0 bs)))) else None)

-- what follows `n`: nothing, or `-` and more
abbrev pub after_letter : List ℕ → Option AfterN
after_letter bs =
    if length bs == 0 then Some after.Anything else (if slice_index bs 0 == 45 then after_minus (drop 1 bs) else None)

-- what follows `n`, `n-`, or `n-` and digits, in a name or a unit that is this
unfoldable pub after_n : List ℕ → Option AfterN
after_n bs = if slice_index bs 0 == 110 || slice_index bs 0 == 78 then after_letter (drop 1 bs) else None

-- <signless-integer>, after white space
unfoldable pub signless : Parser ℕ
signless = do
  spaces
  t ← peek
  if is_integer t && not (is_signed t) then (advance >> pure (digits t)) else refuse

-- <signed-integer>, or `+` or `-` and <signless-integer>, or nothing
unfoldable pub signed_or_none : ℤ → Parser (ℤ × ℤ)
signed_or_none a = do
  spaces
  t ← peek
  if is_integer t && is_signed t then (advance >> pure (a, integer t))
      else (if is_mark 43 t then (advance >> (signless >>= (λ b. pure (a, pos b))))
      else (if is_mark 45 t then (advance >> (signless >>= (λ b. pure (a, neg_ℤ (pos b)))))
      else pure (a, pos 0)))

-- B, as far as it doesn't stand in the same token as `n`
abbrev pub rest_of_b : ℤ → AfterN → Parser (ℤ × ℤ)
rest_of_b a after.Anything = signed_or_none a
rest_of_b a after.Digits = signless >>= (λ b. pure (a, neg_ℤ (pos b)))
rest_of_b a (after.Nothing b) = pure (a, b)

-- A and what follows its `n`
unfoldable pub with_n : ℤ → List ℕ → Parser (ℤ × ℤ)
with_n a text = on_some (after_n text) refuse (λ n. advance >> rest_of_b a n)

-- a name that is `n..` or `-n..`
unfoldable pub named_n : List ℕ → Parser (ℤ × ℤ)
named_n text = if slice_index text 0 == 45 then with_n (neg_ℤ (pos 1)) (drop 1 text) else with_n (pos 1) text

-- An+B that doesn't begin with a name, or <integer>; between a `+` and `n` stands no white space
unfoldable pub marked_n : Parser (ℤ × ℤ)
marked_n = do
  t ← peek
  s ← second
  if is_mark 43 t && of_kind kind.Ident s then (advance >> with_n (pos 1) (value s))
      else (if is_step t then with_n (step t) (unit t)
      else (if is_integer t then (advance >> pure (pos 0, integer t)) else refuse))

-- `odd`, `even`, <integer>, or An+B
unfoldable pub an_plus_b : Parser (ℤ × ℤ)
an_plus_b = do
  t ← peek
  if is_named kind.Ident t (codes "odd") then (advance >> pure (pos 2, pos 1))
      else (if is_named kind.Ident t (codes "even") then (advance >> pure (pos 2, pos 0))
      else (if of_kind kind.Ident t then named_n (value t) else marked_n))
