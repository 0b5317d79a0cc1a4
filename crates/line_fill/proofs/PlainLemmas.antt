-- The character that begins at a place where a line may begin plain.
use Rattle.std.proofs.Common.{◌≡◌, ◌≢◌, ℕ, ◌+◌, ◌<◌, true, List, [], ◌∷◌, ◌++◌, length, get_or, drop, Some, refl, sym, ◌∙◌, ap, arith}
use Rattle.std.proofs.Math.Utf8.{encode, encodes}
use Rattle.std.proofs.lemmas.Bool.Decides.{nat_tests}
use Rattle.std.proofs.lemmas.List.{get_or-drop, length-drop}
use Rattle.std.proofs.lemmas.Str.{IsUtf8-drop, encodes-chars}
use Rattle.std.specs.Str.{IsCharBoundary, IsUtf8, chars}
use Rattle.metrics.specs.Widths.{begun_at, char_at, has_width, is_lead, is_paired}
use Rattle.line_fill.specs.Rests.{begins_plain}

-- a character begins at a place that is shown and has a width, and that may stand first in a pair
pub record IsPlain (text : List ℕ) (to : ℕ) : Type 0 where
  pub space : get_or text to 0 ≢ 32
  pub newline : get_or text to 0 ≢ 10
  pub lead : is_lead (get_or text to 0) ≡ true
  pub begun : begun_at text to ≡ Some (char_at text to)
  pub paired : is_paired (char_at text to) ≡ true
  pub wide : has_width (char_at text to) ≡ true

-- a text begins with the bytes of its first character
spelled : (bs : List ℕ) → IsUtf8 bs → 0 < length bs → (rest : List ℕ) × (bs ≡ encode (get_or (chars bs) 0 0) ++ rest)
spelled bs u some = by (chars bs) (encodes-chars bs u)
  where
    by : (cs : List ℕ) → encodes cs ≡ bs → (rest : List ℕ) × (bs ≡ encode (get_or cs 0 0) ++ rest)
    by [] e = let l : 0 ≡ length bs = ap length e in absurd (omega arith)
    by (c ∷ cs) e = (encodes cs, sym e)

newline_byte : (rest : List ℕ) → get_or (encode 10 ++ rest) 0 0 ≡ 10
unfolding encode
newline_byte rest = refl

soft_bytes : (rest : List ℕ) → (get_or (encode 173 ++ rest) 0 0 ≡ 194) × (get_or (encode 173 ++ rest) 1 0 ≡ 173)
unfolding encode
soft_bytes rest = (refl, refl)

space_bytes : (rest : List ℕ) → (get_or (encode 8203 ++ rest) 0 0 ≡ 226) × (get_or (encode 8203 ++ rest) 1 0 ≡ 128) × (get_or (encode 8203 ++ rest) 2 0 ≡ 139)
unfolding encode
space_bytes rest = (refl, refl, refl)

-- what the test tells of the bytes
module _ (text : List ℕ) (to : ℕ) (plain : begins_plain text to ≡ true) where
  byte_space : get_or text to 0 ≢ 32
  unfolding begins_plain
  byte_space e = grind (arith, nat_tests)

  byte_newline : get_or text to 0 ≢ 10
  unfolding begins_plain
  byte_newline e = grind (arith, nat_tests)

  bytes_soft : get_or text to 0 ≡ 194 → get_or text (to + 1) 0 ≡ 173 → ⊥
  unfolding begins_plain
  bytes_soft e f = grind (arith, nat_tests)

  bytes_zero : get_or text to 0 ≡ 226 → get_or text (to + 1) 0 ≡ 128 → get_or text (to + 2) 0 ≡ 139 → ⊥
  unfolding begins_plain
  bytes_zero e f g = grind (arith, nat_tests)

-- and of the character
module _ (text : List ℕ) (to : ℕ) (plain : begins_plain text to ≡ true) (utf8 : IsUtf8 text) (bound : IsCharBoundary text to) (within : to < length text) where
  after_at : (rest : List ℕ) × (drop to text ≡ encode (char_at text to) ++ rest)
  unfolding char_at
  after_at = spelled (drop to text) (IsUtf8-drop text to utf8 bound) (let l = length-drop to text in omega (arith, l))

  byte_at : (c k : ℕ) → char_at text to ≡ c → get_or text (to + k) 0 ≡ get_or (encode c ++ after_at.0) k 0
  byte_at c k e = sym (get_or-drop to text k 0) ∙ ap (λ (bs : List ℕ). get_or bs k 0) (after_at.1 ∙ ap (λ (x : ℕ). encode x ++ after_at.0) e)

  first_byte : (c : ℕ) → char_at text to ≡ c → get_or text to 0 ≡ get_or (encode c ++ after_at.0) 0 0
  first_byte c e = let z : to + 0 ≡ to = omega arith in rw z at (byte_at c 0 e)

  not_newline : char_at text to ≢ 10
  not_newline e = byte_newline text to plain (first_byte 10 e ∙ newline_byte after_at.0)

  not_soft : char_at text to ≢ 173
  not_soft e = let b = soft_bytes after_at.0 in bytes_soft text to plain (first_byte 173 e ∙ b.0) (byte_at 173 1 e ∙ b.1)

  not_zero : char_at text to ≢ 8203
  not_zero e =
      let b = space_bytes after_at.0 in
      bytes_zero text to plain (first_byte 8203 e ∙ b.0) (byte_at 8203 1 e ∙ b.1) (byte_at 8203 2 e ∙ b.2)

  is_led : is_lead (get_or text to 0) ≡ true
  unfolding is_lead
  is_led = let h = bound.1 within in grind (arith, nat_tests)

  is_begun : begun_at text to ≡ Some (char_at text to)
  unfolding begun_at
  is_begun = rw is_led refl

  is_first : is_paired (char_at text to) ≡ true
  unfolding is_paired
  is_first = let a = not_soft in let b = not_zero in grind (arith, nat_tests)

  is_wide : has_width (char_at text to) ≡ true
  unfolding has_width
  is_wide = let a = not_soft in let b = not_zero in let c = not_newline in grind (arith, nat_tests)

  pub plain-at : IsPlain text to
  plain-at = record {
    space = byte_space text to plain;
    newline = byte_newline text to plain;
    lead = is_led;
    begun = is_begun;
    paired = is_first;
    wide = is_wide;
  }
