-- Undoing escapes, a part at a time.
use Rattle.std.proofs.Common.{◌≡◌, ℕ, zero, suc, ◌+◌, ◌<◌, true, false, cond, List, [], ◌∷◌, ◌++◌, take, drop, length, get_or, refl, ap, sym, ◌∙◌, arith, inl, inr, ◌||◌, ◌&&◌, eqb, subst, append-nil}
use Rattle.std.proofs.lemmas.Bool.{cases_Bool, eqb-true, eq-eqb, or_cases, and_parts}
use Rattle.std.proofs.lemmas.Bool.Decides.{nat_tests}
use Rattle.std.proofs.lemmas.Str.{IsCharBoundary-start, IsCharBoundary-after_ascii, encode_ascii}
use Rattle.std.specs.Str.{IsUtf8, IsCharBoundary}
use Rattle.std.specs.Str.Parse.{IsNumeral, AllDigits, digits_value}
use Rattle.std.specs.Char.{is_ascii_hexdigit, encode_utf8, digit_value}
use Rattle.std.specs.List.{prefix_len}
use Rattle.std.proofs.lemmas.List.{nil_from_length}
use Rattle.css_tok.specs.declared.lengths.Class.TheVariants as class
use Rattle.css_tok.specs.Lengths.{unit_len, run_from, run_len, is_newline, newline_len, blank_len, hex_len, escape_len, quoted_len}
use Rattle.bk_num.specs.Written.{character_of}
use Rattle.css_tok.specs.Plain.{plain_from, plain_of, escaped}
use Rattle.css_tok.proofs.Boundaries.{behind, past_ascii, join, after_byte, run_cut, StopsAtAscii, rest_utf8, if_cut, newline_low}

pub plain_from-drop : (n : ℕ) (bs : List ℕ) → plain_from n bs ≡ plain_from 0 (drop n bs)
unfolding plain_from
plain_from-drop zero bs = refl
plain_from-drop (suc n) [] = refl
plain_from-drop (suc n) (b ∷ bs) = plain_from-drop n bs

-- the text up to a `\` stays as it is
pub plain_run : (bs : List ℕ) → plain_of bs ≡ take (run_len class.Plain bs) bs ++ plain_of (drop (run_len class.Plain bs) bs)
unfolding plain_of plain_from run_from unit_len
plain_run [] = refl
plain_run (b ∷ bs) = elim (cases_Bool (eqb b 92)) [
  | inl slash ↦ rw slash (rw slash refl)
  | inr other ↦ rw other (ap (λ z. b ∷ z) (plain_run bs))
]

pub plain_stops : StopsAtAscii class.Plain
unfolding unit_len
plain_stops b bs none = elim (cases_Bool (eqb b 92)) [
  | inl slash ↦ (let e : b ≡ 92 = eqb-true b 92 slash in omega arith)
  | inr other ↦ absurd (let h : 1 ≡ 0 = rw other at none in omega arith)
]

pub plain_cut : (bs : List ℕ) → IsCharBoundary bs (run_len class.Plain bs)
plain_cut bs = run_cut class.Plain plain_stops 0 bs

-- what such a run leaves is empty, or begins with `\`
pub plain_end : (bs : List ℕ) → 0 < length (drop (run_len class.Plain bs) bs) → get_or (drop (run_len class.Plain bs) bs) 0 0 ≡ 92
unfolding run_from unit_len
plain_end [] some = absurd (omega arith)
plain_end (b ∷ bs) some = elim (cases_Bool (eqb b 92)) [
  | inl slash ↦ rw slash (eqb-true b 92 slash)
  | inr other ↦ (let h : 0 < length (drop (run_len class.Plain bs) bs) = rw other at some in rw other (plain_end bs h))
]

pub plain_escape : (bs : List ℕ) → 0 < length bs → get_or bs 0 0 ≡ 92 → plain_of bs ≡ escaped (drop 1 bs) ++ plain_from (quoted_len (drop 1 bs)) (drop 1 bs)
unfolding plain_of plain_from
plain_escape [] some is = absurd (omega arith)
plain_escape (b ∷ bs) some is = rw (eq-eqb b 92 is)

plain_nil : plain_of [] ≡ []
unfolding plain_of plain_from
plain_nil = refl

-- a text cut where its first `\` is
pub run_only : (bs front rest : List ℕ) (n : ℕ) → n ≡ run_len class.Plain bs → front ≡ take n bs → rest ≡ drop n bs → length rest ≡ 0 → plain_of bs ≡ front
run_only bs front rest n is cut left none =
    let e : drop (run_len class.Plain bs) bs ≡ [] = sym (left ∙ ap (λ k. drop k bs) is) ∙ nil_from_length rest none in
    plain_run bs ∙ ap (λ z. take (run_len class.Plain bs) bs ++ z) (ap plain_of e ∙ plain_nil) ∙ append-nil (take (run_len class.Plain bs) bs) ∙ sym (cut ∙ ap (λ k. take k bs) is)

pub rest_slash : (bs rest : List ℕ) (n : ℕ) → n ≡ run_len class.Plain bs → rest ≡ drop n bs → 0 < length rest → get_or rest 0 0 ≡ 92
rest_slash bs rest n is left some =
    let e : rest ≡ drop (run_len class.Plain bs) bs = left ∙ ap (λ k. drop k bs) is in
    subst (λ z. get_or z 0 0 ≡ 92) (sym e) (plain_end bs (subst (λ z. 0 < length z) e some))

pub run_then : (bs front rest after : List ℕ) (n : ℕ) → n ≡ run_len class.Plain bs → front ≡ take n bs → rest ≡ drop n bs → 0 < length rest → after ≡ drop 1 rest → plain_of bs ≡ front ++ (escaped after ++ plain_from (quoted_len after) after)
run_then bs front rest after n is cut left some past =
    let e : rest ≡ drop (run_len class.Plain bs) bs = left ∙ ap (λ k. drop k bs) is in
    let f : plain_of rest ≡ escaped after ++ plain_from (quoted_len after) after = plain_escape rest some (rest_slash bs rest n is left some) ∙ ap (λ z. escaped z ++ plain_from (quoted_len z) z) (sym past) in
    plain_run bs ∙ ap (λ z. take (run_len class.Plain bs) bs ++ plain_of z) (sym e) ∙ ap (λ z. z ++ plain_of rest) (sym (cut ∙ ap (λ k. take k bs) is)) ∙ ap (λ z. front ++ z) f

-- the cases of an escape
pub hex_escaped : (bs : List ℕ) → is_ascii_hexdigit (get_or bs 0 0) ≡ true → escaped bs ≡ encode_utf8 (character_of (digits_value 16 (take (hex_len bs) bs)))
unfolding escaped
hex_escaped [] hex = cc
hex_escaped (b ∷ bs) hex = let other : is_newline b ≡ false = grind (arith, nat_tests) in rw (other, hex)

pub newline_escaped : (bs : List ℕ) → is_newline (get_or bs 0 0) ≡ true → escaped bs ≡ []
unfolding escaped
newline_escaped [] newline = cc
newline_escaped (b ∷ bs) newline = rw newline

-- a newline is passed whole
pub newline_quoted : (bs : List ℕ) → is_newline (get_or bs 0 0) ≡ true → quoted_len bs ≡ newline_len bs
unfolding newline_len
newline_quoted bs newline = elim (cases_Bool (eqb (get_or bs 0 0) 13 && eqb (get_or bs 1 0) 10)) [ inl two ↦ rw two | inr one ↦ rw (one, newline) ]

no_newline : (bs : List ℕ) → is_newline (get_or bs 0 0) ≡ false → newline_len bs ≡ 0
unfolding newline_len
no_newline bs other = let e : (eqb (get_or bs 0 0) 13 && eqb (get_or bs 1 0) 10) ≡ false = grind (arith, nat_tests) in rw (e, other)

pub hex_quoted : (bs : List ℕ) → is_ascii_hexdigit (get_or bs 0 0) ≡ true → quoted_len bs ≡ escape_len bs
hex_quoted bs hex = let other : is_newline (get_or bs 0 0) ≡ false = grind (arith, nat_tests) in rw (no_newline bs other)

pub none_escaped : (bs : List ℕ) → length bs ≡ 0 → escaped bs ++ plain_from (quoted_len bs) bs ≡ 92 ∷ plain_of bs
unfolding escaped plain_of plain_from
none_escaped [] none = refl
none_escaped (b ∷ bs) none = absurd (omega arith)

-- a character stands for itself
pub other_escaped : (bs : List ℕ) → 0 < length bs → is_newline (get_or bs 0 0) ≡ false → is_ascii_hexdigit (get_or bs 0 0) ≡ false → escaped bs ++ plain_from (quoted_len bs) bs ≡ get_or bs 0 0 ∷ plain_of (drop 1 bs)
unfolding escaped plain_of plain_from escape_len
other_escaped [] some newline hex = absurd (omega arith)
other_escaped (b ∷ bs) some newline hex = rw (no_newline (b ∷ bs) newline, newline, hex)

-- a character other than `\` goes on the plain text
pub plain_first : (bs : List ℕ) → 0 < length bs → eqb (get_or bs 0 0) 92 ≡ false → get_or bs 0 0 ∷ plain_of (drop 1 bs) ≡ plain_of bs
unfolding plain_of plain_from
plain_first [] some other = absurd (omega arith)
plain_first (b ∷ bs) some other = rw other

-- where an escape may be cut
hex_low : (b : ℕ) → is_ascii_hexdigit b ≡ true → b < 128
hex_low b hex = grind (arith, nat_tests)

hexes_cut : (k : ℕ) (bs : List ℕ) → IsUtf8 bs → IsCharBoundary bs (prefix_len is_ascii_hexdigit (take k bs))
hexes_cut zero bs utf8 = IsCharBoundary-start bs utf8
hexes_cut (suc k) [] utf8 = IsCharBoundary-start [] utf8
hexes_cut (suc k) (b ∷ bs) utf8 = elim (cases_Bool (is_ascii_hexdigit b)) [
  | inl hex ↦ rw hex (let more : IsCharBoundary (b ∷ bs) (suc (prefix_len is_ascii_hexdigit (take k bs))) = behind b (prefix_len is_ascii_hexdigit (take k bs)) bs (hexes_cut k bs (past_ascii b bs utf8 (hex_low b hex))) in
      let e : suc (prefix_len is_ascii_hexdigit (take k bs)) ≡ 1 + prefix_len is_ascii_hexdigit (take k bs) = omega arith in
      subst (λ n. IsCharBoundary (b ∷ bs) n) e more)
  | inr other ↦ rw other (IsCharBoundary-start (b ∷ bs) utf8)
]

pub hex_cut : (bs : List ℕ) → IsUtf8 bs → IsCharBoundary bs (hex_len bs)
unfolding hex_len
hex_cut bs utf8 = hexes_cut 6 bs utf8

pub newline_cut : (bs : List ℕ) → IsUtf8 bs → IsCharBoundary bs (newline_len bs)
unfolding newline_len
newline_cut bs utf8 =
    if_cut bs (eqb (get_or bs 0 0) 13 && eqb (get_or bs 1 0) 10) 2 (cond (is_newline (get_or bs 0 0)) 1 0)
    (λ two. after_byte bs 1 10 utf8 (omega arith) (omega arith) (and_parts (eqb (get_or bs 0 0) 13) (eqb (get_or bs 1 0) 10) two).1)
    (λ _. if_cut bs (is_newline (get_or bs 0 0)) 1 0 (λ newline. one_cut bs utf8 newline) (λ _. IsCharBoundary-start bs utf8))
  where
    one_cut : (bs : List ℕ) → IsUtf8 bs → is_newline (get_or bs 0 0) ≡ true → IsCharBoundary bs 1
    one_cut [] utf8 newline = cc
    one_cut (b ∷ bs) utf8 newline = IsCharBoundary-after_ascii (b ∷ bs) 0 utf8 (omega arith) (newline_low b newline)

blank_cut : (bs : List ℕ) → IsUtf8 bs → IsCharBoundary bs (blank_len bs)
unfolding blank_len
blank_cut bs utf8 =
    if_cut bs (eqb (get_or bs 0 0) 32 || eqb (get_or bs 0 0) 9) 1 (newline_len bs)
    (λ blank. elim (or_cases (eqb (get_or bs 0 0) 32) (eqb (get_or bs 0 0) 9) blank) [
      | inl space ↦ after_byte bs 0 32 utf8 (omega arith) (omega arith) space
      | inr tab ↦ after_byte bs 0 9 utf8 (omega arith) (omega arith) tab
    ])
    (λ _. newline_cut bs utf8)

pub escape_cut : (bs : List ℕ) → IsUtf8 bs → is_ascii_hexdigit (get_or bs 0 0) ≡ true → IsCharBoundary bs (escape_len bs)
unfolding escape_len
escape_cut [] utf8 hex = IsCharBoundary-start [] utf8
escape_cut (b ∷ bs) utf8 hex = rw hex (let digits = hex_cut (b ∷ bs) utf8 in join (b ∷ bs) (hex_len (b ∷ bs)) (blank_len (drop (hex_len (b ∷ bs)) (b ∷ bs))) digits (blank_cut (drop (hex_len (b ∷ bs)) (b ∷ bs)) (rest_utf8 (b ∷ bs) (hex_len (b ∷ bs)) utf8 digits)))

hex_digit : (b : ℕ) → is_ascii_hexdigit b ≡ true → digit_value b < 16
hex_digit b hex = grind (arith, nat_tests)

hexes : (k : ℕ) (bs : List ℕ) → AllDigits 16 (take (prefix_len is_ascii_hexdigit (take k bs)) bs)
hexes zero bs = tt
hexes (suc k) [] = tt
hexes (suc k) (b ∷ bs) = elim (cases_Bool (is_ascii_hexdigit b)) [
  | inl hex ↦ rw hex (let e : suc (prefix_len is_ascii_hexdigit (take k bs)) ≡ 1 + prefix_len is_ascii_hexdigit (take k bs) = omega arith in
      subst (λ n. AllDigits 16 (take n (b ∷ bs))) e (more b (prefix_len is_ascii_hexdigit (take k bs)) bs hex (hexes k bs)))
  | inr other ↦ rw other tt
]
  where
    more : (b n : ℕ) (bs : List ℕ) → is_ascii_hexdigit b ≡ true → AllDigits 16 (take n bs) → AllDigits 16 (take (suc n) (b ∷ bs))
    more b n bs hex rest = (hex_digit b hex, rest)

take_some : (n b : ℕ) (bs : List ℕ) → 0 < n → 0 < length (take n (b ∷ bs))
take_some zero b bs some = absurd (omega arith)
take_some (suc n) b bs some = omega arith

hexes_some : (k b : ℕ) (bs : List ℕ) → is_ascii_hexdigit b ≡ true → 0 < prefix_len is_ascii_hexdigit (take (suc k) (b ∷ bs))
hexes_some k b bs hex = rw hex (omega arith)

pub hex_numeral : (bs : List ℕ) → is_ascii_hexdigit (get_or bs 0 0) ≡ true → IsNumeral 16 (take (hex_len bs) bs)
unfolding hex_len
hex_numeral [] hex = cc
hex_numeral (b ∷ bs) hex = (take_some (prefix_len is_ascii_hexdigit (take 6 (b ∷ bs))) b bs (hexes_some 5 b bs hex), hexes 6 (b ∷ bs))

-- what the reader answers in each case
pub hex_step : (bs : List ℕ) → is_ascii_hexdigit (get_or bs 0 0) ≡ true → (ds : List ℕ) (c n k : ℕ) → n ≡ quoted_len bs → k ≡ hex_len bs → ds ≡ take k bs → c ≡ character_of (digits_value 16 ds) → escaped bs ++ plain_from (quoted_len bs) bs ≡ encode_utf8 c ++ plain_of (drop n bs)
unfolding plain_of
hex_step bs hex ds c n k len digits cut is =
    let e : encode_utf8 c ≡ escaped bs = ap encode_utf8 (is ∙ ap (λ z. character_of (digits_value 16 z)) (cut ∙ ap (λ m. take m bs) digits)) ∙ sym (hex_escaped bs hex) in
    rw (e, len) (ap (λ z. escaped bs ++ z) (plain_from-drop (quoted_len bs) bs))

pub newline_step : (bs : List ℕ) → is_newline (get_or bs 0 0) ≡ true → (n : ℕ) → n ≡ newline_len bs → escaped bs ++ plain_from (quoted_len bs) bs ≡ plain_of (drop n bs)
unfolding plain_of
newline_step bs newline n len =
    ap (λ z. z ++ plain_from (quoted_len bs) bs) (newline_escaped bs newline) ∙ plain_from-drop (quoted_len bs) bs ∙ ap (λ m. plain_from 0 (drop m bs)) (newline_quoted bs newline ∙ sym len)

pub none_step : (bs : List ℕ) → length bs ≡ 0 → escaped bs ++ plain_from (quoted_len bs) bs ≡ encode_utf8 92 ++ plain_of bs
none_step bs none = none_escaped bs none ∙ ap (λ z. z ++ plain_of bs) (sym (encode_ascii 92 (omega arith)))

pub slash_step : (bs : List ℕ) → 0 < length bs → get_or bs 0 0 ≡ 92 → escaped bs ++ plain_from (quoted_len bs) bs ≡ encode_utf8 92 ++ plain_of (drop 1 bs)
slash_step bs some is =
    let hex : is_ascii_hexdigit (get_or bs 0 0) ≡ false = rw is in
    let newline : is_newline (get_or bs 0 0) ≡ false = rw is in
    other_escaped bs some newline hex ∙ ap (λ b. b ∷ plain_of (drop 1 bs)) is ∙ ap (λ z. z ++ plain_of (drop 1 bs)) (sym (encode_ascii 92 (omega arith)))

pub other_step : (bs : List ℕ) → 0 < length bs → is_newline (get_or bs 0 0) ≡ false → is_ascii_hexdigit (get_or bs 0 0) ≡ false → eqb (get_or bs 0 0) 92 ≡ false → escaped bs ++ plain_from (quoted_len bs) bs ≡ plain_of bs
other_step bs some newline hex other = other_escaped bs some newline hex ∙ plain_first bs some other
