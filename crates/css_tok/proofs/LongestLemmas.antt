-- No kind has a longer reading than the token at the start of a text.
use Rattle.std.proofs.Common.{◌≡◌, ◌⊎◌, inl, inr, ℕ, zero, suc, ◌+◌, ◌<◌, ◌≤◌, Bool, true, false, not, cond, ◌&&◌, ◌||◌, eqb, ltb, List, [], ◌∷◌, ◌++◌, drop, take, length, get_or, refl, sym, ◌∙◌, ap, subst, arith, codes, ◌==◌, zero-le, get_or-drop}
use Rattle.std.proofs.lemmas.Bool.{cases_lt, cases_Bool, cond_both, and_parts, eqb-true, ne_eqb, eq-eqb, not-true}
use Rattle.std.proofs.lemmas.Bool.Decides.{nat_tests}
use Rattle.std.proofs.lemmas.List.{get_or_past, take-append-drop}
use Rattle.std.proofs.lemmas.Slice.Eq.{bytes_eq-Decides}
use Rattle.std.specs.Str.{bytes_eq, str_eq_ignore_ascii_case}
use Rattle.std.specs.Char.{is_ascii_digit, to_ascii_lowercase}
use Rattle.css_tok.specs.declared.kind.CssKind.{CssKind}
use Rattle.css_tok.specs.declared.kind.CssKind.TheVariants as kind
use Rattle.css_tok.specs.declared.lengths.Class.TheVariants as class
use Rattle.bk_num.specs.Chars.{is_quote}
use Rattle.css_tok.specs.Lengths.{unit_len, run_from, run_len, is_newline, is_blank, is_name, hyphens, begins_name, ident_len, sign_len, fraction_len, unsigned_len, number_len, comment_len, with_backslash, escape_len}
use Rattle.css_tok.specs.Kind.{string_at, numeric_at, url_len, word_at, sign_at, token_at}
use Rattle.css_tok.specs.Readings.{quoted_run, part_byte, two_parts, byte_part, word_len, string_len, bad_string_len, reading_len, NoneIsLonger, OnlyDelimTies}
use Rattle.css_tok.proofs.ReadingLemmas.{is_reading, not_none, some_of}

-- ---- what a reading's first byte excludes

-- the first byte of a number: a digit, a sign or a point
abbrev is_number_byte : ℕ → Bool
is_number_byte b = is_ascii_digit b || b == 43 || b == 45 || b == 46

digit_first : (bs : List ℕ) → 0 < run_len class.Digit bs → is_ascii_digit (get_or bs 0 0) ≡ true
unfolding run_from unit_len
digit_first [] h = absurd (omega arith)
digit_first (b ∷ bs) h = elim (cases_Bool (is_ascii_digit b)) [
  | inl digit ↦ digit
  | inr other ↦ absurd (let e : run_len class.Digit (b ∷ bs) ≡ 0 = rw other refl in omega (arith, h, e))
]

point_first : (bs : List ℕ) → 0 < fraction_len bs → eqb (get_or bs 0 0) 46 ≡ true
unfolding fraction_len
point_first bs h = elim (cases_Bool (eqb (get_or bs 0 0) 46)) [
  | inl point ↦ point
  | inr other ↦ absurd (let e : fraction_len bs ≡ 0 = rw other refl in omega (arith, h, e))
]

unsigned_first : (bs : List ℕ) → 0 < unsigned_len bs → (is_ascii_digit (get_or bs 0 0) || eqb (get_or bs 0 0) 46) ≡ true
unfolding unsigned_len
unsigned_first bs h = by (run_len class.Digit bs) refl h
  where
    by : (n : ℕ) → run_len class.Digit bs ≡ n → 0 < n + fraction_len (drop n bs) → (is_ascii_digit (get_or bs 0 0) || eqb (get_or bs 0 0) 46) ≡ true
    by zero e k = let point = point_first bs (omega (arith, k)) in grind (arith, nat_tests, point)
    by (suc n) e k = let digit = digit_first bs (omega (arith, e)) in rw digit refl

number_first : (bs : List ℕ) → 0 < number_len bs → is_number_byte (get_or bs 0 0) ≡ true
unfolding number_len sign_len
number_first bs h = elim (cases_Bool (eqb (get_or bs 0 0) 43 || eqb (get_or bs 0 0) 45)) [
  | inl sign ↦ grind (arith, nat_tests, sign)
  | inr none ↦ (let k : 0 < unsigned_len bs = some_unsigned (unsigned_len bs) (rw none at h) in let u = unsigned_first bs k in grind (arith, nat_tests, u))
]
  where
    some_unsigned : (n : ℕ) → 0 < cond (eqb n 0) 0 (0 + n) → 0 < n
    some_unsigned zero g = g
    some_unsigned (suc n) g = omega arith

number_token : (bs : List ℕ) → 0 < number_len bs → token_at bs ≡ numeric_at bs
unfolding token_at
number_token bs h =
    let f = number_first bs h in
    let blank : is_blank (get_or bs 0 0) ≡ false = grind (arith, nat_tests, f) in
    let quote : is_quote (get_or bs 0 0) ≡ false = grind (arith, nat_tests, f) in
    let slash : eqb (get_or bs 0 0) 47 ≡ false = grind (arith, nat_tests, f) in
    let more : ltb 0 (number_len bs) ≡ true = grind (arith, nat_tests) in
    rw (blank, quote, slash, more) refl

-- a name begins with a letter, `_`, a `\` or a byte from 128 on
start_high : (b : ℕ) → is_name b ≡ true ⊎ (b ≡ 92) → (is_ascii_digit b || eqb b 45) ≡ false → 65 ≤ b
start_high b (inl name) other = grind (arith, nat_tests, name, other)
start_high b (inr e) other = omega arith

begins_high : (bs : List ℕ) → begins_name bs ≡ true → 65 ≤ get_or bs 0 0
unfolding begins_name unit_len
begins_high [] h = cc
begins_high (b ∷ bs) h = by (is_name b) (eqb b 92) refl refl both.1
  where
    both : ((not (is_ascii_digit b || eqb b 45)) ≡ true) × (ltb 0 (cond (is_name b) 1 (cond (eqb b 92) (with_backslash (escape_len bs)) 0)) ≡ true)
    both = and_parts (not (is_ascii_digit b || eqb b 45)) (ltb 0 (cond (is_name b) 1 (cond (eqb b 92) (with_backslash (escape_len bs)) 0))) h

    other : (is_ascii_digit b || eqb b 45) ≡ false
    other = let x = both.0 in not-true (is_ascii_digit b || eqb b 45) x

    by : (n e : Bool) → is_name b ≡ n → eqb b 92 ≡ e → ltb 0 (cond n 1 (cond e (with_backslash (escape_len bs)) 0)) ≡ true → 65 ≤ b
    by true e name slash k = start_high b (inl name) other
    by false true name slash k = start_high b (inr (eqb-true b 92 slash)) other
    by false false name slash k = cc

ident_begins : (bs : List ℕ) → 0 < ident_len bs → begins_name (drop (hyphens bs) bs) ≡ true
unfolding ident_len
ident_begins bs h = elim (cases_Bool (begins_name (drop (hyphens bs) bs))) [
  | inl begins ↦ begins
  | inr none ↦ absurd (let e : ident_len bs ≡ 0 = rw none refl in omega (arith, h, e))
]

high_unsigned : (b : ℕ) (bs : List ℕ) → 65 ≤ b → unsigned_len (b ∷ bs) ≡ 0
unfolding unsigned_len run_from unit_len fraction_len
high_unsigned b bs h =
    let digit : is_ascii_digit b ≡ false = grind (arith, nat_tests) in
    rw (digit, ne_eqb b 46 (λ e. omega arith)) refl

high_token : (b : ℕ) (bs : List ℕ) → 65 ≤ b → token_at (b ∷ bs) ≡ word_at (b ∷ bs)
unfolding token_at sign_at number_len sign_len
high_token b bs h =
    let blank : is_blank b ≡ false = grind (arith, nat_tests) in
    let u = high_unsigned b bs h in
    rw (blank, ne_eqb b 34 (λ e. omega arith), ne_eqb b 39 (λ e. omega arith), ne_eqb b 47 (λ e. omega arith), ne_eqb b 43 (λ e. omega arith), ne_eqb b 45 (λ e. omega arith), u, ne_eqb b 60 (λ e. omega arith), ne_eqb b 64 (λ e. omega arith), ne_eqb b 35 (λ e. omega arith)) refl

hyphen_token : (b : ℕ) (bs : List ℕ) → 65 ≤ b → token_at (45 ∷ b ∷ bs) ≡ word_at (45 ∷ b ∷ bs)
unfolding token_at sign_at number_len sign_len
hyphen_token b bs h = rw (high_unsigned b bs h, ne_eqb b 45 (λ e. omega arith)) refl

hyphens_token : (b : ℕ) (bs : List ℕ) → 65 ≤ b → token_at (45 ∷ 45 ∷ b ∷ bs) ≡ word_at (45 ∷ 45 ∷ b ∷ bs)
unfolding token_at sign_at number_len sign_len unsigned_len run_from unit_len fraction_len
hyphens_token b bs h = rw (ne_eqb b 62 (λ e. omega arith)) refl

after_hyphens : (bs : List ℕ) → begins_name bs ≡ true → token_at (45 ∷ 45 ∷ bs) ≡ word_at (45 ∷ 45 ∷ bs)
after_hyphens [] h = absurd (let l = begins_high [] h in omega (arith, l))
after_hyphens (b ∷ bs) h = hyphens_token b bs (begins_high (b ∷ bs) h)

after_hyphen : (bs : List ℕ) → begins_name (drop (hyphens (45 ∷ bs)) (45 ∷ bs)) ≡ true → token_at (45 ∷ bs) ≡ word_at (45 ∷ bs)
unfolding hyphens
after_hyphen [] h = absurd (let l = begins_high [] h in omega (arith, l))
after_hyphen (b ∷ bs) h = elim (cases_Bool (eqb b 45)) [
  | inl e ↦ (let same = eqb-true b 45 e in subst (λ x. token_at (45 ∷ x ∷ bs) ≡ word_at (45 ∷ x ∷ bs)) (sym same) (after_hyphens bs (rw e at h)))
  | inr e ↦ hyphen_token b bs (begins_high (b ∷ bs) (rw e at h))
]

begins_token : (bs : List ℕ) → begins_name (drop (hyphens bs) bs) ≡ true → token_at bs ≡ word_at bs
unfolding hyphens
begins_token [] h = absurd (let l = begins_high [] h in omega (arith, l))
begins_token (b ∷ bs) h = elim (cases_Bool (eqb b 45)) [
  | inl e ↦ (let same = eqb-true b 45 e in subst (λ x. token_at (x ∷ bs) ≡ word_at (x ∷ bs)) (sym same) (after_hyphen bs (subst (λ x. begins_name (drop (hyphens (x ∷ bs)) (x ∷ bs)) ≡ true) same h)))
  | inr e ↦ high_token b bs (begins_high (b ∷ bs) (rw e at h))
]

ident_token : (bs : List ℕ) → 0 < ident_len bs → token_at bs ≡ word_at bs
ident_token bs h = begins_token bs (ident_begins bs h)

ident_first : (bs : List ℕ) → 0 < ident_len bs → (get_or bs 0 0 ≡ 45) ⊎ (65 ≤ get_or bs 0 0)
unfolding hyphens
ident_first bs h = elim (cases_Bool (eqb (get_or bs 0 0) 45)) [
  | inl e ↦ inl (eqb-true (get_or bs 0 0) 45 e)
  | inr e ↦ (let b = ident_begins bs h in inr (begins_high bs (rw e at b)))
]

-- ---- addresses

url_parts : (bs : List ℕ) → 0 < url_len bs → (str_eq_ignore_ascii_case (take 4 bs) (codes "url(") ≡ true) × (5 ≤ url_len bs)
unfolding url_len
url_parts bs =
    let a = 4 + run_len class.Blank (drop 4 bs) in
    let b = a + run_len class.Address (drop a bs) in
    let e = b + run_len class.Blank (drop b bs) in
    cond_both (str_eq_ignore_ascii_case (take 4 bs) (codes "url(") && eqb (get_or bs e 0) 41) (e + 1) 0 (λ n. 0 < n → (str_eq_ignore_ascii_case (take 4 bs) (codes "url(") ≡ true) × (5 ≤ n))
    (λ is h. ((and_parts (str_eq_ignore_ascii_case (take 4 bs) (codes "url(")) (eqb (get_or bs e 0) 41) is).0, omega arith))
    (λ is h. absurd (omega arith))

letter : (x l : ℕ) → eqb (to_ascii_lowercase x) l ≡ true → 97 ≤ l → l ≤ 122 → (is_name x ≡ true) × (65 ≤ x)
letter x l e low high = (grind (arith, nat_tests), grind (arith, nat_tests))

parenthesis : (x : ℕ) → eqb (to_ascii_lowercase x) 40 ≡ true → x ≡ 40
parenthesis x e = grind (arith, nat_tests)

run_name : (b : ℕ) (bs : List ℕ) → is_name b ≡ true → run_len class.Name (b ∷ bs) ≡ suc (run_len class.Name bs)
unfolding run_from unit_len
run_name b bs name = rw name refl

run_paren : (bs : List ℕ) → run_len class.Name (40 ∷ bs) ≡ 0
unfolding run_from unit_len
run_paren bs = refl

unit_name : (b : ℕ) (bs : List ℕ) → is_name b ≡ true → unit_len class.Name (b ∷ bs) ≡ 1
unfolding unit_len
unit_name b bs name = rw name refl

begins_letter : (b : ℕ) (bs : List ℕ) → is_name b ≡ true → 65 ≤ b → begins_name (b ∷ bs) ≡ true
unfolding begins_name
begins_letter b bs name high = let digit : is_ascii_digit b ≡ false = grind (arith, nat_tests) in rw (unit_name b bs name, digit, ne_eqb b 45 (λ e. omega (arith, high))) refl

letters_ident : (a b c : ℕ) (bs : List ℕ) → is_name a ≡ true → is_name b ≡ true → is_name c ≡ true → 65 ≤ a → ident_len (a ∷ b ∷ c ∷ 40 ∷ bs) ≡ 3
unfolding ident_len hyphens
letters_ident a b c bs x y z high =
    let run : run_len class.Name (a ∷ b ∷ c ∷ 40 ∷ bs) ≡ 3 = run_name a (b ∷ c ∷ 40 ∷ bs) x ∙ ap suc (run_name b (c ∷ 40 ∷ bs) y ∙ ap suc (run_name c (40 ∷ bs) z ∙ ap suc (run_paren bs))) in
    rw (ne_eqb a 45 (λ e. omega (arith, high)), begins_letter a (b ∷ c ∷ 40 ∷ bs) x high, run) refl

url_name : (bs : List ℕ) → str_eq_ignore_ascii_case (take 4 bs) (codes "url(") ≡ true → (ident_len bs ≡ 3) × (get_or bs 3 0 ≡ 40)
url_name [] h = cc
url_name (a ∷ []) h = let x = (and_parts (eqb (to_ascii_lowercase a) 117) false h).1 in cc
url_name (a ∷ b ∷ []) h =
    let one = (and_parts (eqb (to_ascii_lowercase a) 117) (eqb (to_ascii_lowercase b) 114 && false) h).1 in
    let x = (and_parts (eqb (to_ascii_lowercase b) 114) false one).1 in cc
url_name (a ∷ b ∷ c ∷ []) h =
    let one = (and_parts (eqb (to_ascii_lowercase a) 117) (eqb (to_ascii_lowercase b) 114 && (eqb (to_ascii_lowercase c) 108 && false)) h).1 in
    let two = (and_parts (eqb (to_ascii_lowercase b) 114) (eqb (to_ascii_lowercase c) 108 && false) one).1 in
    let x = (and_parts (eqb (to_ascii_lowercase c) 108) false two).1 in cc
url_name (a ∷ b ∷ c ∷ d ∷ bs) h =
    let one = and_parts (eqb (to_ascii_lowercase a) 117) _ h in
    let two = and_parts (eqb (to_ascii_lowercase b) 114) _ one.1 in
    let three = and_parts (eqb (to_ascii_lowercase c) 108) _ two.1 in
    let four = and_parts (eqb (to_ascii_lowercase d) 40) _ three.1 in
    let u = letter a 117 one.0 (omega arith) (omega arith) in
    let r = letter b 114 two.0 (omega arith) (omega arith) in
    let l = letter c 108 three.0 (omega arith) (omega arith) in
    let p = parenthesis d four.0 in
    (ap (λ x. ident_len (a ∷ b ∷ c ∷ x ∷ bs)) p ∙ letters_ident a b c bs u.0 r.0 l.0 u.1, p)

-- ---- each kind's reading against the token

-- the token is this reading, or longer
abbrev Compares : CssKind → List ℕ → Type 0
Compares k bs = (token_at bs ≡ (k, reading_len k bs)) ⊎ (reading_len k bs < (token_at bs).1)

-- a reading that is one under a condition alone
only_if : (t : Bool) (n : ℕ) → 0 < cond t n 0 → (t ≡ true) × (cond t n 0 ≡ n)
only_if true n h = (refl, refl)
only_if false n h = absurd (omega arith)

space_is : (bs : List ℕ) → 0 < run_len class.Blank bs → token_at bs ≡ (kind.Space, run_len class.Blank bs)
unfolding token_at run_from unit_len
space_is [] h = absurd (omega arith)
space_is (b ∷ bs) h = elim (cases_Bool (is_blank b)) [
  | inl blank ↦ rw blank refl
  | inr other ↦ absurd (let e : run_len class.Blank (b ∷ bs) ≡ 0 = rw other refl in omega (arith, h, e))
]

comment_is : (bs : List ℕ) → 0 < reading_len kind.Comment bs → token_at bs ≡ (kind.Comment, reading_len kind.Comment bs)
unfolding token_at
comment_is bs h =
    let w = only_if (eqb (get_or bs 0 0) 47 && eqb (get_or bs 1 0) 42) (2 + comment_len (drop 2 bs)) h in
    let slash = (and_parts (eqb (get_or bs 0 0) 47) (eqb (get_or bs 1 0) 42) w.0).0 in
    let blank : is_blank (get_or bs 0 0) ≡ false = grind (arith, nat_tests, slash) in
    let quote : is_quote (get_or bs 0 0) ≡ false = grind (arith, nat_tests, slash) in
    let test = w.0 in
    rw (blank, quote, test) refl

string_token : (bs : List ℕ) → is_quote (get_or bs 0 0) ≡ true → token_at bs ≡ string_at bs
unfolding token_at
string_token bs quote = let blank : is_blank (get_or bs 0 0) ≡ false = grind (arith, nat_tests, quote) in rw (blank, quote) refl

string_is : (bs : List ℕ) → 0 < string_len bs → token_at bs ≡ (kind.Str, string_len bs)
unfolding string_at
string_is bs h = string_token bs quote ∙ by (eqb (quoted_run bs + 1) (length bs)) (eqb (get_or bs (quoted_run bs + 1) 0) (get_or bs 0 0)) refl (rw quote at h) ∙ ap (λ n. (kind.Str, n)) (sym (only_if (is_quote (get_or bs 0 0)) _ h).1)
  where
    quote : is_quote (get_or bs 0 0) ≡ true
    quote = (only_if (is_quote (get_or bs 0 0)) _ h).0

    by : (s t : Bool) → eqb (get_or bs (quoted_run bs + 1) 0) (get_or bs 0 0) ≡ t → 0 < cond s (quoted_run bs + 1) (cond t (quoted_run bs + 2) 0) → ◌≡◌ {A = CssKind × ℕ} (cond s (kind.Str, quoted_run bs + 1) (cond (is_newline (get_or bs (quoted_run bs + 1) 0)) (kind.BadStr, quoted_run bs + 1) (kind.Str, quoted_run bs + 2))) (kind.Str, cond s (quoted_run bs + 1) (cond t (quoted_run bs + 2) 0))
    by true t e k = refl
    by false true e k = let same = eqb-true (get_or bs (quoted_run bs + 1) 0) (get_or bs 0 0) e in let line : is_newline (get_or bs 0 0) ≡ false = grind (arith, nat_tests, quote) in rw (same, line) refl
    by false false e k = absurd (omega arith)

bad_string_is : (bs : List ℕ) → 0 < bad_string_len bs → token_at bs ≡ (kind.BadStr, bad_string_len bs)
unfolding string_at
bad_string_is bs h =
    let w = only_if (is_quote (get_or bs 0 0) && is_newline (get_or bs (quoted_run bs + 1) 0)) (quoted_run bs + 1) h in
    let both = and_parts (is_quote (get_or bs 0 0)) (is_newline (get_or bs (quoted_run bs + 1) 0)) w.0 in
    let line = both.1 in
    let apart : eqb (quoted_run bs + 1) (length bs) ≡ false = ne_eqb (quoted_run bs + 1) (length bs) (λ e. let z : get_or bs (quoted_run bs + 1) 0 ≡ 0 = get_or_past bs (quoted_run bs + 1) 0 (omega (arith, e)) in let n : is_newline 0 ≡ true = ap is_newline (sym z) ∙ line in cc) in
    string_token bs both.0 ∙ rw (apart, line, both.0) refl

number_is : (bs : List ℕ) → 0 < number_len bs → Compares kind.Number bs
unfolding numeric_at
number_is bs h = subst (λ (p : CssKind × ℕ). (p ≡ (kind.Number, number_len bs)) ⊎ (number_len bs < p.1)) (sym (number_token bs h))
    (cond_both (eqb (get_or bs (number_len bs) 0) 37) (kind.Percent, number_len bs + 1) _ (λ p. (p ≡ (kind.Number, number_len bs)) ⊎ (number_len bs < p.1)) (λ _. inr (omega arith))
    (λ _. cond_both (eqb (ident_len (drop (number_len bs) bs)) 0) (kind.Number, number_len bs) (kind.Dimension, number_len bs + ident_len (drop (number_len bs) bs)) (λ p. (p ≡ (kind.Number, number_len bs)) ⊎ (number_len bs < p.1)) (λ _. inl refl)
    (λ unit. let some = some_of (ident_len (drop (number_len bs) bs)) unit in inr (omega (arith, some)))))

-- a part that isn't empty, and this byte behind it
part_byte_parts : (n b : ℕ) (bs : List ℕ) → 0 < part_byte n b bs → (0 < n) × (eqb (get_or bs n 0) b ≡ true) × (part_byte n b bs ≡ n + 1)
part_byte_parts n b bs = by (eqb n 0) (eqb (get_or bs n 0) b) refl refl
  where
    by : (s t : Bool) → eqb n 0 ≡ s → eqb (get_or bs n 0) b ≡ t → 0 < cond s 0 (cond t (n + 1) 0) → (0 < n) × (t ≡ true) × (cond s 0 (cond t (n + 1) 0) ≡ n + 1)
    by true t e f h = absurd (omega arith)
    by false true e f h = (some_of n e, refl, refl)
    by false false e f h = absurd (omega arith)

percent_is : (bs : List ℕ) → 0 < reading_len kind.Percent bs → token_at bs ≡ (kind.Percent, reading_len kind.Percent bs)
unfolding numeric_at
percent_is bs h =
    let w = part_byte_parts (number_len bs) 37 bs h in
    let percent = w.1 in
    number_token bs w.0 ∙ (let e : numeric_at bs ≡ (kind.Percent, number_len bs + 1) = rw percent refl in e) ∙ ap (λ n. (kind.Percent, n)) (sym w.2)

two_parts_some : (n m : ℕ) → 0 < two_parts n m → (0 < n) × (0 < m) × (two_parts n m ≡ n + m)
two_parts_some n m = by (eqb n 0) (eqb m 0) refl refl
  where
    by : (s t : Bool) → eqb n 0 ≡ s → eqb m 0 ≡ t → 0 < cond (s || t) 0 (n + m) → (0 < n) × (0 < m) × (cond (s || t) 0 (n + m) ≡ n + m)
    by true t e f h = absurd (omega arith)
    by false true e f h = absurd (omega arith)
    by false false e f h = (some_of n e, some_of m f, refl)

dimension_is : (bs : List ℕ) → 0 < reading_len kind.Dimension bs → token_at bs ≡ (kind.Dimension, reading_len kind.Dimension bs)
unfolding numeric_at
dimension_is bs h =
    let w = two_parts_some (number_len bs) (ident_len (drop (number_len bs) bs)) h in
    let first = subst (λ b. (b ≡ 45) ⊎ (65 ≤ b)) (get_or-drop (number_len bs) bs 0 0) (ident_first (drop (number_len bs) bs) w.1) in
    let here : number_len bs + 0 ≡ number_len bs = omega arith in
    let percent : eqb (get_or bs (number_len bs) 0) 37 ≡ false = ne_eqb (get_or bs (number_len bs) 0) 37 (other (get_or bs (number_len bs) 0) (subst (λ i. (get_or bs i 0 ≡ 45) ⊎ (65 ≤ get_or bs i 0)) here first)) in
    number_token bs w.0 ∙ (let e : numeric_at bs ≡ (kind.Dimension, number_len bs + ident_len (drop (number_len bs) bs)) = rw (percent, not_none (ident_len (drop (number_len bs) bs)) w.1) refl in e) ∙ ap (λ n. (kind.Dimension, n)) (sym w.2)
  where
    other : (b : ℕ) → (b ≡ 45) ⊎ (65 ≤ b) → b ≡ 37 → ⊥
    other b (inl e) f = omega arith
    other b (inr l) f = omega arith

-- ---- names

-- an address is longer than the name and the parenthesis that it begins with
url_more : (bs : List ℕ) → 0 < url_len bs → (ident_len bs + 1 < url_len bs) × (0 < ident_len bs) × (eqb (get_or bs (ident_len bs) 0) 40 ≡ true)
url_more bs h =
    let w = url_parts bs h in
    let n = url_name bs w.0 in
    let three = n.0 in
    let long = w.1 in
    (omega (arith, three, long), omega (arith, three), rw three (eq-eqb (get_or bs 3 0) 40 n.1))

ident_is : (bs : List ℕ) → 0 < ident_len bs → Compares kind.Ident bs
unfolding word_at
ident_is bs h = subst (λ (p : CssKind × ℕ). (p ≡ (kind.Ident, ident_len bs)) ⊎ (ident_len bs < p.1)) (sym (ident_token bs h))
    (rw (not_none (ident_len bs) h) (cond_both (eqb (get_or bs (ident_len bs) 0) 40) _ (kind.Ident, ident_len bs) (λ p. (p ≡ (kind.Ident, ident_len bs)) ⊎ (ident_len bs < p.1))
    (λ _. cond_both (eqb (url_len bs) 0) (kind.Func, ident_len bs + 1) (kind.Url, url_len bs) (λ p. (p ≡ (kind.Ident, ident_len bs)) ⊎ (ident_len bs < p.1)) (λ _. inr (omega arith)) (λ url. let more = (url_more bs (some_of (url_len bs) url)).0 in inr (omega (arith, more))))
    (λ _. inl refl)))

func_is : (bs : List ℕ) → 0 < reading_len kind.Func bs → Compares kind.Func bs
unfolding word_at
func_is bs h =
    let w = part_byte_parts (ident_len bs) 40 bs h in
    let paren = w.1 in
    let len = w.2 in
    subst (λ n. (token_at bs ≡ (kind.Func, n)) ⊎ (n < (token_at bs).1)) (sym len) (subst (λ (p : CssKind × ℕ). (p ≡ (kind.Func, ident_len bs + 1)) ⊎ (ident_len bs + 1 < p.1)) (sym (ident_token bs w.0))
    (rw (not_none (ident_len bs) w.0, paren) (cond_both (eqb (url_len bs) 0) (kind.Func, ident_len bs + 1) (kind.Url, url_len bs) (λ p. (p ≡ (kind.Func, ident_len bs + 1)) ⊎ (ident_len bs + 1 < p.1)) (λ _. inl refl) (λ url. inr (url_more bs (some_of (url_len bs) url)).0))))

url_is : (bs : List ℕ) → 0 < url_len bs → token_at bs ≡ (kind.Url, url_len bs)
unfolding word_at
url_is bs h =
    let w = url_more bs h in
    let paren = w.2 in
    ident_token bs w.1 ∙ rw (not_none (ident_len bs) w.1, paren, not_none (url_len bs) h) refl

-- ---- signs

byte_part_parts : (b n : ℕ) (bs : List ℕ) → 0 < byte_part b n bs → (eqb (get_or bs 0 0) b ≡ true) × (0 < n) × (byte_part b n bs ≡ 1 + n)
byte_part_parts b n bs = by (eqb (get_or bs 0 0) b) (eqb n 0) refl
  where
    by : (s t : Bool) → eqb n 0 ≡ t → 0 < cond s (cond t 0 (1 + n)) 0 → (s ≡ true) × (0 < n) × (cond s (cond t 0 (1 + n)) 0 ≡ 1 + n)
    by false t f h = absurd (omega arith)
    by true true f h = absurd (omega arith)
    by true false f h = (refl, some_of n f, refl)

at_token : (bs : List ℕ) → 0 < ident_len bs → token_at (64 ∷ bs) ≡ (kind.At, 1 + ident_len bs)
unfolding token_at sign_at number_len sign_len unsigned_len run_from unit_len fraction_len
at_token bs h = let more : ltb 0 (ident_len bs) ≡ true = grind (arith, nat_tests) in rw more refl

hash_token : (bs : List ℕ) → 0 < run_len class.Name bs → token_at (35 ∷ bs) ≡ (kind.Hash, 1 + run_len class.Name bs)
unfolding token_at sign_at number_len sign_len unsigned_len run_from unit_len fraction_len
hash_token bs h = let more : ltb 0 (run_len class.Name bs) ≡ true = grind (arith, nat_tests) in rw more refl

at_is : (bs : List ℕ) → 0 < reading_len kind.At bs → token_at bs ≡ (kind.At, reading_len kind.At bs)
at_is [] h = absurd (omega arith)
at_is (b ∷ bs) h =
    let w = byte_part_parts 64 (ident_len bs) (b ∷ bs) h in
    subst (λ x. token_at (x ∷ bs) ≡ (kind.At, 1 + ident_len bs)) (sym (eqb-true b 64 w.0)) (at_token bs w.1) ∙ ap (λ n. (kind.At, n)) (sym w.2)

hash_is : (bs : List ℕ) → 0 < reading_len kind.Hash bs → token_at bs ≡ (kind.Hash, reading_len kind.Hash bs)
hash_is [] h = absurd (omega arith)
hash_is (b ∷ bs) h =
    let w = byte_part_parts 35 (run_len class.Name bs) (b ∷ bs) h in
    subst (λ x. token_at (x ∷ bs) ≡ (kind.Hash, 1 + run_len class.Name bs)) (sym (eqb-true b 35 w.0)) (hash_token bs w.1) ∙ ap (λ n. (kind.Hash, n)) (sym w.2)

-- a text that begins with a word
word_then : (word bs : List ℕ) (k : CssKind) → 0 < word_len word bs → ((rest : List ℕ) → token_at (word ++ rest) ≡ (k, length word)) → token_at bs ≡ (k, word_len word bs)
word_then word bs k h f =
    let w = only_if (bytes_eq (take (length word) bs) word) (length word) h in
    let e = (bytes_eq-Decides (take (length word) bs) word).0 w.0 in
    subst (λ l. token_at l ≡ (k, length word)) (ap (λ l. l ++ drop (length word) bs) (sym e) ∙ take-append-drop (length word) bs) (f (drop (length word) bs)) ∙ ap (λ n. (k, n)) (sym w.1)

cdo_token : (rest : List ℕ) → token_at (codes "<!--" ++ rest) ≡ (kind.Cdo, 4)
unfolding token_at sign_at number_len sign_len unsigned_len run_from unit_len fraction_len
cdo_token rest = refl

cdc_token : (rest : List ℕ) → token_at (codes "-->" ++ rest) ≡ (kind.Cdc, 3)
unfolding token_at sign_at number_len sign_len unsigned_len run_from unit_len fraction_len
cdc_token rest = refl

-- ---- all kinds

compares : (k : CssKind) (bs : List ℕ) → 0 < reading_len k bs → (k ≡ kind.Delim) ⊎ Compares k bs
compares kind.Space bs h = inr (inl (space_is bs h))
compares kind.Comment bs h = inr (inl (comment_is bs h))
compares kind.Str bs h = inr (inl (string_is bs h))
compares kind.BadStr bs h = inr (inl (bad_string_is bs h))
compares kind.Ident bs h = inr (ident_is bs h)
compares kind.Func bs h = inr (func_is bs h)
compares kind.Url bs h = inr (inl (url_is bs h))
compares kind.At bs h = inr (inl (at_is bs h))
compares kind.Hash bs h = inr (inl (hash_is bs h))
compares kind.Number bs h = inr (number_is bs h)
compares kind.Percent bs h = inr (inl (percent_is bs h))
compares kind.Dimension bs h = inr (inl (dimension_is bs h))
compares kind.Cdo bs h = inr (inl (word_then (codes "<!--") bs kind.Cdo h cdo_token))
compares kind.Cdc bs h = inr (inl (word_then (codes "-->") bs kind.Cdc h cdc_token))
compares kind.Delim bs h = inl refl

-- a single character is no longer than the token
delim_least : (bs : List ℕ) → reading_len kind.Delim bs ≤ (token_at bs).1
delim_least [] = zero-le
delim_least (b ∷ bs) = let some = (is_reading (b ∷ bs) (omega arith)).1 in cond_both (eqb (length (b ∷ bs)) 0) 0 1 (λ n. n ≤ (token_at (b ∷ bs)).1) (λ _. zero-le) (λ _. omega (arith, some))

pub none_longer : NoneIsLonger
none_longer k bs = by (cases_lt 0 (reading_len k bs))
  where
    of : (k ≡ kind.Delim) ⊎ Compares k bs → reading_len k bs ≤ (token_at bs).1
    of (inl e) = subst (λ x. reading_len x bs ≤ (token_at bs).1) (sym e) (delim_least bs)
    of (inr (inl e)) = let n = ap (λ (p : CssKind × ℕ). p.1) e in omega (arith, n)
    of (inr (inr l)) = omega (arith, l)

    by : (0 < reading_len k bs) ⊎ (reading_len k bs ≤ 0) → reading_len k bs ≤ (token_at bs).1
    by (inl h) = of (compares k bs h)
    by (inr h) = omega (arith, h)

pub only_delim : OnlyDelimTies
only_delim k bs some e = by (compares k bs (let h = (is_reading bs some).1 in omega (arith, e, h)))
  where
    by : (k ≡ kind.Delim) ⊎ Compares k bs → (k ≡ (token_at bs).0) ⊎ (k ≡ kind.Delim)
    by (inl d) = inr d
    by (inr (inl same)) = inl (ap (λ (p : CssKind × ℕ). p.0) (sym same))
    by (inr (inr l)) = absurd (omega (arith, e, l))
