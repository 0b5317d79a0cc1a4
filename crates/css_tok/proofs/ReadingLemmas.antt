-- The token at the start of a text is a reading of its kind.
use Rattle.std.proofs.Common.{◌≡◌, inl, inr, ℕ, zero, suc, ◌+◌, ◌<◌, Bool, true, false, cond, ◌&&◌, eqb, ltb, List, [], ◌∷◌, drop, take, length, get_or, refl, ◌∙◌, ap, subst, arith, codes, length-drop, get_or-drop}
use Rattle.std.proofs.lemmas.Bool.{cases_Bool, cond_both, and_parts, eqb-false, ne_eqb}
use Rattle.std.proofs.lemmas.Bool.Decides.{nat_tests}
use Rattle.std.proofs.Math.Seq.{drop-cons}
use Rattle.std.specs.Str.{bytes_eq}
use Rattle.css_tok.specs.declared.kind.CssKind.{CssKind}
use Rattle.css_tok.specs.declared.kind.CssKind.TheVariants as kind
use Rattle.css_tok.specs.declared.lengths.Class.{Class}
use Rattle.css_tok.specs.declared.lengths.Class.TheVariants as class
use Rattle.bk_num.specs.Chars.{is_quote}
use Rattle.css_tok.specs.Lengths.{unit_len, run_from, run_len, with_first, one_less, is_newline, is_blank, ident_len, number_len, comment_len, quoted_len}
use Rattle.css_tok.specs.Kind.{string_at, numeric_at, url_len, word_at, sign_at, token_at}
use Rattle.css_tok.specs.Readings.{quoted_run, reading_len, TokenIsReading}
use Rattle.css_tok.proofs.Runs.{blank_run}
use Rattle.css_tok.proofs.Boundaries.{run_cut, quoted_stops, quote_low}

-- ---- the token is a reading of its kind

-- a pair is a reading that isn't empty
abbrev IsReading : List ℕ → CssKind × ℕ → Type 0
IsReading bs p = (reading_len p.0 bs ≡ p.1) × (0 < p.1)

pick : (bs : List ℕ) (t : Bool) (p q : CssKind × ℕ) → (t ≡ true → IsReading bs p) → (t ≡ false → IsReading bs q) → IsReading bs (cond t p q)
pick bs t p q a b = cond_both t p q (IsReading bs) a b

-- a run ends where no unit of it stands
run_stop : (c : Class) (left : ℕ) (bs : List ℕ) → run_from c left bs < length bs → unit_len c (drop (run_from c left bs) bs) ≡ 0
unfolding run_from
run_stop c left [] h = absurd (omega arith)
run_stop c (suc left) (b ∷ bs) h = run_stop c left bs (omega arith)
run_stop c zero (b ∷ bs) h = by (unit_len c (b ∷ bs)) refl h (λ left. run_stop c left bs)
  where
    by : (u : ℕ) → unit_len c (b ∷ bs) ≡ u → with_first u (run_from c (one_less u) bs) < length (b ∷ bs) → ((left : ℕ) → run_from c left bs < length bs → unit_len c (drop (run_from c left bs) bs) ≡ 0) → unit_len c (drop (with_first u (run_from c (one_less u) bs)) (b ∷ bs)) ≡ 0
    by zero is h rest = is
    by (suc u) is h rest = rest u (omega arith)

-- characters in quotes end at the quote or at a newline
quoted_end : (q b : ℕ) (bs : List ℕ) → unit_len (class.Quoted q) (b ∷ bs) ≡ 0 → is_newline b ≡ false → eqb b q ≡ true
unfolding unit_len
quoted_end q b bs none line = by (eqb b q) refl
  where
    by : (t : Bool) → eqb b q ≡ t → t ≡ true
    by true e = refl
    by false e = absurd (elim (cases_Bool (eqb b 92)) [
      | inl slash ↦ (let h : suc (quoted_len bs) ≡ 0 = rw (e, line, slash) at none in omega arith)
      | inr other ↦ (let h : 1 ≡ 0 = rw (e, line, other) at none in omega arith)
    ])

closing : (bs : List ℕ) → 0 < length bs → is_quote (get_or bs 0 0) ≡ true → eqb (quoted_run bs + 1) (length bs) ≡ false → is_newline (get_or bs (quoted_run bs + 1) 0) ≡ false → eqb (get_or bs (quoted_run bs + 1) 0) (get_or bs 0 0) ≡ true
closing bs some quote apart line =
    let cut = run_cut (class.Quoted (get_or bs 0 0)) (quoted_stops (get_or bs 0 0) (quote_low (get_or bs 0 0) quote)) 0 (drop 1 bs) in
    let ne = eqb-false (quoted_run bs + 1) (length bs) apart in
    let within : quoted_run bs < length (drop 1 bs) = (let l = cut.0 in omega (arith, length-drop 1 bs, l, ne)) in
    let at : get_or (drop 1 bs) (quoted_run bs) 0 ≡ get_or bs (quoted_run bs + 1) 0 = (let n : 1 + quoted_run bs ≡ quoted_run bs + 1 = omega arith in get_or-drop 1 bs (quoted_run bs) 0 ∙ ap (λ k. get_or bs k 0) n) in
    let stop = subst (λ l. unit_len (class.Quoted (get_or bs 0 0)) l ≡ 0) (drop-cons (drop 1 bs) (quoted_run bs) 0 within) (run_stop (class.Quoted (get_or bs 0 0)) 0 (drop 1 bs) within) in
    subst (λ b. eqb b (get_or bs 0 0) ≡ true) at (quoted_end (get_or bs 0 0) (get_or (drop 1 bs) (quoted_run bs) 0) (drop (suc (quoted_run bs)) (drop 1 bs)) stop (ap is_newline at ∙ line))

string_reading : (bs : List ℕ) → 0 < length bs → is_quote (get_or bs 0 0) ≡ true → IsReading bs (string_at bs)
unfolding string_at
string_reading bs some quote =
    pick bs (eqb (quoted_run bs + 1) (length bs)) (kind.Str, quoted_run bs + 1) _ (λ ends. (rw (quote, ends) refl, omega arith))
    (λ apart. pick bs (is_newline (get_or bs (quoted_run bs + 1) 0)) (kind.BadStr, quoted_run bs + 1) (kind.Str, quoted_run bs + 2) (λ line. (rw (quote, line) refl, omega arith))
    (λ line. (rw (quote, apart, closing bs some quote apart line) refl, omega arith)))

pub not_none : (n : ℕ) → 0 < n → eqb n 0 ≡ false
not_none n h = ne_eqb n 0 (λ e. omega arith)

pub some_of : (n : ℕ) → eqb n 0 ≡ false → 0 < n
some_of n h = let e = eqb-false n 0 h in omega (arith, e)

numeric_reading : (bs : List ℕ) → 0 < number_len bs → IsReading bs (numeric_at bs)
unfolding numeric_at
numeric_reading bs some =
    pick bs (eqb (get_or bs (number_len bs) 0) 37) (kind.Percent, number_len bs + 1) _ (λ percent. (rw (not_none (number_len bs) some, percent) refl, omega arith))
    (λ _. pick bs (eqb (ident_len (drop (number_len bs) bs)) 0) (kind.Number, number_len bs) (kind.Dimension, number_len bs + ident_len (drop (number_len bs) bs)) (λ _. (refl, some))
    (λ unit. (rw (not_none (number_len bs) some, unit) refl, omega arith)))

word_reading : (bs : List ℕ) → 0 < length bs → IsReading bs (word_at bs)
unfolding word_at
word_reading bs some =
    pick bs (eqb (ident_len bs) 0) (kind.Delim, 1) _ (λ _. (rw (not_none (length bs) some) refl, omega arith))
    (λ name. pick bs (eqb (get_or bs (ident_len bs) 0) 40) _ (kind.Ident, ident_len bs)
    (λ paren. pick bs (eqb (url_len bs) 0) (kind.Func, ident_len bs + 1) (kind.Url, url_len bs) (λ _. (rw (name, paren) refl, omega arith)) (λ url. (refl, some_of (url_len bs) url)))
    (λ _. (refl, some_of (ident_len bs) name)))

part_behind : (bs : List ℕ) (b n : ℕ) → (eqb (get_or bs 0 0) b && ltb 0 n) ≡ true → cond (eqb (get_or bs 0 0) b) (cond (eqb n 0) 0 (1 + n)) 0 ≡ 1 + n
part_behind bs b n is = let both = and_parts (eqb (get_or bs 0 0) b) (ltb 0 n) is in let h : 0 < n = grind (arith, nat_tests) in rw (both.0, not_none n h) refl

sign_reading : (bs : List ℕ) → 0 < length bs → IsReading bs (sign_at bs)
unfolding sign_at
sign_reading bs some =
    pick bs (bytes_eq (take 4 bs) (codes "<!--")) (kind.Cdo, 4) _ (λ is. (rw is refl, omega arith))
    (λ _. pick bs (bytes_eq (take 3 bs) (codes "-->")) (kind.Cdc, 3) _ (λ is. (rw is refl, omega arith))
    (λ _. pick bs (eqb (get_or bs 0 0) 64 && ltb 0 (ident_len (drop 1 bs))) (kind.At, 1 + ident_len (drop 1 bs)) _ (λ is. (part_behind bs 64 (ident_len (drop 1 bs)) is, omega arith))
    (λ _. pick bs (eqb (get_or bs 0 0) 35 && ltb 0 (run_len class.Name (drop 1 bs))) (kind.Hash, 1 + run_len class.Name (drop 1 bs)) (word_at bs) (λ is. (part_behind bs 35 (run_len class.Name (drop 1 bs)) is, omega arith))
    (λ _. word_reading bs some))))

pub is_reading : (bs : List ℕ) → 0 < length bs → IsReading bs (token_at bs)
unfolding token_at
is_reading bs some =
    pick bs (is_blank (get_or bs 0 0)) (kind.Space, run_len class.Blank bs) _ (λ blank. (refl, blank_run bs some blank))
    (λ _. pick bs (is_quote (get_or bs 0 0)) (string_at bs) _ (λ quote. string_reading bs some quote)
    (λ _. pick bs (eqb (get_or bs 0 0) 47 && eqb (get_or bs 1 0) 42) (kind.Comment, 2 + comment_len (drop 2 bs)) _ (λ opens. (rw opens refl, omega arith))
    (λ _. pick bs (ltb 0 (number_len bs)) (numeric_at bs) (sign_at bs) (λ number. numeric_reading bs (let h : 0 < number_len bs = grind (arith, nat_tests) in h)) (λ _. sign_reading bs some))))

pub token_reading : TokenIsReading
token_reading bs some = (is_reading bs some).0
