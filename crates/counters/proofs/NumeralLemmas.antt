-- What numerals stand for.
use Rattle.std.proofs.Common.{◌≡◌, ℕ, zero, suc, ◌+◌, ◌*◌, ◌-◌, ◌/◌, ◌%◌, ◌<◌, ◌≤◌, cond, ◌==◌, List, [], ◌∷◌, ◌++◌, fold, All, pos, neg_ℤ, ◌+ℤ◌, refl, sym, ap, ◌∙◌, subst, arith, append-nil}
use Rattle.std.proofs.lemmas.Int.{ints}
use Rattle.std.proofs.lemmas.Bool.{ne_eqb}
use Rattle.std.proofs.lemmas.List.{append_assoc}
use Rattle.std.proofs.lemmas.List.Elements.{All-append}
use Rattle.std.proofs.lemmas.List.Sums.{fold-append}
use Rattle.counters.specs.declared.numeral.RomanLetters.{RomanLetters}
use Rattle.counters.specs.Numerals.{roman_digit, roman_letter, roman_head, counted, roman_value, roman, lower_roman, upper_roman, RomanStandsFor, letters_within, letters, letters_value, IsLetter, LettersStandFor, LettersAreOne}

kept : (own next : ℕ) → next ≤ own → counted own next ≡ pos own
kept own next h = grind (arith)

taken : (own next : ℕ) → own < next → counted own next ≡ neg_ℤ (pos own)
taken own next h = grind (arith)

-- the letters for one, five and ten of a place
record ArePlace (unit one five ten : ℕ) : Type 0 where
  pub own : roman_letter one ≡ unit
  pub half : roman_letter five ≡ 5 * unit
  pub next : roman_letter ten ≡ 10 * unit
  pub some : 0 < unit

one_one : (unit one five ten : ℕ) → ArePlace unit one five ten → counted (roman_letter one) (roman_letter one) ≡ pos unit
one_one unit one five ten p = kept (roman_letter one) (roman_letter one) (omega arith) ∙ ap pos p.own

one_five : (unit one five ten : ℕ) → ArePlace unit one five ten → counted (roman_letter one) (roman_letter five) ≡ neg_ℤ (pos unit)
one_five unit one five ten p = let own = p.own in let half = p.half in let some = p.some in taken (roman_letter one) (roman_letter five) (omega arith) ∙ ap (λ n. neg_ℤ (pos n)) p.own

one_ten : (unit one five ten : ℕ) → ArePlace unit one five ten → counted (roman_letter one) (roman_letter ten) ≡ neg_ℤ (pos unit)
one_ten unit one five ten p = let own = p.own in let next = p.next in let some = p.some in taken (roman_letter one) (roman_letter ten) (omega arith) ∙ ap (λ n. neg_ℤ (pos n)) p.own

five_one : (unit one five ten : ℕ) → ArePlace unit one five ten → counted (roman_letter five) (roman_letter one) ≡ pos (5 * unit)
five_one unit one five ten p = let own = p.own in let half = p.half in kept (roman_letter five) (roman_letter one) (omega arith) ∙ ap pos p.half

one_rest : (unit one five ten h : ℕ) → ArePlace unit one five ten → h < unit → counted (roman_letter one) h ≡ pos unit
one_rest unit one five ten h p l = let own = p.own in kept (roman_letter one) h (omega arith) ∙ ap pos p.own

five_rest : (unit one five ten h : ℕ) → ArePlace unit one five ten → h < unit → counted (roman_letter five) h ≡ pos (5 * unit)
five_rest unit one five ten h p l = let half = p.half in kept (roman_letter five) h (omega arith) ∙ ap pos p.half

ten_rest : (unit one five ten h : ℕ) → ArePlace unit one five ten → h < unit → counted (roman_letter ten) h ≡ pos (10 * unit)
ten_rest unit one five ten h p l = let next = p.next in kept (roman_letter ten) h (omega arith) ∙ ap pos p.next

-- the letters of a digit stand for it, before letters of lower places
digit_value : (unit one five ten d : ℕ) (rest : List ℕ) → ArePlace unit one five ten → d < 10 → roman_head rest < unit → roman_value (roman_digit one five ten d ++ rest) ≡ pos (d * unit) +ℤ roman_value rest
digit_value unit one five ten zero rest p h l = omega (arith, ints)
digit_value unit one five ten (suc zero) rest p h l = rw (one_rest unit one five ten (roman_head rest) p l) (omega (arith, ints))
digit_value unit one five ten (suc (suc zero)) rest p h l = rw (one_one unit one five ten p, one_rest unit one five ten (roman_head rest) p l) (omega (arith, ints))
digit_value unit one five ten (suc (suc (suc zero))) rest p h l = rw (one_one unit one five ten p, one_rest unit one five ten (roman_head rest) p l) (omega (arith, ints))
digit_value unit one five ten (suc (suc (suc (suc zero)))) rest p h l = rw (one_five unit one five ten p, five_rest unit one five ten (roman_head rest) p l) (omega (arith, ints))
digit_value unit one five ten (suc (suc (suc (suc (suc zero))))) rest p h l = rw (five_rest unit one five ten (roman_head rest) p l) (omega (arith, ints))
digit_value unit one five ten (suc (suc (suc (suc (suc (suc zero)))))) rest p h l = rw (five_one unit one five ten p, one_rest unit one five ten (roman_head rest) p l) (omega (arith, ints))
digit_value unit one five ten (suc (suc (suc (suc (suc (suc (suc zero))))))) rest p h l = rw (five_one unit one five ten p, one_one unit one five ten p, one_rest unit one five ten (roman_head rest) p l) (omega (arith, ints))
digit_value unit one five ten (suc (suc (suc (suc (suc (suc (suc (suc zero)))))))) rest p h l = rw (five_one unit one five ten p, one_one unit one five ten p, one_rest unit one five ten (roman_head rest) p l) (omega (arith, ints))
digit_value unit one five ten (suc (suc (suc (suc (suc (suc (suc (suc (suc zero))))))))) rest p h l = rw (one_ten unit one five ten p, ten_rest unit one five ten (roman_head rest) p l) (omega (arith, ints))
digit_value unit one five ten (suc (suc (suc (suc (suc (suc (suc (suc (suc (suc d)))))))))) rest p h l = absurd (omega arith)

-- and begin with a letter below that for ten times the next place
digit_head : (unit one five ten d : ℕ) (rest : List ℕ) → ArePlace unit one five ten → d < 10 → roman_head rest < unit → roman_head (roman_digit one five ten d ++ rest) < 10 * unit
digit_head unit one five ten zero rest p h l = omega arith
digit_head unit one five ten (suc zero) rest p h l = let own = p.own in omega arith
digit_head unit one five ten (suc (suc zero)) rest p h l = let own = p.own in let some = p.some in omega arith
digit_head unit one five ten (suc (suc (suc zero))) rest p h l = let own = p.own in let some = p.some in omega arith
digit_head unit one five ten (suc (suc (suc (suc zero)))) rest p h l = let own = p.own in let some = p.some in omega arith
digit_head unit one five ten (suc (suc (suc (suc (suc zero))))) rest p h l = let half = p.half in let some = p.some in omega arith
digit_head unit one five ten (suc (suc (suc (suc (suc (suc zero)))))) rest p h l = let half = p.half in let some = p.some in omega arith
digit_head unit one five ten (suc (suc (suc (suc (suc (suc (suc zero))))))) rest p h l = let half = p.half in let some = p.some in omega arith
digit_head unit one five ten (suc (suc (suc (suc (suc (suc (suc (suc zero)))))))) rest p h l = let half = p.half in let some = p.some in omega arith
digit_head unit one five ten (suc (suc (suc (suc (suc (suc (suc (suc (suc zero))))))))) rest p h l = let own = p.own in let some = p.some in omega arith
digit_head unit one five ten (suc (suc (suc (suc (suc (suc (suc (suc (suc (suc d)))))))))) rest p h l = absurd (omega arith)

-- up to three thousands
thousands_value : (m d : ℕ) (rest : List ℕ) → roman_letter m ≡ 1000 → d < 4 → roman_head rest < 1000 → roman_value (roman_digit m m m d ++ rest) ≡ pos (d * 1000) +ℤ roman_value rest
thousands_value m zero rest e h l = omega (arith, ints)
thousands_value m (suc zero) rest e h l = rw (kept (roman_letter m) (roman_head rest) (omega arith), e) (omega (arith, ints))
thousands_value m (suc (suc zero)) rest e h l = rw (kept (roman_letter m) (roman_letter m) (omega arith), kept (roman_letter m) (roman_head rest) (omega arith), e) (omega (arith, ints))
thousands_value m (suc (suc (suc zero))) rest e h l = rw (kept (roman_letter m) (roman_letter m) (omega arith), kept (roman_letter m) (roman_head rest) (omega arith), e) (omega (arith, ints))
thousands_value m (suc (suc (suc (suc d)))) rest e h l = absurd (omega arith)

record AreRoman (r : RomanLetters) : Type 0 where
  pub ones : ArePlace 1 r.i r.v r.x
  pub tens : ArePlace 10 r.x r.l r.c
  pub hundreds : ArePlace 100 r.c r.d r.m
  pub thousands : roman_letter r.m ≡ 1000

digits_of : (n : ℕ) → n < 4000 → (n / 1000 * 1000 + (n / 100 % 10 * 100 + (n / 10 % 10 * 10 + n % 10 * 1)) ≡ n) × (n / 1000 < 4) × (n / 100 % 10 < 10) × (n / 10 % 10 < 10) × (n % 10 < 10)
digits_of n h = (omega arith, omega arith, omega arith, omega arith, omega arith)

roman_stands : (r : RomanLetters) (n : ℕ) → AreRoman r → n < 4000 → roman_value (roman r n) ≡ pos n
roman_stands r n a h =
    let (e, most, hundreds, tens, ones) = digits_of n h in
    let one = roman_digit r.i r.v r.x (n % 10) in
    let ten = roman_digit r.x r.l r.c (n / 10 % 10) ++ one in
    let hundred = roman_digit r.c r.d r.m (n / 100 % 10) ++ ten in
    let one_head : roman_head one < 10 = subst (λ t. roman_head t < 10) (append-nil one) (digit_head 1 r.i r.v r.x (n % 10) [] a.ones ones (omega arith)) in
    let ten_head : roman_head ten < 100 = digit_head 10 r.x r.l r.c (n / 10 % 10) one a.tens tens one_head in
    let hundred_head : roman_head hundred < 1000 = digit_head 100 r.c r.d r.m (n / 100 % 10) ten a.hundreds hundreds ten_head in
    let one_value : roman_value one ≡ pos (n % 10 * 1) = subst (λ t. roman_value t ≡ pos (n % 10 * 1)) (append-nil one) (digit_value 1 r.i r.v r.x (n % 10) [] a.ones ones (omega arith) ∙ omega (arith, ints)) in
    let ten_value = digit_value 10 r.x r.l r.c (n / 10 % 10) one a.tens tens one_head in
    let hundred_value = digit_value 100 r.c r.d r.m (n / 100 % 10) ten a.hundreds hundreds ten_head in
    thousands_value r.m (n / 1000) hundred a.thousands most hundred_head ∙ omega (arith, ints, hundred_value, ten_value, one_value, e)

pub roman_stands_for : RomanStandsFor
roman_stands_for n h = (roman_stands lower_roman n lower h, roman_stands upper_roman n upper h)
  where
    lower : AreRoman lower_roman
    lower = record {
      ones = record { own = refl; half = refl; next = refl; some = omega arith };
      tens = record { own = refl; half = refl; next = refl; some = omega arith };
      hundreds = record { own = refl; half = refl; next = refl; some = omega arith };
      thousands = refl;
    }

    upper : AreRoman upper_roman
    upper = record {
      ones = record { own = refl; half = refl; next = refl; some = omega arith };
      tens = record { own = refl; half = refl; next = refl; some = omega arith };
      hundreds = record { own = refl; half = refl; next = refl; some = omega arith };
      thousands = refl;
    }

letters_zero : (most first : ℕ) → letters_within most first 0 ≡ []
letters_zero zero first = refl
letters_zero (suc most) first = refl

-- more room for letters changes nothing
letters_fuel : (k most first n : ℕ) → n ≤ k → k ≤ most → letters_within most first n ≡ letters_within k first n
letters_fuel zero most first zero h l = letters_zero most first
letters_fuel zero most first (suc n) h l = absurd (omega arith)
letters_fuel (suc k) zero first n h l = absurd (omega arith)
letters_fuel (suc k) (suc most) first n h l = ap (λ t. cond (n == 0) [] (t ++ (first + (n - 1) % 26) ∷ [])) (letters_fuel k most first ((n - 1) / 26) (omega arith) (omega arith))

-- the last letter
pub letters_step : (first n : ℕ) → 0 < n → letters first n ≡ letters first ((n - 1) / 26) ++ (first + (n - 1) % 26) ∷ []
letters_step first zero h = absurd (omega arith)
letters_step first (suc n) h = ap (λ b. cond b [] (letters_within n first ((suc n - 1) / 26) ++ (first + (suc n - 1) % 26) ∷ [])) (ne_eqb (suc n) 0 (λ e. omega arith)) ∙ ap (λ t. t ++ (first + (suc n - 1) % 26) ∷ []) (letters_fuel ((suc n - 1) / 26) n first ((suc n - 1) / 26) (omega arith) (omega arith))

-- the value of a text with one letter more
value_more : (first b : ℕ) (text : List ℕ) → letters_value first (text ++ b ∷ []) ≡ letters_value first text * 26 + (b + 1 - first)
value_more first b text = fold-append (λ n d. n * 26 + (d + 1 - first)) 0 text (b ∷ [])

single : (first b : ℕ) → IsLetter first b → All (IsLetter first) (b ∷ [])
single first b p zero d l = p
single first b p (suc i) d l = absurd (omega arith)

stand_within : (k first n : ℕ) → n ≤ k → All (IsLetter first) (letters first n) × (letters_value first (letters first n) ≡ n)
stand_within k first zero h = (λ i d l. absurd (omega arith), refl)
stand_within zero first (suc n) h = absurd (omega arith)
stand_within (suc k) first (suc n) h =
    let own = stand_within k first ((suc n - 1) / 26) (omega arith) in
    let step = letters_step first (suc n) (omega arith) in
    let digit = first + (suc n - 1) % 26 in
    let value = own.1 in (
      subst (All (IsLetter first)) (sym step) (All-append (IsLetter first) (letters first ((suc n - 1) / 26)) (digit ∷ []) own.0 (single first digit (omega arith, omega arith))),
      ap (letters_value first) step ∙ value_more first digit (letters first ((suc n - 1) / 26)) ∙ omega (arith, value),
    )

pub letters_stand_for : LettersStandFor
letters_stand_for first n = stand_within n first n (omega arith)

-- a text of letters after others
letters_after : (first v : ℕ) (before text : List ℕ) → letters first v ≡ before → All (IsLetter first) text → letters first (fold (λ n b. n * 26 + (b + 1 - first)) v text) ≡ before ++ text
letters_after first v before [] e all = e ∙ sym (append-nil before)
letters_after first v before (b ∷ text) e all =
    let p = all 0 0 (omega arith) in
    let low = p.0 in
    let high = p.1 in
    let w = v * 26 + (b + 1 - first) in
    let quotient : (w - 1) / 26 ≡ v = omega arith in
    let digit : first + (w - 1) % 26 ≡ b = omega arith in
    let step : letters first w ≡ before ++ b ∷ [] = letters_step first w (omega arith) ∙ ap (λ m. letters first m ++ (first + (w - 1) % 26) ∷ []) quotient ∙ ap (λ d. letters first v ++ d ∷ []) digit ∙ ap (λ t. t ++ b ∷ []) e in
    letters_after first w (before ++ b ∷ []) text step (λ k d h. all (suc k) d (omega arith)) ∙ append_assoc before (b ∷ []) text

pub letters_are_one : LettersAreOne
letters_are_one first text all = letters_after first 0 [] text refl all
