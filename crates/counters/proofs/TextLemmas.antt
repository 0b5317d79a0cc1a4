-- numerals are texts in UTF-8
use Rattle.std.proofs.Common.{ℕ, zero, suc, ◌/◌, ◌%◌, ◌<◌, ◌≤◌, ◌^◌, Bool, true, false, cond, List, [], ◌∷◌, ◌++◌, length, get_or, ℤ, unsigned_abs, refl, arith}
use Rattle.std.specs.Char.{encode_utf8}
use Rattle.std.specs.Str.{IsUtf8, IsAscii}
use Rattle.std.specs.Fmt.{signed_decimal}
use Rattle.std.specs.Int.{is_positive}
use Rattle.std.specs.Int.Signed.{mag}
use Rattle.std.proofs.lemmas.Str.{IsUtf8-nil, IsUtf8-from_ascii, IsAscii-append}
use Rattle.std.proofs.lemmas.Fmt.{IsAscii-signed}
use Rattle.bk_num.specs.declared.values.NumStyle.{NumStyle}
use Rattle.bk_num.specs.declared.values.NumStyle.TheVariants as style
use Rattle.counters.specs.declared.numeral.RomanLetters.{RomanLetters}
use Rattle.counters.specs.Numerals.{is_among, roman_digit, lower_roman, upper_roman, roman, letters, numeral_of}
use Rattle.counters.proofs.NumeralLemmas.{letters_stand_for}

ascii_none : IsAscii []
ascii_none i = omega arith

ascii_more : (b : ℕ) (bs : List ℕ) → b < 128 → IsAscii bs → IsAscii (b ∷ bs)
ascii_more b bs h g zero = h
ascii_more b bs h g (suc i) = g i

ascii_each : (bs : List ℕ) → ((i d : ℕ) → i < length bs → get_or bs i d < 128) → IsAscii bs
ascii_each [] h = ascii_none
ascii_each (b ∷ bs) h = ascii_more b bs (h 0 0 (omega arith)) (ascii_each bs (λ i d l. h (suc i) d (omega arith)))

-- the letters for one, five and ten of a place
ascii_digit : (one five ten d : ℕ) → one < 128 → five < 128 → ten < 128 → IsAscii (roman_digit one five ten d)
ascii_digit one five ten zero a b c = ascii_none
ascii_digit one five ten (suc zero) a b c = ascii_more one [] a ascii_none
ascii_digit one five ten (suc (suc zero)) a b c = ascii_more one (one ∷ []) a (ascii_more one [] a ascii_none)
ascii_digit one five ten (suc (suc (suc zero))) a b c = ascii_more one (one ∷ one ∷ []) a (ascii_more one (one ∷ []) a (ascii_more one [] a ascii_none))
ascii_digit one five ten (suc (suc (suc (suc zero)))) a b c = ascii_more one (five ∷ []) a (ascii_more five [] b ascii_none)
ascii_digit one five ten (suc (suc (suc (suc (suc zero))))) a b c = ascii_more five [] b ascii_none
ascii_digit one five ten (suc (suc (suc (suc (suc (suc zero)))))) a b c = ascii_more five (one ∷ []) b (ascii_more one [] a ascii_none)
ascii_digit one five ten (suc (suc (suc (suc (suc (suc (suc zero))))))) a b c = ascii_more five (one ∷ one ∷ []) b (ascii_more one (one ∷ []) a (ascii_more one [] a ascii_none))
ascii_digit one five ten (suc (suc (suc (suc (suc (suc (suc (suc zero)))))))) a b c = ascii_more five (one ∷ one ∷ one ∷ []) b (ascii_more one (one ∷ one ∷ []) a (ascii_more one (one ∷ []) a (ascii_more one [] a ascii_none)))
ascii_digit one five ten (suc (suc (suc (suc (suc (suc (suc (suc (suc zero))))))))) a b c = ascii_more one (ten ∷ []) a (ascii_more ten [] c ascii_none)
ascii_digit one five ten (suc (suc (suc (suc (suc (suc (suc (suc (suc (suc d)))))))))) a b c = ascii_none

record AreAscii (r : RomanLetters) : Type 0 where
  pub ones : (r.i < 128) × (r.v < 128)
  pub tens : (r.x < 128) × (r.l < 128)
  pub hundreds : (r.c < 128) × (r.d < 128)
  pub thousands : r.m < 128

ascii_roman : (r : RomanLetters) (n : ℕ) → AreAscii r → IsAscii (roman r n)
ascii_roman r n a =
    let m = a.thousands in
    let (c, d) = a.hundreds in
    let (x, l) = a.tens in
    let (i, v) = a.ones in
    let one = ascii_digit r.i r.v r.x (n % 10) i v x in
    let ten = IsAscii-append (roman_digit r.x r.l r.c (n / 10 % 10)) (roman_digit r.i r.v r.x (n % 10)) (ascii_digit r.x r.l r.c (n / 10 % 10) x l c) one in
    let hundred = IsAscii-append (roman_digit r.c r.d r.m (n / 100 % 10)) (roman_digit r.x r.l r.c (n / 10 % 10) ++ roman_digit r.i r.v r.x (n % 10)) (ascii_digit r.c r.d r.m (n / 100 % 10) c d m) ten in
    IsAscii-append (roman_digit r.m r.m r.m (n / 1000)) (roman_digit r.c r.d r.m (n / 100 % 10) ++ (roman_digit r.x r.l r.c (n / 10 % 10) ++ roman_digit r.i r.v r.x (n % 10))) (ascii_digit r.m r.m r.m (n / 1000) m m m) hundred

ascii_letters : (first n : ℕ) → first ≤ 97 → IsAscii (letters first n)
ascii_letters first n h = ascii_each (letters first n) (λ i d l. let b = (letters_stand_for first n).0 i d l in let high = b.1 in omega arith)

either : (b : Bool) (x y : List ℕ) → IsAscii x → IsAscii y → IsAscii (cond b x y)
either true x y h g = h
either false x y h g = g

bullets : IsUtf8 (226 ∷ 128 ∷ 162 ∷ []) × (IsUtf8 (226 ∷ 151 ∷ 166 ∷ []) × IsUtf8 (226 ∷ 150 ∷ 170 ∷ []))
unfolding encode_utf8
bullets = ((8226 ∷ [], (refl, refl)), ((9702 ∷ [], (refl, refl)), (9642 ∷ [], (refl, refl))))

ascii_lower : AreAscii lower_roman
ascii_lower = record { ones = (omega arith, omega arith); tens = (omega arith, omega arith); hundreds = (omega arith, omega arith); thousands = omega arith }

ascii_upper : AreAscii upper_roman
ascii_upper = record { ones = (omega arith, omega arith); tens = (omega arith, omega arith); hundreds = (omega arith, omega arith); thousands = omega arith }

pub numeral_utf8 : (s : NumStyle) (n : ℤ) → mag n < 2 ^ 63 → IsUtf8 (numeral_of s n)
numeral_utf8 style.Decimal n h = IsUtf8-from_ascii (numeral_of style.Decimal n) (IsAscii-signed n h)
numeral_utf8 style.LeadingZero n h = IsUtf8-from_ascii (numeral_of style.LeadingZero n) (either (is_among n 0 9) (48 ∷ signed_decimal n) (signed_decimal n) (ascii_more 48 (signed_decimal n) (omega arith) (IsAscii-signed n h)) (IsAscii-signed n h))
numeral_utf8 style.LowerRoman n h = IsUtf8-from_ascii (numeral_of style.LowerRoman n) (either (is_among n 1 3999) (roman lower_roman (unsigned_abs n)) (signed_decimal n) (ascii_roman lower_roman (unsigned_abs n) ascii_lower) (IsAscii-signed n h))
numeral_utf8 style.UpperRoman n h = IsUtf8-from_ascii (numeral_of style.UpperRoman n) (either (is_among n 1 3999) (roman upper_roman (unsigned_abs n)) (signed_decimal n) (ascii_roman upper_roman (unsigned_abs n) ascii_upper) (IsAscii-signed n h))
numeral_utf8 style.LowerAlpha n h = IsUtf8-from_ascii (numeral_of style.LowerAlpha n) (either (is_positive n) (letters 97 (unsigned_abs n)) (signed_decimal n) (ascii_letters 97 (unsigned_abs n) (omega arith)) (IsAscii-signed n h))
numeral_utf8 style.UpperAlpha n h = IsUtf8-from_ascii (numeral_of style.UpperAlpha n) (either (is_positive n) (letters 65 (unsigned_abs n)) (signed_decimal n) (ascii_letters 65 (unsigned_abs n) (omega arith)) (IsAscii-signed n h))
numeral_utf8 style.Disc n h = bullets.0
numeral_utf8 style.Circle n h = bullets.1.0
numeral_utf8 style.Square n h = bullets.1.1
numeral_utf8 style.Nothing n h = IsUtf8-nil
