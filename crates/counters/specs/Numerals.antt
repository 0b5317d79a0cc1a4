-- How the number of a counter is printed (CSS 2.1, 12.4.2).
use Rattle.std.specs.Prelude.{◌≡◌, ℕ, zero, suc, ◌+◌, ◌*◌, ◌-◌, ◌/◌, ◌%◌, ◌<◌, ◌≤◌, Bool, true, false, ◌&&◌, ◌||◌, nat_le, nat_lt, ◌==◌, if◌then◌else◌, List, [], ◌∷◌, ◌++◌, fold, All, ℤ, pos, negsuc, neg_ℤ, ◌+ℤ◌, unsigned_abs, get_or, Option, None, Some}
use Rattle.std.specs.Fmt.{signed_decimal}
use Rattle.std.specs.Int.{is_positive}
use Rattle.bk_num.specs.declared.values.NumStyle.{NumStyle}
use Rattle.bk_num.specs.declared.values.NumStyle.TheVariants as style
use Rattle.counters.specs.declared.numeral.RomanLetters.{RomanLetters}

-- whether a number is from low to high
abbrev pub is_among : ℤ → ℕ → ℕ → Bool
is_among (pos n) low high = nat_le low n && nat_le n high
is_among (negsuc n) low high = false

-- a text with more at its end
abbrev pub IsLonger : List ℕ → List ℕ → Type 0
IsLonger old new = (more : List ℕ) × (new ≡ old ++ more)

-- a decimal digit in roman letters: those for one, five and ten of its place
abbrev pub roman_digit : ℕ → ℕ → ℕ → ℕ → List ℕ
roman_digit one five ten d =
    get_or ([] ∷ (one ∷ []) ∷ (one ∷ one ∷ []) ∷ (one ∷ one ∷ one ∷ []) ∷ (one ∷ five ∷ []) ∷ (five ∷ []) ∷
    (five ∷ one ∷ []) ∷
    (five ∷ one ∷ one ∷ []) ∷ (five ∷ one ∷ one ∷ one ∷ []) ∷ (one ∷ ten ∷ []) ∷ []) d []

-- the letters for 1, 5, 10, 50, 100, 500 and 1000
abbrev pub lower_roman : RomanLetters
lower_roman = record { i = 105; v = 118; x = 120; l = 108; c = 99; d = 100; m = 109 }

-- the upper-case letters
abbrev pub upper_roman : RomanLetters
upper_roman = record { i = 73; v = 86; x = 88; l = 76; c = 67; d = 68; m = 77 }

-- a number below 4000: its digits from the thousands on
abbrev pub roman : RomanLetters → ℕ → List ℕ
roman r n = roman_digit r.m r.m r.m (n / 1000) ++
    (roman_digit r.c r.d r.m (n / 100 % 10) ++ (roman_digit r.x r.l r.c (n / 10 % 10) ++
    roman_digit r.i r.v r.x (n % 10)))

-- a number in the 26 letters from `first` on, of at most so many letters
abbrev pub letters_within : ℕ → ℕ → ℕ → List ℕ
letters_within zero first n = []
letters_within (suc most) first n =
    if n == 0 then [] else letters_within most first ((n - 1) / 26) ++ (first + (n - 1) % 26) ∷ []

-- a number above 0 in letters
abbrev pub letters : ℕ → ℕ → List ℕ
letters first n = letters_within n first n

-- a zero before a single digit
abbrev pub with_zero : ℤ → List ℕ
with_zero n = if is_among n 0 9 then 48 ∷ signed_decimal n else signed_decimal n

-- roman letters have no number outside 1 to 3999, and the alphabet none below 1
abbrev pub in_roman : RomanLetters → ℤ → List ℕ
in_roman r n = if is_among n 1 3999 then roman r (unsigned_abs n) else signed_decimal n

-- a number in letters; one that isn't above 0 is written in digits
abbrev pub in_letters : ℕ → ℤ → List ℕ
in_letters first n = if is_positive n then letters first (unsigned_abs n) else signed_decimal n

-- whether a style prints numbers, and not a bullet or nothing
abbrev pub is_numeral : NumStyle → Bool
is_numeral style.Decimal = true
is_numeral style.LeadingZero = true
is_numeral style.LowerRoman = true
is_numeral style.UpperRoman = true
is_numeral style.LowerAlpha = true
is_numeral style.UpperAlpha = true
is_numeral style.Disc = false
is_numeral style.Circle = false
is_numeral style.Square = false
is_numeral style.Nothing = false

-- what a style that prints no numbers prints in their place: U+2022, U+25E6 or U+25AA, or nothing
abbrev pub bullet_of : NumStyle → List ℕ
bullet_of style.Decimal = []
bullet_of style.LeadingZero = []
bullet_of style.LowerRoman = []
bullet_of style.UpperRoman = []
bullet_of style.LowerAlpha = []
bullet_of style.UpperAlpha = []
bullet_of style.Disc = 226 ∷ 128 ∷ 162 ∷ []
bullet_of style.Circle = 226 ∷ 151 ∷ 166 ∷ []
bullet_of style.Square = 226 ∷ 150 ∷ 170 ∷ []
bullet_of style.Nothing = []

-- the text of a number in a style; outside the style's range, its decimal digits
abbrev pub numeral_of : NumStyle → ℤ → List ℕ
numeral_of style.Decimal n = signed_decimal n
numeral_of style.LeadingZero n = with_zero n
numeral_of style.LowerRoman n = in_roman lower_roman n
numeral_of style.UpperRoman n = in_roman upper_roman n
numeral_of style.LowerAlpha n = in_letters 97 n
numeral_of style.UpperAlpha n = in_letters 65 n
numeral_of style.Disc n = bullet_of style.Disc
numeral_of style.Circle n = bullet_of style.Circle
numeral_of style.Square n = bullet_of style.Square
numeral_of style.Nothing n = bullet_of style.Nothing

-- what a roman letter stands for
abbrev pub roman_letter : ℕ → ℕ
roman_letter b =
    if b == 105 || b == 73 then 1 else
    (if b == 118 || b == 86 then 5 else
    (if b == 120 || b == 88 then 10 else
    (if b == 108 || b == 76 then 50 else
    (if b == 99 || b == 67 then 100 else
    (if b == 100 || b == 68 then 500 else
    (if b == 109 || b == 77 then 1000 else 0))))))

-- what the first letter of a text stands for
abbrev pub roman_head : List ℕ → ℕ
roman_head [] = 0
roman_head (b ∷ text) = roman_letter b

-- a letter before a greater one is taken away
abbrev pub counted : ℕ → ℕ → ℤ
counted own next = if nat_lt own next then neg_ℤ (pos own) else pos own

-- what a text of roman letters stands for
abbrev pub roman_value : List ℕ → ℤ
roman_value [] = pos 0
roman_value (b ∷ text) = counted (roman_letter b) (roman_head text) +ℤ roman_value text

-- each roman numeral stands for its number
abbrev pub RomanStandsFor : Type 0
RomanStandsFor =
    (n : ℕ) → n < 4000 → (roman_value (roman lower_roman n) ≡ pos n) × (roman_value (roman upper_roman n) ≡ pos n)

-- what a text of letters stands for: its letters are the digits 1 to 26 of a number in base 26
abbrev pub letters_value : ℕ → List ℕ → ℕ
letters_value first text = fold (λ n b. n * 26 + (b + 1 - first)) 0 text

-- one of the 26 letters from `first` on
abbrev pub IsLetter : ℕ → ℕ → Type 0
IsLetter first b = (first ≤ b) × (b < first + 26)

-- a number's letters are letters, and stand for it
abbrev pub LettersStandFor : Type 0
LettersStandFor = (first n : ℕ) → All (IsLetter first) (letters first n) × (letters_value first (letters first n) ≡ n)

-- no other text of letters stands for it
abbrev pub LettersAreOne : Type 0
LettersAreOne =
    (first : ℕ) (text : List ℕ) → All (IsLetter first) text → letters first (letters_value first text) ≡ text

-- the text of a number in a style; nothing where there is none
abbrev pub number_text : NumStyle → Option ℤ → List ℕ
number_text style None = []
number_text style (Some number) = numeral_of style number
