-- Numbers that a text writes.
use Rattle.std.specs.Prelude.{ℕ, Bool, not, ◌==◌, ◌&&◌, ◌||◌, nat_lt, nat_le, if◌then◌else◌}

-- whether a number is that of a character: at most 10FFFF, and no surrogate (Unicode, 3.9)
abbrev pub is_scalar : ℕ → Bool
is_scalar n = nat_lt n 0xD800 || nat_le 0xE000 n && nat_lt n 0x11_0000

-- the character of a number, in an escape of CSS (css-syntax-3, 4.3.7) and in a reference of HTML (HTML, 13.2.5.80):
-- U+FFFD for 0, surrogates and numbers above 10FFFF
abbrev pub character_of : ℕ → ℕ
character_of n = if n == 0 || not (is_scalar n) then 0xFFFD else n

-- the greatest whole number that a style sheet writes: a greater one is read as it
abbrev pub most_whole : ℕ
most_whole = 999999999
