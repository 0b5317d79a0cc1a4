-- What digits write.
use Rattle.std.proofs.Common.{◌≡◌, refl, ℕ, suc, ◌+◌, ◌*◌, ◌^◌, ◌-◌, ◌<◌, ◌≤◌, Bool, true, false, List, [], ◌∷◌, length, take, get_or, min, sym, arith, rules}
use Rattle.std.specs.Char.{is_ascii_digit, digit_value}
use Rattle.std.specs.Int.{IsInRange}
use Rattle.std.specs.List.{list_all}
use Rattle.std.specs.Str.Parse.{digits_value}
use Rattle.std.proofs.Math.Nat.{pow-le-pow_right, pow-succ'}
use Rattle.std.proofs.lemmas.Str.{digit_value_digit}
use Rattle.std.proofs.lemmas.Int.Digits.{digits_value_more}
use Rattle.std.proofs.lemmas.List.Folds.{list_all_at}
use Rattle.css_tok.specs.declared.lengths.Class.TheVariants as class
use Rattle.css_tok.specs.Lengths.{run_from, run_len, unit_len}

pub digit_is : (b : ℕ) → is_ascii_digit b ≡ true → (digit_value b ≡ b - 48) × (b - 48 < 10) × (48 ≤ b)
digit_is b h =
    let r : IsInRange 48 57 b = search rules in
    let v : digit_value b + 48 ≡ b = digit_value_digit b r in
    let low : 48 ≤ b = omega (arith) in
    let high : b ≤ 57 = search rules in
    (omega arith, omega arith, low)

pub digit_at : (ds : List ℕ) (i : ℕ) → list_all is_ascii_digit ds ≡ true → i < length ds → is_ascii_digit (get_or ds i 0) ≡ true
digit_at ds i all low = by (is_ascii_digit (get_or ds i 0)) refl
  where
    by : (t : Bool) → is_ascii_digit (get_or ds i 0) ≡ t → is_ascii_digit (get_or ds i 0) ≡ true
    by true e = e
    by false e =
        let no : list_all is_ascii_digit ds ≡ false = list_all_at is_ascii_digit ds i 0 low e in
        absurd (cc)

pub value_more : (ds : List ℕ) (i v : ℕ) → i < length ds → v ≡ digits_value 10 (take i ds) → v * 10 + digit_value (get_or ds i 0) ≡ digits_value 10 (take (i + 1) ds)
value_more ds i v low e = rw e (sym (digits_value_more 10 ds i low))

pub power_more : (i v d : ℕ) → v < 10 ^ i → d < 10 → v * 10 + d < 10 ^ (i + 1)
power_more i v d a b =
    let s : i + 1 ≡ suc i = omega arith in
    let e : 10 ^ suc i ≡ 10 * 10 ^ i = pow-succ' 10 i in
    rw (s, e) (omega arith)

pub whole_more : (ds : List ℕ) (i v d : ℕ) → i < length ds → v ≡ min 999999999 (digits_value 10 (take i ds)) → d ≡ digit_value (get_or ds i 0) → min (v * 10 + d) 999999999 ≡ min 999999999 (digits_value 10 (take (i + 1) ds))
whole_more ds i v d low e f =
    let m : digits_value 10 (take (i + 1) ds) ≡ digits_value 10 (take i ds) * 10 + digit_value (get_or ds i 0) = digits_value_more 10 ds i low in
    rw (m, e, f) (omega arith)

digits_more : (b : ℕ) (bs : List ℕ) (t : Bool) → is_ascii_digit b ≡ t → list_all is_ascii_digit (take (run_len class.Digit bs) bs) ≡ true → list_all is_ascii_digit (take (run_len class.Digit (b ∷ bs)) (b ∷ bs)) ≡ true
unfolding run_from unit_len
digits_more b bs true e h =
    let n : run_len class.Digit (b ∷ bs) ≡ suc (run_len class.Digit bs) = rw e refl in
    rw n (rw e h)
digits_more b bs false e h = rw e refl

pub digits_are : (bs : List ℕ) → list_all is_ascii_digit (take (run_len class.Digit bs) bs) ≡ true
unfolding run_from
digits_are [] = refl
digits_are (b ∷ bs) = digits_more b bs (is_ascii_digit b) refl (digits_are bs)

pub small_is : (w n v : ℕ) → w ≤ 999999999 → n ≤ 6 → v < 10 ^ n → w * 10 ^ n + v < 10 ^ 15
small_is w n v a b c =
    let p : 10 ^ n ≤ 10 ^ 6 = pow-le-pow_right {n = 10} (omega arith) b in
    let q : w * 10 ^ n ≤ 999999999 * 10 ^ n = le-mul a in
    omega arith
  where
    le-mul : w ≤ 999999999 → w * 10 ^ n ≤ 999999999 * 10 ^ n
    le-mul h = grind arith
