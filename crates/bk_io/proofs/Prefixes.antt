-- The longest front of a list of bytes that is UTF-8.
use Rattle.std.proofs.Common.{◌≡◌, ℕ, zero, suc, ◌≤◌, List, length, take, Bool, true, false, cond, refl, arith, subst, inl, inr}
use Rattle.std.specs.Str.{IsUtf8, is_utf8}
use Rattle.std.specs.Str.Lossy.{utf8_valid_len, valid_len_up_to}
use Rattle.std.proofs.Math.Nat.{le-suc_iff}
use Rattle.std.proofs.lemmas.Str.{IsUtf8-nil, IsUtf8-from_is_utf8, is_utf8-from_IsUtf8}
use Rattle.bk_io.specs.Texts.{IsLongestPrefix}

-- of the fronts of at most so many bytes, the longest that is UTF-8
pub record IsLongestUpTo (bs : List ℕ) (n at : ℕ) : Type 0 where
  pub within : at ≤ n
  pub utf8 : IsUtf8 (take at bs)
  pub greatest : (k : ℕ) → k ≤ n → IsUtf8 (take k bs) → k ≤ at

one_more : (bs : List ℕ) (n at : ℕ) (b : Bool) → is_utf8 (take (suc n) bs) ≡ b → IsLongestUpTo bs n at → IsLongestUpTo bs (suc n) (cond b (suc n) at)
one_more bs n at true e before = record { within = omega arith; utf8 = IsUtf8-from_is_utf8 _ e; greatest = λ k h u. h }
one_more bs n at false e before = record {
  within = omega (arith, before.within);
  utf8 = before.utf8;
  greatest = λ k h u. elim (le-suc_iff.0 h) [
    | inl small ↦ before.greatest k small u
    | inr same ↦ absurd (let t : is_utf8 (take (suc n) bs) ≡ true = is_utf8-from_IsUtf8 _ (subst (λ j. IsUtf8 (take j bs)) same u) in cc)
  ];
}

pub up_to : (bs : List ℕ) (n : ℕ) → IsLongestUpTo bs n (valid_len_up_to bs n)
up_to bs zero = record { within = omega arith; utf8 = IsUtf8-nil; greatest = λ k h u. h }
up_to bs (suc n) = one_more bs n (valid_len_up_to bs n) (is_utf8 (take (suc n) bs)) refl (up_to bs n)

pub longest : (bs : List ℕ) → IsLongestPrefix bs (utf8_valid_len bs)
unfolding utf8_valid_len
longest bs = let h : IsLongestUpTo bs (length bs) (valid_len_up_to bs (length bs)) = up_to bs (length bs) in record { within = h.within; utf8 = h.utf8; greatest = h.greatest }
