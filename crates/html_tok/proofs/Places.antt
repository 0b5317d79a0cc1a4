-- The first byte that passes a test, and where a text may be cut.
use Rattle.std.proofs.Common.{◌≡◌, ◌⊎◌, inl, inr, ℕ, zero, suc, ◌+◌, ◌<◌, ◌≤◌, Bool, true, false, not, cond, List, [], ◌∷◌, unwrap_or, length, get_or, refl, ap, ◌∙◌, arith}
use Rattle.std.specs.List.{position_or_len, position}
use Rattle.std.specs.Str.{IsCharBoundary, IsUtf8}
use Rattle.std.proofs.lemmas.Str.{IsCharBoundary-end, IsCharBoundary-start, IsCharBoundary-before_ascii, IsCharBoundary-after_ascii}
use Rattle.std.proofs.lemmas.Bool.{cases_Bool, cases_lt}
use Rattle.std.proofs.lemmas.Bool.Decides.{nat_tests}
use Rattle.html_tok.specs.Fields.{stops}
use Rattle.html_tok.specs.declared.classes.Stop.{Stop}
use Rattle.html_tok.specs.declared.classes.Stop.TheVariants as stop

module _ (p : ℕ → Bool) where
  pub place-cons : (b : ℕ) (bs : List ℕ) → position_or_len p (b ∷ bs) ≡ cond (p b) 0 (1 + position_or_len p bs)
  place-cons b bs = by (p b)
    where
      by : (c : Bool) → cond (not c) (1 + position_or_len p bs) 0 ≡ cond c 0 (1 + position_or_len p bs)
      by true = refl
      by false = refl

  pub place-le : (bs : List ℕ) → position_or_len p bs ≤ length bs
  place-le [] = omega arith
  place-le (b ∷ bs) = rw (place-cons b bs) (by (p b) (place-le bs))
    where
      by : (c : Bool) → position_or_len p bs ≤ length bs → cond c 0 (1 + position_or_len p bs) ≤ suc (length bs)
      by true h = omega arith
      by false h = omega arith

  -- the byte there passes
  pub place-passes : (bs : List ℕ) → position_or_len p bs < length bs → p (get_or bs (position_or_len p bs) 0) ≡ true
  place-passes [] h = absurd (omega arith)
  place-passes (b ∷ bs) h = elim (cases_Bool (p b)) [
    | inl t ↦ let e : position_or_len p (b ∷ bs) ≡ 0 = place-cons b bs ∙ rw t refl in rw e t
    | inr f ↦ let e : position_or_len p (b ∷ bs) ≡ suc (position_or_len p bs) = place-cons b bs ∙ rw f (omega arith) in rw e (place-passes bs (omega arith))
  ]

  -- no byte before it does
  pub place-fails : (bs : List ℕ) (k : ℕ) → k < position_or_len p bs → p (get_or bs k 0) ≡ false
  place-fails [] k h = absurd (omega arith)
  place-fails (b ∷ bs) k h = elim (cases_Bool (p b)) [
    | inl t ↦ let e : position_or_len p (b ∷ bs) ≡ 0 = place-cons b bs ∙ rw t refl in absurd (omega arith)
    | inr f ↦ let e : position_or_len p (b ∷ bs) ≡ suc (position_or_len p bs) = place-cons b bs ∙ rw f (omega arith) in by k f (omega arith) (place-fails bs)
  ]
    where
      by : (k : ℕ) → p b ≡ false → k < suc (position_or_len p bs) → ((j : ℕ) → j < position_or_len p bs → p (get_or bs j 0) ≡ false) → p (get_or (b ∷ bs) k 0) ≡ false
      by zero f h rest = f
      by (suc k) f h rest = rest k (omega arith)

  -- the place is that of the first byte
  pub place-is : (bs : List ℕ) (n : ℕ) → n ≤ length bs → ((k : ℕ) → k < n → p (get_or bs k 0) ≡ false) → (n < length bs → p (get_or bs n 0) ≡ true) → position_or_len p bs ≡ n
  place-is [] zero h none here = refl
  place-is [] (suc n) h none here = absurd (omega arith)
  place-is (b ∷ bs) zero h none here = place-cons b bs ∙ rw (here (omega arith)) refl
  place-is (b ∷ bs) (suc n) h none here = place-cons b bs ∙ rw (none 0 (omega arith)) (ap (λ m. 1 + m) (place-is bs n (omega arith) (λ k l. none (suc k) (omega arith)) (λ l. here (omega arith))) ∙ omega arith)

  pub place-or : (bs : List ℕ) → unwrap_or (position p bs) (length bs) ≡ position_or_len p bs
  place-or bs = elim (cases_lt (position_or_len p bs) (length bs)) [ inl l ↦ grind (arith, nat_tests) | inr g ↦ let e = place-le bs in grind (arith, nat_tests) ]

  pub place-boundary : (bs : List ℕ) → IsUtf8 bs → ((b : ℕ) → p b ≡ true → b < 128) ⊎ ((b : ℕ) → p b ≡ false → b < 128) → IsCharBoundary bs (position_or_len p bs)
  place-boundary bs u (inl ascii) = elim (cases_lt (position_or_len p bs) (length bs)) [
    | inl l ↦ IsCharBoundary-before_ascii bs (position_or_len p bs) l (ascii _ (place-passes bs l))
    | inr g ↦ let e : position_or_len p bs ≡ length bs = (let h = place-le bs in omega arith) in rw e (IsCharBoundary-end bs)
  ]
  place-boundary bs u (inr ascii) = by (position_or_len p bs) refl
    where
      by : (n : ℕ) → n ≡ position_or_len p bs → IsCharBoundary bs n
      by zero e = IsCharBoundary-start bs u
      by (suc n) e = let h = place-le bs in let s : suc n ≡ n + 1 = omega arith in rw s (IsCharBoundary-after_ascii bs n u (omega arith) (ascii _ (place-fails bs n (omega arith))))

stops-ascii : (s : Stop) → ((b : ℕ) → stops s b ≡ true → b < 128) ⊎ ((b : ℕ) → stops s b ≡ false → b < 128)
stops-ascii stop.NotSpace = inr (λ b h. grind (arith, nat_tests))
stops-ascii stop.NotBetween = inr (λ b h. grind (arith, nat_tests))
stops-ascii stop.Name = inl (λ b h. grind (arith, nat_tests))
stops-ascii stop.AttributeName = inl (λ b h. grind (arith, nat_tests))
stops-ascii stop.Value = inl (λ b h. grind (arith, nat_tests))

pub stop-boundary : (s : Stop) (bs : List ℕ) → IsUtf8 bs → IsCharBoundary bs (position_or_len (stops s) bs)
stop-boundary s bs u = place-boundary (stops s) bs u (stops-ascii s)
