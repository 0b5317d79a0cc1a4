-- The bytes up to and with the first occurrence of a needle.
use Rattle.std.proofs.Common.{◌≡◌, ℕ, zero, suc, ◌+◌, ◌<◌, false, List, [], ◌∷◌, length, refl, ap, ◌∙◌, arith}
use Rattle.std.proofs.Math.Nat.{suc-add}
use Rattle.std.proofs.lemmas.Bool.{false_from_ne_true}
use Rattle.memchr.specs.Find.{OccursAt, occurs_at, Nowhere}
use Rattle.memchr.proofs.lemmas.MatchLemmas.{OccursAt-true, occurs_at-true}
use Rattle.html_tok.specs.Pieces.{len_through}

-- an occurrence in the rest is one later on
later : (b : ℕ) (bs needle : List ℕ) (k : ℕ) → OccursAt bs needle k → OccursAt (b ∷ bs) needle (suc k)
later b bs needle k h = record {
  fits = omega (arith, h.fits);
  reads = λ j l. rw suc-add (h.reads j l);
}

earlier : (b : ℕ) (bs needle : List ℕ) (k : ℕ) → OccursAt (b ∷ bs) needle (suc k) → OccursAt bs needle k
earlier b bs needle k h = record {
  fits = omega (arith, h.fits);
  reads = λ j l. rw suc-add at (h.reads j l);
}

not_here : (bs needle : List ℕ) (n : ℕ) → 0 < n → Nowhere (OccursAt bs needle) 0 n → occurs_at bs needle 0 ≡ false
not_here bs needle n l none = false_from_ne_true _ (λ e. none 0 (omega arith) l (OccursAt-true bs needle 0 e))

pub len_through_found : (needle bs : List ℕ) (at : ℕ) → 0 < length needle → Nowhere (OccursAt bs needle) 0 at → OccursAt bs needle at → len_through needle bs ≡ at + length needle
unfolding len_through
len_through_found needle [] at some none here = absurd (omega (arith, here.fits))
len_through_found needle (b ∷ bs) zero some none here = rw (occurs_at-true (b ∷ bs) needle 0 here) (omega arith)
len_through_found needle (b ∷ bs) (suc at) some none here =
    rw (not_here (b ∷ bs) needle (suc at) (omega arith) none) (
    ap suc (len_through_found needle bs at some (λ k l m h. none (suc k) (omega arith) (omega arith) (later b bs needle k h)) (earlier b bs needle at here)) ∙ omega arith)

pub len_through_none : (needle bs : List ℕ) → Nowhere (OccursAt bs needle) 0 (length bs + 1) → len_through needle bs ≡ length bs
unfolding len_through
len_through_none needle [] none = refl
len_through_none needle (b ∷ bs) none =
    rw (not_here (b ∷ bs) needle (length {A = ℕ} (b ∷ bs) + 1) (omega arith) none) (
    ap suc (len_through_none needle bs (λ k l m h. none (suc k) (omega arith) (omega arith) (later b bs needle k h))))
