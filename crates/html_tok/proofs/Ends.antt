-- Where a token ends the text may be cut.
use Rattle.std.proofs.Common.{◌≡◌, ◌⊎◌, ℕ, suc, ◌+◌, ◌-◌, ◌<◌, ◌≤◌, List, [], ◌∷◌, length, get_or, refl, ap, arith, inl, inr, zero-add}
use Rattle.std.specs.Str.{IsCharBoundary, IsUtf8}
use Rattle.std.proofs.lemmas.Str.{IsCharBoundary-end, IsCharBoundary-after_ascii}
use Rattle.std.proofs.lemmas.Bool.{cases_Bool}
use Rattle.memchr.specs.Find.{occurs_at}
use Rattle.memchr.proofs.lemmas.MatchLemmas.{OccursAt-true}
use Rattle.html_tok.specs.Pieces.{len_through}

-- the end of an occurrence, or the end
module _ (needle : List ℕ) (some : 0 < length needle) where
  through_end : (bs : List ℕ) → (len_through needle bs ≡ length bs) ⊎ ((at : ℕ) × (len_through needle bs ≡ at + 1) × (at < length bs) × (get_or bs at 0 ≡ get_or needle (length needle - 1) 0))
  unfolding len_through
  through_end [] = inl refl
  through_end (b ∷ bs) = elim (cases_Bool (occurs_at (b ∷ bs) needle 0)) [
    | inl t ↦ rw t (let h = OccursAt-true (b ∷ bs) needle 0 t in inr (length needle - 1, omega arith, omega (arith, h.fits), rw zero-add at (h.reads (length needle - 1) (omega arith))))
    | inr t ↦ rw t (elim (through_end bs) [ inl e ↦ inl (ap suc e) | inr e ↦ inr (suc e.0, omega (arith, e.1), omega (arith, e.2), e.3) ])
  ]

  pub through_le : (bs : List ℕ) → len_through needle bs ≤ length bs
  through_le bs = elim (through_end bs) [ inl e ↦ omega (arith, e) | inr e ↦ omega (arith, e.1, e.2) ]

  pub through_boundary : (bs : List ℕ) → IsUtf8 bs → get_or needle (length needle - 1) 0 < 128 → IsCharBoundary bs (len_through needle bs)
  through_boundary bs u l = elim (through_end bs) [
    | inl e ↦ rw e (IsCharBoundary-end bs)
    | inr e ↦ rw e.1 (IsCharBoundary-after_ascii bs e.0 u e.2 (rw e.3 l))
  ]

pub through_some : (needle bs : List ℕ) → 0 < length needle → 0 < length bs → 0 < len_through needle bs
through_some needle bs n l = elim (through_end needle n bs) [ inl e ↦ omega (arith, e) | inr e ↦ omega (arith, e.1) ]
