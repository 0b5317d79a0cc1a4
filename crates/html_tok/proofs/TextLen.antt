-- The length of a text, past bytes that end nothing.
use Rattle.std.proofs.Common.{◌≡◌, ◌⊎◌, inl, inr, ℕ, zero, suc, ◌+◌, ◌-◌, ◌<◌, ◌≤◌, true, false, not, List, [], ◌∷◌, length, drop, get_or, refl, ap, sym, ◌∙◌, arith, eqb, zero-add, eq-eqb, length-drop, drop-drop}
use Rattle.memchr.specs.Find.{Nowhere, Passes, is_byte}
use Rattle.std.specs.Str.{IsCharBoundary}
use Rattle.std.proofs.lemmas.Str.{IsCharBoundary-end, IsCharBoundary-before_ascii}
use Rattle.std.proofs.lemmas.Bool.{cases_Bool, cases_eq, both_ways}
use Rattle.html_tok.specs.Pieces.{opening_of, is_text, ends_raw, ends_at, text_len, TextEnd, by_markup, by_end_of}

eqb_no : (a b : ℕ) → (a ≡ b → ⊥) → eqb a b ≡ false
eqb_no a b h = grind arith

text_from_byte : (b : ℕ) (bs : List ℕ) → (b ≡ 60 → ⊥) → is_text (opening_of (b ∷ bs)) ≡ true
unfolding opening_of
text_from_byte b bs h = let e : eqb b 60 ≡ false = eqb_no b 60 h in let e' : eqb 60 b ≡ false = eqb_no 60 b (λ q. h (sym q)) in simp (e, e')

raw_from_byte : (e : _) (b : ℕ) (bs : List ℕ) → (b ≡ 60 → ⊥) → ends_raw e (b ∷ bs) ≡ false
unfolding ends_raw
raw_from_byte e b bs h = let e : eqb b 60 ≡ false = eqb_no b 60 h in let e' : eqb 60 b ≡ false = eqb_no 60 b (λ q. h (sym q)) in simp (e, e')

-- only a `<` ends a text
ends_not : (u : TextEnd) (b : ℕ) (bs : List ℕ) → (b ≡ 60 → ⊥) → ends_at u (b ∷ bs) ≡ false
ends_not by_markup b bs h = ap not (text_from_byte b bs h)
ends_not (by_end_of e) b bs h = raw_from_byte e b bs h

module _ (u : TextEnd) where
  text_len_skip : (n : ℕ) (bs : List ℕ) → n ≤ length bs → ((k : ℕ) → k < n → get_or bs k 0 ≡ 60 → ⊥) → text_len u bs ≡ n + text_len u (drop n bs)
  unfolding text_len
  text_len_skip zero bs h none = sym (zero-add (text_len u bs))
  text_len_skip (suc n) [] h none = absurd (omega arith)
  text_len_skip (suc n) (b ∷ bs) h none =
      rw (ends_not u b bs (none 0 (omega arith))) (ap suc (text_len_skip n bs (omega arith) (λ k l. none (suc k) (omega arith))) ∙ omega arith)

  -- a place that ends nothing goes on with the next
  pub text_len_more : (bs : List ℕ) → 0 < length bs → ends_at u bs ≡ false → text_len u bs ≡ 1 + text_len u (drop 1 bs)
  unfolding text_len
  text_len_more [] h t = absurd (omega arith)
  text_len_more (b ∷ bs) h t = rw t (omega arith)

  text_len_none : (bs : List ℕ) → ends_at u bs ≡ true → text_len u bs ≡ 0
  unfolding text_len
  text_len_none [] t = refl
  text_len_none (b ∷ bs) t = rw t refl

  text_len_empty : (bs : List ℕ) → length bs ≡ 0 → text_len u bs ≡ 0
  unfolding text_len
  text_len_empty [] h = refl
  text_len_empty (b ∷ bs) h = absurd (omega arith)

  module _ (rest : List ℕ) (from found : ℕ) (so_far : text_len u rest ≡ from + text_len u (drop from rest)) (within : from ≤ length rest) (none : Nowhere (Passes (is_byte 60) (drop from rest)) 0 found) where
    skipped : found ≤ length rest - from → text_len u rest ≡ from + (found + text_len u (drop (from + found) rest))
    skipped l = so_far ∙ ap (λ n. from + n) (text_len_skip found (drop from rest) (simp length-drop (omega arith)) (λ k h e. none k (omega arith) h (eq-eqb _ _ e)) ∙ ap (λ d. found + text_len u d) (drop-drop found from rest))

    pub text_goes_on : found < length rest - from → ends_at u (drop (from + found) rest) ≡ false → text_len u rest ≡ (from + found + 1) + text_len u (drop (from + found + 1) rest)
    text_goes_on l t =
        let more : text_len u (drop (from + found) rest) ≡ 1 + text_len u (drop (from + found + 1) rest) =
        text_len_more (drop (from + found) rest) (simp length-drop (omega arith)) t ∙ ap (λ d. 1 + text_len u d) (drop-drop 1 (from + found) rest) in
        skipped (omega arith) ∙ rw more (omega arith)

    pub text_ends : found < length rest - from → ends_at u (drop (from + found) rest) ≡ true → text_len u rest ≡ from + found
    text_ends l t = skipped (omega arith) ∙ rw (text_len_none _ t) (omega arith)

    pub text_to_end : found ≡ length rest - from → text_len u rest ≡ length rest
    text_to_end e = skipped (omega arith) ∙ rw (text_len_empty (drop (from + found) rest) (simp length-drop (omega arith))) (omega arith)

  -- a text ends at the end or before a `<`
  text_end : (bs : List ℕ) → (text_len u bs ≡ length bs) ⊎ ((text_len u bs < length bs) × (get_or bs (text_len u bs) 0 ≡ 60))
  unfolding text_len
  text_end [] = inl refl
  text_end (b ∷ bs) = elim (cases_Bool (ends_at u (b ∷ bs))) [
    | inr t ↦ rw t (elim (text_end bs) [ inl e ↦ inl (ap suc e) | inr e ↦ inr (omega (arith, e.0), e.1) ])
    | inl t ↦ rw t (elim (cases_eq b 60) [ inl e ↦ inr (omega arith, e) | inr n ↦ absurd (both_ways _ (ends_not u b bs n) t) ])
  ]

  pub text_boundary : (bs : List ℕ) → IsCharBoundary bs (text_len u bs)
  text_boundary bs = elim (text_end bs) [
    | inl e ↦ rw e (IsCharBoundary-end bs)
    | inr e ↦ IsCharBoundary-before_ascii bs (text_len u bs) e.0 (rw e.1 (omega arith))
  ]
