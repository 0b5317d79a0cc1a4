-- Texts that a line shows as they are.
use Rattle.std.proofs.Common.{◌≡◌, ◌∙◌, ℕ, Bool, true, false, ◌&&◌, not, List, [], ◌∷◌, ◌++◌, ap, arith, refl}
use Rattle.std.specs.List.{flat_map, list_all}
use Rattle.std.proofs.lemmas.List.Concat.{flat_map-cons}
use Rattle.bk_io.specs.Escapes.{is_control, shown_byte}

-- a text is shown as it is where each of its bytes is
pub all_stand : (f : ℕ → List ℕ) (stands : ℕ → Bool) → ((b : ℕ) → stands b ≡ true → f b ≡ b ∷ []) → (bs : List ℕ) → list_all stands bs ≡ true → flat_map f bs ≡ bs
all_stand f stands one [] h = refl
all_stand f stands one (b ∷ bs) h = by (stands b) refl h (all_stand f stands one bs)
  where
    by : (t : Bool) → stands b ≡ t → (t && list_all stands bs) ≡ true → (list_all stands bs ≡ true → flat_map f bs ≡ bs) → flat_map f (b ∷ bs) ≡ b ∷ bs
    by true e g rest = flat_map-cons f b bs ∙ ap (λ (xs : List ℕ). xs ++ flat_map f bs) (one b e) ∙ ap (λ (xs : List ℕ). b ∷ xs) (rest g)
    by false e g rest = absurd (cc)

-- a byte that is no control is shown as it is
shown_same : (b : ℕ) → not (is_control b) ≡ true → shown_byte b ≡ b ∷ []
unfolding is_control shown_byte
shown_same b h = grind (arith)

-- a text without controls is shown as it is
pub shown_whole : (bs : List ℕ) → list_all (λ b. not (is_control b)) bs ≡ true → flat_map shown_byte bs ≡ bs
shown_whole bs h = all_stand shown_byte (λ b. not (is_control b)) shown_same bs h
