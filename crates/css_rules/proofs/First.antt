-- A part ends at the first place outside brackets whose token ends it.
use Rattle.std.proofs.Common.{◌≡◌, ◌<◌, ℕ, zero, suc, true, false, List, [], ◌∷◌, length, Some, arith, subst, inl, inr}
use Rattle.std.specs.Prelude.{slice_get}
use Rattle.std.proofs.lemmas.Bool.{cases_Bool}
use Rattle.std.proofs.lemmas.Option.{same_Some}
use Rattle.css_tok.specs.Tokens.{Item}
use Rattle.css_rules.specs.declared.parts.Stop.{Stop}
use Rattle.css_rules.specs.Brackets.{open_at}
use Rattle.css_rules.specs.Brackets.{open_after}
use Rattle.css_rules.specs.Parts.{ends, front_from, EndsFirst}

first_before : (s : Stop) (open' : List ℕ) (ts : List Item) (k : ℕ) (t : Item) → k < length (front_from s open' ts) → slice_get ts k ≡ Some t → ends s (open_at open' ts k) t ≡ false
unfolding open_at front_from
first_before s open' [] k t within is = absurd (omega arith)
first_before s open' (u ∷ ts) zero t within is = elim (cases_Bool (ends s open' u)) [
  | inl stops ↦ absurd (let h : 0 < 0 = rw stops at within in omega arith)
  | inr inside ↦ subst (λ z. ends s open' z ≡ false) (same_Some u t is) inside
]
first_before s open' (u ∷ ts) (suc k) t within is = elim (cases_Bool (ends s open' u)) [
  | inl stops ↦ absurd (let h : suc k < 0 = rw stops at within in omega arith)
  | inr inside ↦ (let h : suc k < suc (length (front_from s (open_after open' u) ts)) = rw inside at within in first_before s (open_after open' u) ts k t (omega arith) is)
]

-- the place a number of tokens on
first_at : (s : Stop) (open' : List ℕ) (ts : List Item) (k : ℕ) (t : Item) → k ≡ length (front_from s open' ts) → slice_get ts k ≡ Some t → ends s (open_at open' ts k) t ≡ true
unfolding open_at front_from
first_at s open' [] k t here is = cc
first_at s open' (u ∷ ts) zero t here is = elim (cases_Bool (ends s open' u)) [
  | inl stops ↦ subst (λ z. ends s open' z ≡ true) (same_Some u t is) stops
  | inr inside ↦ absurd (let h : zero ≡ suc (length (front_from s (open_after open' u) ts)) = rw inside at here in omega arith)
]
first_at s open' (u ∷ ts) (suc k) t here is = elim (cases_Bool (ends s open' u)) [
  | inl stops ↦ absurd (let h : suc k ≡ 0 = rw stops at here in omega arith)
  | inr inside ↦ (let h : suc k ≡ suc (length (front_from s (open_after open' u) ts)) = rw inside at here in first_at s (open_after open' u) ts k t (omega arith) is)
]

pub part_ends : (s : Stop) (open' : List ℕ) (ts : List Item) → EndsFirst s open' ts
part_ends s open' ts = record { before = first_before s open' ts; here = first_at s open' ts }
