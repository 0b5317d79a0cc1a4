-- Where `-->` stands, by the places of `>`.
use Rattle.std.proofs.Common.{◌≡◌, inl, inr, ℕ, zero, suc, ◌+◌, ◌-◌, ◌<◌, ◌≤◌, true, false, ◌&&◌, ◌==◌, nat_le, List, [], ◌∷◌, length, drop, slice_index, refl, ap, sym, ◌∙◌, subst, arith, eq-eqb}
use Rattle.html_tok.specs.Pieces.{len_through, dashes}
use Rattle.html_tok.proofs.Through.{len_through_found}
use Rattle.memchr.specs.Find.{Nowhere, OccursAt, Passes, is_byte}
use Rattle.std.proofs.lemmas.Bool.{cases_lt, both_ways, and_parts, and_from}
use Rattle.std.proofs.lemmas.Bool.Decides.{nat_tests}
use Rattle.std.proofs.lemmas.Map.Views.{exact_unsigned_eq}

abbrev pub arrow : List ℕ
arrow = 45 ∷ 45 ∷ 62 ∷ []

index-drop : (bs : List ℕ) (n k : ℕ) → slice_index (drop n bs) k ≡ slice_index bs (n + k)
index-drop bs zero k = (let e : k ≡ 0 + k = omega arith in ap (slice_index bs) e)
index-drop [] (suc n) k = refl
index-drop (b ∷ bs) (suc n) k = (let e : suc (n + k) ≡ suc n + k = omega arith in index-drop bs n k ∙ ap (slice_index (b ∷ bs)) e)

pub arrow-there : (bs : List ℕ) (at : ℕ) → at < length bs → slice_index bs at ≡ 62 → dashes bs at ≡ true → (2 ≤ at) × OccursAt bs arrow (at - 2)
arrow-there bs at within is t =
    let p = and_parts (nat_le 2 at && slice_index bs (at - 1) == 45) (slice_index bs (at - 2) == 45) t in
    let q = and_parts (nat_le 2 at) (slice_index bs (at - 1) == 45) p.0 in
    let two : 2 ≤ at = grind (arith, nat_tests, q.0) in
    (two, record { fits = omega arith; reads = reads two (exact_unsigned_eq _ 45 q.1) (exact_unsigned_eq _ 45 p.1) })
  where
    reads : 2 ≤ at → slice_index bs (at - 1) ≡ 45 → slice_index bs (at - 2) ≡ 45 → (j : ℕ) → j < 3 → slice_index bs (at - 2 + j) ≡ slice_index arrow j
    reads two one other zero l = (let e : at - 2 + 0 ≡ at - 2 = omega arith in rw e other)
    reads two one other (suc zero) l = (let e : at - 2 + 1 ≡ at - 1 = omega arith in rw e one)
    reads two one other (suc (suc zero)) l = (let e : at - 2 + 2 ≡ at = omega arith in rw e is)
    reads two one other (suc (suc (suc j))) l = absurd (omega arith)

dashes-of : (bs : List ℕ) (at : ℕ) → 2 ≤ at → OccursAt bs arrow (at - 2) → dashes bs at ≡ true
dashes-of bs at two o =
    let one : slice_index bs (at - 1) ≡ 45 = (let e : at - 2 + 1 ≡ at - 1 = omega arith in rw e at (o.reads 1 (omega arith))) in
    let other : slice_index bs (at - 2) ≡ 45 = (let e : at - 2 + 0 ≡ at - 2 = omega arith in rw e at (o.reads 0 (omega arith))) in
    let le : nat_le 2 at ≡ true = grind (arith, nat_tests) in
    and_from (nat_le 2 at && slice_index bs (at - 1) == 45) (slice_index bs (at - 2) == 45) (and_from (nat_le 2 at) (slice_index bs (at - 1) == 45) le (eq-eqb _ 45 one)) (eq-eqb _ 45 other)

module _ (bs : List ℕ) (from : ℕ) (so_far : Nowhere (OccursAt bs arrow) 0 (from - 2)) where
  -- none ends in a part without `>`
  pub arrow-none : (to : ℕ) → Nowhere (Passes (is_byte 62) (drop from bs)) 0 (to - from) → (k : ℕ) → k + 2 < to → OccursAt bs arrow k → ⊥
  arrow-none to none k l o = elim (cases_lt k (from - 2)) [
    | inl h ↦ so_far k (omega arith) h o
    | inr g ↦ none (k + 2 - from) (omega arith) (omega arith) (let e : from + (k + 2 - from) ≡ k + 2 = omega arith in eq-eqb _ 62 (index-drop bs from (k + 2 - from) ∙ ap (slice_index bs) e ∙ o.reads 2 (omega arith)))
  ]

  pub arrow-more : (found : ℕ) → Nowhere (Passes (is_byte 62) (drop from bs)) 0 found → dashes bs (from + found) ≡ false → Nowhere (OccursAt bs arrow) 0 (from + found + 1 - 2)
  arrow-more found none t k low high o = elim (cases_lt (k + 2) (from + found)) [
    | inl h ↦ arrow-none (from + found) (λ j a b. none j a (omega arith)) k h o
    | inr g ↦ (let e : k ≡ from + found - 2 = omega arith in both_ways _ t (dashes-of bs (from + found) (omega arith) (subst (OccursAt bs arrow) e o)))
  ]

  pub arrow-is : (found : ℕ) → Nowhere (Passes (is_byte 62) (drop from bs)) 0 found → from + found < length bs → is_byte 62 (slice_index (drop from bs) found) ≡ true → dashes bs (from + found) ≡ true → len_through arrow bs ≡ from + found + 1
  arrow-is found none within here t =
      let there = arrow-there bs (from + found) within (sym (index-drop bs from found) ∙ exact_unsigned_eq _ 62 here) t in
      let two = there.0 in
      len_through_found arrow bs (from + found - 2) (omega arith) (λ k l h o. arrow-none (from + found) (λ j a b. none j a (omega arith)) k (omega arith) o) there.1 ∙ omega arith
