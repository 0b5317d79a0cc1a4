-- What is done once more, and lists made of a range.
use Rattle.std.proofs.Common.{◌≡◌, ◌∙◌, ℕ, zero, suc, ◌+◌, ◌<◌, List, [], ◌∷◌, ◌++◌, length, refl, sym, ap, arith, append_assoc}
use Rattle.std.specs.Fn.{iterate}
use Rattle.std.specs.List.{flat_map, join_with_byte, range_with_len}
use Rattle.bk_num.proofs.ListLemmas.{flat-more}

iterate-next : {A : Type 0} (h : A → A) (n : ℕ) (x : A) → iterate h (suc n) x ≡ h (iterate h n x)
iterate-next h zero x = refl
iterate-next h (suc n) x = iterate-next h n (h x)

pub iterate-more : {A : Type 0} (h : A → A) (n : ℕ) (x : A) → iterate h (n + 1) x ≡ h (iterate h n x)
iterate-more h n x = let more : n + 1 ≡ suc n = omega arith in ap (λ k. iterate h k x) more ∙ iterate-next h n x

pub iterate-add : {A : Type 0} (h : A → A) (m n : ℕ) (x : A) → iterate h n (iterate h m x) ≡ iterate h (m + n) x
iterate-add h zero n x = let e : n ≡ zero + n = omega arith in ap (λ k. iterate h k x) e
iterate-add h (suc m) n x = let e : suc (m + n) ≡ suc m + n = omega arith in iterate-add h m n (h x) ∙ ap (λ k. iterate h k x) e

pub join-more : (c : ℕ) (parts : List (List ℕ)) (next : List ℕ) → 0 < length parts → join_with_byte c (parts ++ next ∷ []) ≡ join_with_byte c parts ++ c ∷ next
join-more c [] next h = absurd (omega arith)
join-more c (part ∷ []) next h = refl
join-more c (part ∷ other ∷ parts) next h =
    ap (λ (z : List ℕ). part ++ (c ∷ z)) (join-more c (other ∷ parts) next (omega arith)) ∙
    sym (append_assoc part (c ∷ join_with_byte c (other ∷ parts)) (c ∷ next))

pub flat-one-more : (f : ℕ → List ℕ) (n : ℕ) → flat_map f (range_with_len 1 (n + 1)) ≡ flat_map f (range_with_len 1 n) ++ f (n + 1)
flat-one-more f n =
    let more : n + 1 ≡ suc n = omega arith in
    let e : 1 + n ≡ n + 1 = omega arith in
    ap (λ (k : ℕ). flat_map f (range_with_len 1 k)) more ∙ flat-more f 1 n ∙ ap (λ (k : ℕ). flat_map f (range_with_len 1 n) ++ f k) e
