-- Numbers of digits that stop growing past the last character.
use Rattle.std.proofs.Common.{◌≡◌, inl, inr, ℕ, ◌+◌, ◌*◌, ◌<◌, ◌≤◌, min, List, [], ◌∷◌, ◌++◌, take, length, get_or, ap, ◌∙◌, arith}
use Rattle.std.proofs.lemmas.Bool.{cases_lt}
use Rattle.std.proofs.lemmas.List.{take_more}
use Rattle.std.proofs.lemmas.List.Sums.{fold-append}
use Rattle.std.specs.Char.{digit_value}
use Rattle.html_tree.specs.Texts.{number_of}

grows : (v base : ℕ) → 1 ≤ base → v ≤ v * base
grows v base h = grind arith

pub held : (v base d most : ℕ) → 1 ≤ base → min (min v most * base + d) most ≡ min (v * base + d) most
held v base d most h = elim (cases_lt v most) [
  | inl l ↦ let e : min v most ≡ v = omega arith in ap (λ n. min (n * base + d) most) e
  | inr g ↦ let e : min v most ≡ most = omega arith in let a = grows v base h in let b = grows most base h in ap (λ n. min (n * base + d) most) e ∙ omega arith
]

-- one more digit
pub number-more : (base : ℕ) (ds : List ℕ) (i d : ℕ) → i < length ds → get_or ds i 0 ≡ d → number_of base (take (i + 1) ds) ≡ number_of base (take i ds) * base + digit_value d
number-more base ds i d h e = ap (number_of base) (take_more ds i 0 h ∙ ap (λ x. take i ds ++ x ∷ []) e) ∙ fold-append (λ v x. v * base + digit_value x) 0 (take i ds) (d ∷ [])
