-- Lists that are made of a part for each number below a bound.
use Rattle.std.proofs.Common.{◌≡◌, ◌∙◌, ◌<◌, ◌+◌, ◌-◌, ◌++◌, ℕ, suc, List, ap, sym, append_assoc, arith}
use Rattle.std.specs.List.{flat_map, range_with_len}

-- a list and the parts from a number on are the list with the part of this number and the parts after it
pub range_step : {A : Type 0} (f : ℕ → List A) (at n : ℕ) (old new whole : List A) → at < n → new ≡ old ++ f at →
    old ++ flat_map f (range_with_len at (n - at)) ≡ whole → new ++ flat_map f (range_with_len (at + 1) (n - (at + 1))) ≡ whole
range_step {A} f at n old new whole h pushed before =
    let rest : List A = flat_map f (range_with_len (at + 1) (n - (at + 1))) in
    let more : n - at ≡ suc (n - (at + 1)) = omega arith in
    ap (λ (xs : List A). xs ++ rest) pushed
    ∙ (append_assoc old (f at) rest
    ∙ (ap (λ (k : ℕ). old ++ flat_map f (range_with_len at k)) (sym more) ∙ before))
