-- Values that are raised by others.
use Rattle.std.proofs.Common.{◌≡◌, ℕ, ◌+◌, ◌-◌, ◌<◌, ◌≤◌, true, false, ◌&&◌, ltb, leb, List, length, get_or, max, min, refl, arith, ⊎_elim, if◌then◌else◌}
use Rattle.std.proofs.lemmas.Bool.{cases_lt}
use Rattle.std.proofs.lemmas.Bool.Decides.{nat_tests}
use Rattle.std.proofs.lemmas.List.{get_or_past}

-- the values after the first k of the others
abbrev pub raised : List ℕ → List ℕ → ℕ → ℕ → ℕ → ℕ
raised old others from k q = if leb from q && ltb q (from + k) then max (get_or old q 0) (get_or others (q - from) 0) else get_or old q 0

-- after the last of them, as far as there are values
pub raised_all : (old others : List ℕ) (from count q : ℕ) → count ≡ min (length others) (length old - from) → from ≤ length old → q < length old → raised old others from count q ≡ max (get_or old q 0) (if leb from q then get_or others (q - from) 0 else 0)
raised_all old others from count q is within inside = ⊎_elim
    (λ (l : q < from). let no : leb from q ≡ false = grind (arith, nat_tests, l) in rw no (omega arith))
    (λ (l : from ≤ q). ⊎_elim
    (λ (below : q < from + count). let yes : leb from q ≡ true = grind (arith, nat_tests, l) in let here : ltb q (from + count) ≡ true = grind (arith, nat_tests, below) in rw (yes, here) refl)
    (λ (past : from + count ≤ q). let yes : leb from q ≡ true = grind (arith, nat_tests, l) in let gone : ltb q (from + count) ≡ false = grind (arith, nat_tests, past) in let none : get_or others (q - from) 0 ≡ 0 = get_or_past others (q - from) 0 (omega arith) in rw (yes, gone, none) (omega arith))
    (cases_lt q (from + count)))
    (cases_lt q from)

-- values raised by fewer, from the first on
pub raised_whole : (new old others : List ℕ) → length new ≡ length old → length others ≤ length old → ((q : ℕ) → q < length old → get_or new q 0 ≡ max (get_or old q 0) (if leb 0 q then get_or others (q - 0) 0 else 0)) → (q : ℕ) → get_or new q 0 ≡ max (get_or old q 0) (get_or others q 0)
raised_whole new old others same fewer each q = ⊎_elim
    (λ (l : q < length old). grind (arith, nat_tests, each q l))
    (λ (l : length old ≤ q).
    let a : get_or new q 0 ≡ 0 = get_or_past new q 0 (omega arith) in
    let b : get_or old q 0 ≡ 0 = get_or_past old q 0 l in
    let d : get_or others q 0 ≡ 0 = get_or_past others q 0 (omega arith) in
    omega (arith, a, b, d))
    (cases_lt q (length old))
