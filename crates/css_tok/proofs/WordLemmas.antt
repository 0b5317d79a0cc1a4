-- A comparison with a word, a part at a time.
use Rattle.std.specs.Prelude.{MatchOption, IsTrue, ◌↔◌, ◌==◌, Option, Some, None}
use Rattle.std.proofs.lemmas.Slice.Eq.{bytes_eq-Decides}
use Rattle.std.proofs.lemmas.Bool.Decides.{nat_tests}
use Rattle.std.proofs.Common.{rules, append-nil, ◌≡◌, ℕ, suc, ◌<◌, ◌≤◌, Bool, true, false, ◌&&◌, List, [], ◌∷◌, ◌++◌, take, drop, length, refl, ap, arith, map, eqb, ◌∙◌, sym}
use Rattle.std.specs.Str.{str_eq_ignore_ascii_case}
use Rattle.std.specs.Char.{to_ascii_lowercase}
use Rattle.std.proofs.Math.Bool.{and-false}

pub and_assoc : (a b c : Bool) → (a && (b && c)) ≡ ((a && b) && c)
and_assoc true b c = refl
and_assoc false b c = refl

pub long_part : (part word rest : List ℕ) → length word < length part → str_eq_ignore_ascii_case (part ++ rest) word ≡ false
long_part [] word rest long = absurd (omega arith)
long_part (p ∷ ps) [] rest long = refl
long_part (p ∷ ps) (w ∷ ws) rest long = ap (λ z. eqb (to_ascii_lowercase p) (to_ascii_lowercase w) && z) (long_part ps ws rest (omega arith)) ∙ and-false (eqb (to_ascii_lowercase p) (to_ascii_lowercase w))

pub parted : (part word rest : List ℕ) → length part ≤ length word → str_eq_ignore_ascii_case (part ++ rest) word ≡ (str_eq_ignore_ascii_case part (take (length part) word) && str_eq_ignore_ascii_case rest (drop (length part) word))
parted [] word rest fits = refl
parted (p ∷ ps) [] rest fits = absurd (omega arith)
parted (p ∷ ps) (w ∷ ws) rest fits =
    ap (λ z. eqb (to_ascii_lowercase p) (to_ascii_lowercase w) && z) (parted ps ws rest (omega arith))
    ∙ and_assoc (eqb (to_ascii_lowercase p) (to_ascii_lowercase w)) (str_eq_ignore_ascii_case ps (take (length ps) ws)) (str_eq_ignore_ascii_case rest (drop (length ps) ws))

-- the test of the code is that of the definition
pub same_case : (part front : List ℕ) (r : Bool) → (IsTrue r ↔ (map to_ascii_lowercase part ≡ map to_ascii_lowercase front)) → str_eq_ignore_ascii_case part front ≡ r
same_case part front r test = sym (search (rules, bytes_eq-Decides))

-- a text begins with the part up to its first escape
pub begins : {X : Type 0} (o : Option X) (all front : List ℕ) (behind : X → List ℕ) → MatchOption o (all ≡ front) (λ x. all ≡ front ++ behind x) → (tail : List ℕ) × (all ≡ front ++ tail)
begins None all front behind is = ([], is ∙ sym (append-nil front))
begins (Some x) all front behind is = (behind x, is)

pub empty_is : (word : List ℕ) → str_eq_ignore_ascii_case [] word ≡ (length word == 0)
empty_is [] = refl
empty_is (w ∷ ws) = let e : (suc (length ws) == 0) ≡ false = grind (arith, nat_tests) in sym e
