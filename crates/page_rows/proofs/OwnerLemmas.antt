-- What is led by the innermost box that is open has an open box as its owner.
use Rattle.std.proofs.Common.{◌≡◌, ℕ, Bool, true, false, not, List, [], ◌∷◌, Option, None, Some, All, Contains, length, take, eqb, refl, sym, ap, subst, arith}
use Rattle.std.proofs.Math.Seq.{take-length}
use Rattle.std.proofs.lemmas.Bool.{eqb-true}
use Rattle.std.specs.Option.{option_eq}
use Rattle.boxes.specs.Tree.{HaveOwners, around_of, first_of, open_after}
use Rattle.boxes.specs.declared.leaf.Lead.{Lead}
use Rattle.boxes.specs.declared.place.Event.{Event}

front : (boxes : List ℕ) (b : ℕ) → first_of boxes ≡ Some b → Contains boxes b
front [] b e = absurd cc
front (x ∷ xs) b e = (0, omega arith, cc)

pub owned : (es : List Event) (leads : List Lead) (n b : ℕ) → n ≡ length es → around_of es n ≡ Some b →
    All (λ lead. lead.owner ≡ b) leads → HaveOwners es leads
owned es leads n b len e all k d less =
    let here : first_of (open_after [] (take (length es) es)) ≡ Some b = subst (λ (m : ℕ). around_of es m ≡ Some b) len e in
    let first : first_of (open_after [] es) ≡ Some b = subst (λ (xs : List Event). first_of (open_after [] xs) ≡ Some b) (take-length es) here in
    subst (λ (o : ℕ). Contains (open_after [] es) o) (sym (all k d less)) (front (open_after [] es) b first)

-- an option that is told to be a number is that number
pub is_number : (o : Option ℕ) (b : ℕ) → not (option_eq eqb o (Some b)) ≡ false → o ≡ Some b
is_number None b e = absurd cc
is_number (Some a) b e = by (eqb a b) refl e
  where
    by : (t : Bool) → eqb a b ≡ t → not t ≡ false → Some a ≡ Some b
    by true same e = ap (λ (n : ℕ). Some n) (eqb-true a b same)
    by false same e = absurd cc
