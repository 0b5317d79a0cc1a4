-- A named reference is of a row whose name begins with its first letter.
use Rattle.std.proofs.Common.{◌≡◌, ℕ, ◌==◌, ◌&&◌, Bool, true, false, not, List, [], ◌∷◌, nat_eq, get_or, cond, refl}
use Rattle.std.proofs.lemmas.Map.Views.{exact_unsigned_eq}
use Rattle.std.specs.List.{starts_with, list_all}
use Rattle.html_tree.specs.Texts.{named}
use Rattle.html_tree.specs.Words.{begins_with, starting}

-- a row whose name begins with another byte doesn't stand there
miss : (bs name : List ℕ) → begins_with (get_or bs 0 0) name ≡ false → starts_with nat_eq bs name ≡ false
miss bs [] h = cc
miss [] (a ∷ name) h = refl
miss (b ∷ bs) (a ∷ name) h = by (nat_eq a b) refl
  where
    by : (t : Bool) → nat_eq a b ≡ t → (t && starts_with nat_eq bs name) ≡ false
    by false e = refl
    by true e = let s : a ≡ b = exact_unsigned_eq a b e in let t : (b == b) ≡ false = rw s at h in let u : (b == b) ≡ true = rw s at e in cc

-- so that the others are left out
pub named-starting : (rows : List (List ℕ × ℕ)) (bs : List ℕ) → named (starting (get_or bs 0 0) rows) bs ≡ named rows bs
named-starting [] bs = refl
named-starting (r ∷ rows) bs = by (begins_with (get_or bs 0 0) r.0) refl (named-starting rows bs)
  where
    by : (t : Bool) → begins_with (get_or bs 0 0) r.0 ≡ t → named (starting (get_or bs 0 0) rows) bs ≡ named rows bs → named (cond t (r ∷ starting (get_or bs 0 0) rows) (starting (get_or bs 0 0) rows)) bs ≡ named (r ∷ rows) bs
    by true e rest = rw rest refl
    by false e rest = rw (miss bs r.0 e) rest

-- no row is left where no name begins with a byte
pub none-starting : (b : ℕ) (rows : List (List ℕ × ℕ)) → list_all (λ r. not (begins_with b r.0)) rows ≡ true → starting b rows ≡ []
none-starting b [] h = refl
none-starting b (r ∷ rows) h = by (begins_with b r.0) refl h (none-starting b rows)
  where
    by : (t : Bool) → begins_with b r.0 ≡ t → (not t && list_all (λ r. not (begins_with b r.0)) rows) ≡ true → (list_all (λ r. not (begins_with b r.0)) rows ≡ true → starting b rows ≡ []) → cond t (r ∷ starting b rows) (starting b rows) ≡ []
    by true e g rest = cc
    by false e g rest = rest g
