-- The markers that wait are those of open boxes.
use Rattle.std.proofs.Common.{◌≡◌, ℕ, zero, suc, ◌==◌, Bool, true, false, cond, not, List, [], ◌∷◌, ◌++◌, Some, refl, arith}
use Rattle.std.specs.List.{All, Contains}
use Rattle.std.proofs.lemmas.List.Elements.{All-nil, All-cons, All-head, All-tail, All-weaker}
use Rattle.std.proofs.lemmas.Bool.Decides.{nat_tests}
use Rattle.bk_num.proofs.ListLemmas.{contains-more}
use Rattle.boxes.specs.Contents.{IsGoodSpan}
use Rattle.boxes.specs.declared.leaf.Lead.{Lead}
use Rattle.box_gen.specs.Flow.{without}

-- each marker's owner is in a list, and its size and line height aren't negative
abbrev pub IsOwned : List ℕ → Lead → Type 0
IsOwned os l = Contains os l.owner

abbrev pub OwnedBy : List ℕ → List Lead → Type 0
OwnedBy os ls = All (λ (l : Lead). Contains os l.owner) ls

abbrev pub IsGoodLead : Lead → Type 0
IsGoodLead l = IsGoodSpan l.span

contains-rest : (b x : ℕ) (os : List ℕ) → (x == b) ≡ false → Contains (b ∷ os) x → Contains os x
contains-rest b x os n (zero, l, e) = absurd (grind (arith, nat_tests))
contains-rest b x os n (suc k, l, e) = (k, omega arith, e)

pub owned-shut : (b : ℕ) (os : List ℕ) (ls : List Lead) → OwnedBy (b ∷ os) ls → OwnedBy os (without (Some b) ls)
owned-shut b os [] h = All-nil (IsOwned os)
owned-shut b os (l ∷ ls) h = by (l.owner == b) refl (All-head (IsOwned (b ∷ os)) l ls h) (owned-shut b os ls (All-tail (IsOwned (b ∷ os)) l ls h))
  where
    by : (c : Bool) → (l.owner == b) ≡ c → Contains (b ∷ os) l.owner → OwnedBy os (without (Some b) ls) → OwnedBy os (cond (not c) (l ∷ without (Some b) ls) (without (Some b) ls))
    by true e i r = r
    by false e i r = All-cons (IsOwned os) l (without (Some b) ls) (contains-rest b l.owner os e i) r

pub all-shut : (P : Lead → Type 0) (b : ℕ) (ls : List Lead) → All P ls → All P (without (Some b) ls)
all-shut P b [] h = All-nil P
all-shut P b (l ∷ ls) h = by (l.owner == b) (All-head P l ls h) (all-shut P b ls (All-tail P l ls h))
  where
    by : (c : Bool) → P l → All P (without (Some b) ls) → All P (cond (not c) (l ∷ without (Some b) ls) (without (Some b) ls))
    by true g r = r
    by false g r = All-cons P l (without (Some b) ls) g r

pub owned-more : (b : ℕ) (os : List ℕ) (ls : List Lead) → OwnedBy os ls → OwnedBy (b ∷ os) ls
owned-more b os ls h = All-weaker (IsOwned os) (IsOwned (b ∷ os)) (λ l c. contains-more b os l.owner c) ls h

pub all-append : {A : Type 0} (P : A → Type 0) (ls ms : List A) → All P ls → All P ms → All P (ls ++ ms)
all-append P [] ms a b = b
all-append P (l ∷ ls) ms a b = All-cons P l (ls ++ ms) (All-head P l ls a) (all-append P ls ms (All-tail P l ls a) b)
