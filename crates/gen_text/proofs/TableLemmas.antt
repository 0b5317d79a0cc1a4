-- entries in the order of their nodes
use Rattle.std.proofs.Common.{◌≡◌, ℕ, zero, suc, ◌<◌, ◌≤◌, ◌==◌, true, false, List, [], ◌∷◌, Option, None, Some, length, slice_get, get_or, refl, ◌∙◌, ap, subst, arith, ltb, ◌⊎◌, inl, inr}
use Rattle.bk_num.proofs.ListLemmas.{slice_get_at}
use Rattle.std.specs.List.Sorted.{IsPartitionPoint}
use Rattle.std.proofs.lemmas.Bool.{eq-eqb, ne_eqb, cases_lt}
use Rattle.std.proofs.lemmas.Bool.Decides.{nat_tests}
use Rattle.std.proofs.lemmas.Option.{slice_get_within, slice_get-get_or}
use Rattle.gen_text.specs.declared.table.Entry.{Entry}
use Rattle.gen_text.specs.Table.{number_in, Ascend}

-- a node without an entry has no number
pub not-in : (xs : List Entry) (n : ℕ) → ((k : ℕ) (x : Entry) → slice_get xs k ≡ Some x → x.node.0 ≡ n → ⊥) → number_in xs n ≡ None
not-in [] n h = refl
not-in (e ∷ xs) n h = rw (ne_eqb e.node.0 n (h 0 e refl)) (not-in xs n (λ k x g s. h (suc k) x g s))

-- the first entry of a node has its number
pub found : (xs : List Entry) (n i : ℕ) (e : Entry) → ((k : ℕ) (x : Entry) → k < i → slice_get xs k ≡ Some x → x.node.0 < n) → slice_get xs i ≡ Some e → e.node.0 ≡ n → number_in xs n ≡ Some e.number
found [] n i e h g s = cc
found (x ∷ xs) n zero e h g s = let same : x ≡ e = cc in rw (eq-eqb x.node.0 n (ap (λ (y : Entry). y.node.0) same ∙ s)) (ap (λ (y : Entry). Some y.number) same)
found (x ∷ xs) n (suc i) e h g s = let l = h 0 x (omega arith) refl in rw (ne_eqb x.node.0 n (λ q. omega (arith, l, q))) (found xs n i e (λ k y b r. h (suc k) y (omega arith) r) g s)

-- entries after one ascend from it
pub later : (xs : List Entry) → Ascend xs → (i k : ℕ) (e x : Entry) → i ≤ k → slice_get xs i ≡ Some e → slice_get xs k ≡ Some x → e.node.0 ≤ x.node.0
later xs up i k e x l g h =
    let w = slice_get_within xs k x h in
    let v = slice_get_within xs i e g in
    let a : get_or xs i e ≡ e = (let z = slice_get-get_or xs i e v in cc) in
    let b : get_or xs k e ≡ x = (let z = slice_get-get_or xs k e w in cc) in
    let u = up i k e l w in
    let p = ap (λ (y : Entry). y.node.0) a in
    let q = ap (λ (y : Entry). y.node.0) b in
    omega arith

pub other : (xs : List Entry) (n i : ℕ) → Ascend xs → ((k : ℕ) (x : Entry) → k < i → slice_get xs k ≡ Some x → x.node.0 < n) → ((k : ℕ) (x : Entry) → i ≤ k → slice_get xs k ≡ Some x → n ≤ x.node.0) → (o : Option Entry) → slice_get xs i ≡ o → ((e : Entry) → o ≡ Some e → (e.node.0 == n) ≡ false) → number_in xs n ≡ None
other xs n i up before after o g h = not-in xs n (λ k x r s. by k x r s o g h (cases_lt k i))
  where
    by : (k : ℕ) (x : Entry) → slice_get xs k ≡ Some x → x.node.0 ≡ n → (o : Option Entry) → slice_get xs i ≡ o → ((e : Entry) → o ≡ Some e → (e.node.0 == n) ≡ false) → (k < i) ⊎ (i ≤ k) → ⊥
    by k x r s o g h (inl l) = let b = before k x l r in omega arith
    by k x r s None g h (inr l) = let w = slice_get_within xs k x r in let z = slice_get_at xs i (omega arith) in let y = z.1 in cc
    by k x r s (Some e) g h (inr l) = let a = after i e (omega arith) g in let b = later xs up i k e x l g r in let same : e.node.0 ≡ n = omega arith in let t = eq-eqb e.node.0 n same in let f = h e refl in cc

pub point-before : (xs : List Entry) (n i : ℕ) → IsPartitionPoint (λ e. ltb e.node.0 n ≡ true) (λ e. ltb e.node.0 n ≡ false) xs i → i ≤ length xs → (k : ℕ) (x : Entry) → k < i → slice_get xs k ≡ Some x → x.node.0 < n
point-before xs n i point l k x b g =
    let w = slice_get_within xs k x g in
    let a : get_or xs k x ≡ x = (let z = slice_get-get_or xs k x w in cc) in
    let t : ltb x.node.0 n ≡ true = subst (λ (y : Entry). ltb y.node.0 n ≡ true) a (point.0 k x (omega arith) b) in
    grind (arith, nat_tests)

pub point-after : (xs : List Entry) (n i : ℕ) → IsPartitionPoint (λ e. ltb e.node.0 n ≡ true) (λ e. ltb e.node.0 n ≡ false) xs i → (k : ℕ) (x : Entry) → i ≤ k → slice_get xs k ≡ Some x → n ≤ x.node.0
point-after xs n i point k x b g =
    let w = slice_get_within xs k x g in
    let a : get_or xs k x ≡ x = (let z = slice_get-get_or xs k x w in cc) in
    let t : ltb x.node.0 n ≡ false = subst (λ (y : Entry). ltb y.node.0 n ≡ false) a (point.1 k x b w) in
    grind (arith, nat_tests)
