-- how many steps a walk has: two a node at most
use Rattle.std.proofs.Common.{◌≡◌, ℕ, zero, suc, ◌+◌, ◌*◌, ◌<◌, ◌≤◌, ◌==◌, Bool, true, false, List, [], ◌∷◌, Option, Some, length, refl, sym, ◌∙◌, ap, arith}
use Rattle.std.proofs.lemmas.Bool.{eq-eqb}
use Rattle.std.proofs.lemmas.Map.Views.{exact_unsigned_eq}
use Rattle.dom.specs.Nodes.{Node, parents_of, IsTree}
use Rattle.dom.specs.Walk.{steps_of, node_of}
use Rattle.dom.specs.WalkFields.{steps_from}
use Rattle.dom.specs.declared.walk.Step.{Step}
use Rattle.dom.specs.declared.walk.Step.TheVariants.{Enter, Leave}
use Rattle.dom.proofs.WalkLemmas.{whole-tour}
use Rattle.counters.specs.Scopes.{Each}
use Rattle.counters.specs.Document.{enters, leaves}
use Rattle.counters.proofs.TourLemmas.{AreSteps, all-steps, all-within, enters-only, leaves-only}

abbrev one_if : Bool → ℕ
one_if true = 1
one_if false = 0

abbrev count : (Step → Bool) → List Step → ℕ
count p [] = 0
count p (s ∷ rest) = one_if (p s) + count p rest

-- ---- no step comes twice

later-none : (ps : List (Option ℕ)) (p : Step → Bool) (s : Step) → ((t : Step) → p t ≡ true → t ≡ s) → (rest : List Step) → AreSteps ps rest → length rest < length (steps_from ps (Some s)) → count p rest ≡ 0
later-none ps p s only [] a l = refl
later-none ps p s only (t ∷ rest) a l = by (p t) refl (later-none ps p s only rest a.1 (omega (arith, l)))
  where
    by : (b : Bool) → p t ≡ b → count p rest ≡ 0 → one_if b + count p rest ≡ 0
    by false e none = omega (arith, none)
    by true e none =
        let same : length (t ∷ rest) ≡ length (steps_from ps (Some s)) = ap length a.0 ∙ ap (λ (v : Step). length (steps_from ps (Some v))) (only t e) in
        absurd (omega (arith, same, l))

once : (ps : List (Option ℕ)) (p : Step → Bool) (s : Step) → ((t : Step) → p t ≡ true → t ≡ s) → (xs : List Step) → AreSteps ps xs → count p xs ≤ 1
once ps p s only [] a = omega arith
once ps p s only (t ∷ rest) a = by (p t) refl (once ps p s only rest a.1)
  where
    by : (b : Bool) → p t ≡ b → count p rest ≤ 1 → one_if b + count p rest ≤ 1
    by false e few = omega (arith, few)
    by true e few =
        let same : length (t ∷ rest) ≡ length (steps_from ps (Some s)) = ap length a.0 ∙ ap (λ (v : Step). length (steps_from ps (Some v))) (only t e) in
        let none = later-none ps p s only rest a.1 (omega (arith, same)) in
        omega (arith, none)

-- ---- the steps of the nodes below a number, added up

abbrev tally : ℕ → List Step → ℕ
tally zero xs = 0
tally (suc n) xs = (count (enters n) xs + count (leaves n) xs) + tally n xs

tally-few : (ps : List (Option ℕ)) (n : ℕ) (xs : List Step) → AreSteps ps xs → tally n xs ≤ 2 * n
tally-few ps zero xs a = omega arith
tally-few ps (suc n) xs a =
    let e = once ps (enters n) (Enter (record { 0 = n })) (enters-only n) xs a in
    let l = once ps (leaves n) (Leave (record { 0 = n })) (leaves-only n) xs a in
    let more = tally-few ps n xs a in
    omega (arith, e, l, more)

tally-none : (n : ℕ) → tally n [] ≡ 0
tally-none zero = refl
tally-none (suc n) = let more = tally-none n in omega (arith, more)

-- a step counts for its node alone
one-here : (n : ℕ) (s : Step) → node_of s ≡ n → one_if (enters n s) + one_if (leaves n s) ≡ 1
one-here n (Enter m) e = rw (eq-eqb m.0 n e) refl
one-here n (Leave m) e = rw (eq-eqb m.0 n e) refl

not-same : (m n : ℕ) → (m ≡ n → ⊥) → (m == n) ≡ false
not-same m n h = by (m == n) refl
  where
    by : (b : Bool) → (m == n) ≡ b → b ≡ false
    by true e = absurd (h (exact_unsigned_eq m n e))
    by false e = refl

none-here : (n : ℕ) (s : Step) → (node_of s ≡ n → ⊥) → one_if (enters n s) + one_if (leaves n s) ≡ 0
none-here n (Enter m) h = rw (not-same m.0 n h) refl
none-here n (Leave m) h = rw (not-same m.0 n h) refl

tally-out : (n : ℕ) (s : Step) (xs : List Step) → n ≤ node_of s → tally n (s ∷ xs) ≡ tally n xs
tally-out zero s xs l = refl
tally-out (suc n) s xs l =
    let here = none-here n s (λ (e : node_of s ≡ n). absurd (omega (arith, l, e))) in
    let more = tally-out n s xs (omega (arith, l)) in
    omega (arith, here, more)

tally-in : (n : ℕ) (s : Step) (xs : List Step) → node_of s < n → tally n (s ∷ xs) ≡ suc (tally n xs)
tally-in zero s xs l = absurd (omega (arith, l))
tally-in (suc n) s xs l = by (node_of s == n) refl (tally-in n s xs)
  where
    by : (b : Bool) → (node_of s == n) ≡ b → (node_of s < n → tally n (s ∷ xs) ≡ suc (tally n xs)) → tally (suc n) (s ∷ xs) ≡ suc (tally (suc n) xs)
    by true e again =
        let same = exact_unsigned_eq (node_of s) n e in
        let here = one-here n s same in
        let more = tally-out n s xs (omega (arith, same)) in
        omega (arith, here, more)
    by false e again =
        let other : node_of s ≡ n → ⊥ = λ (f : node_of s ≡ n). (let t = eq-eqb (node_of s) n f in cc) in
        let here = none-here n s other in
        let more = again (below other) in
        omega (arith, here, more)
      where
        below : (node_of s ≡ n → ⊥) → node_of s < n
        below h = omega (arith, l, h)

tally-all : (n : ℕ) (xs : List Step) → Each (λ s. node_of s < n) xs → tally n xs ≡ length xs
tally-all n [] w = tally-none n
tally-all n (s ∷ xs) w = tally-in n s xs w.0 ∙ ap (λ (k : ℕ). suc k) (tally-all n xs w.1)

-- a walk has two steps a node at most
pub steps-few : (nodes : List Node) → IsTree nodes → length (steps_of nodes) ≤ 2 * length nodes
steps-few nodes t =
    let within = all-within nodes t (steps_of nodes) (Some (Enter (record { 0 = 0 }))) t.some (sym (whole-tour nodes t)) in
    let all = tally-all (length nodes) (steps_of nodes) within in
    let few = tally-few (parents_of nodes) (length nodes) (steps_of nodes) (all-steps nodes t) in
    omega (arith, all, few)
