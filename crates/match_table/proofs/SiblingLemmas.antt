-- The siblings of a node are the nodes of its parent: those of lesser numbers before it, and those of greater after it.
use Rattle.std.proofs.Common.{◌≡◌, ℕ, zero, suc, ◌+◌, ◌-◌, ◌<◌, ◌≤◌, Bool, true, false, List, [], ◌∷◌, take, drop, length, cond, refl, ap, sym, ◌∙◌, subst, arith, inl, inr, Option, Some, None}
use Rattle.std.proofs.lemmas.Option.{same_Some}
use Rattle.std.specs.Prelude.{is_some, slice_get}
use Rattle.std.specs.Option.{option_or}
use Rattle.std.proofs.lemmas.Bool.{cases_Bool, cases_eq, true≢false}
use Rattle.std.proofs.lemmas.Map.Views.{exact_unsigned_eq}
use Rattle.bk_num.proofs.ListLemmas.{get-taken, get-drop}
use Rattle.dom.specs.Nodes.{Node, is_at, first_from, last_from, parents_of, parent_at, flat, next_under, prev_under, next_of, prev_of}
use Rattle.dom.proofs.DomLemmas.{last-low, last-next, eqb-self}
use Rattle.selectors.specs.Walk.{chain, first_such, beside, siblings_before, siblings_after}
use Rattle.selectors.specs.declared.walk.Way.TheVariants as way
use Rattle.selectors.proofs.WalkLemmas.{prev_in, Row, chain_row}

-- ---- nodes in lists of parents

child-at : (o : Option (Option ℕ)) (p : ℕ) → flat o ≡ Some p → o ≡ Some (Some p)
child-at None p e = cc
child-at (Some q) p e = ap (λ z. Some z) e

at-least : (o : Option ℕ) (m : ℕ) → ((l : ℕ) → o ≡ Some l → m ≤ l) → (k : ℕ) × (option_or o (Some m) ≡ Some k) × (m ≤ k)
at-least None m low = (m, refl, omega arith)
at-least (Some l) m low = (l, refl, low l refl)

-- the nearest child before a place is no earlier than another that lies there
last-found : (p : ℕ) (qs : List (Option ℕ)) (m : ℕ) → slice_get qs m ≡ Some (Some p) → (k : ℕ) × (last_from p qs 0 ≡ Some k) × (m ≤ k)
last-found p qs m at =
    let h = at-least (last_from p (drop (m + 1) qs) (0 + m + 1)) (0 + m) (λ l e. omega (arith, last-low p (drop (m + 1) qs) (0 + m + 1) l e)) in
    (h.0, last-next p qs 0 m at ∙ h.1, omega (arith, h.2))

prev-found : (ps : List (Option ℕ)) (n m p : ℕ) → m < n → parent_at ps n ≡ Some p → parent_at ps m ≡ Some p → (k : ℕ) × (prev_of ps n ≡ Some k) × (m ≤ k)
prev-found ps n m p before here there =
    let h = last-found p (take n ps) m (get-taken ps n m before ∙ child-at (slice_get ps m) p there) in
    (h.0, ap (prev_under ps n) here ∙ h.1, h.2)

-- the first child from a place on is no later than another that lies there
first-found : (p : ℕ) (qs : List (Option ℕ)) (k j : ℕ) → slice_get qs j ≡ Some (Some p) → (i : ℕ) × (first_from p qs k ≡ Some (k + i)) × (i ≤ j) × (slice_get qs i ≡ Some (Some p))
first-found p [] k j at = absurd (cc)
first-found p (q ∷ qs) k j at = by (λ j. first-found p qs (k + 1) j) (is_at p q) refl
  where
    is : (o : Option ℕ) → is_at p o ≡ true → o ≡ Some p
    is None e = absurd (cc)
    is (Some r) e = ap (λ z. Some z) (exact_unsigned_eq r p e)

    other : (i : ℕ) → is_at p q ≡ false → slice_get (q ∷ qs) i ≡ Some (Some p) → (h : ℕ) × (i ≡ suc h) × (slice_get qs h ≡ Some (Some p))
    other zero lacks e = absurd (true≢false (sym (eqb-self p) ∙ ap (is_at p) (sym (same_Some q (Some p) e)) ∙ lacks))
    other (suc h) lacks e = (h, refl, e)

    by : ((j : ℕ) → slice_get qs j ≡ Some (Some p) → (i : ℕ) × (first_from p qs (k + 1) ≡ Some (k + 1 + i)) × (i ≤ j) × (slice_get qs i ≡ Some (Some p))) → (b : Bool) → is_at p q ≡ b
        → (i : ℕ) × (first_from p (q ∷ qs) k ≡ Some (k + i)) × (i ≤ j) × (slice_get (q ∷ qs) i ≡ Some (Some p))
    by again true e = let z : k ≡ k + 0 = omega arith in (0, rw e (ap (λ z. Some z) z), omega arith, ap (λ z. Some z) (is q e))
    by again false e =
        let o = other j e at in
        let h = again o.0 o.2 in
        let z : k + 1 + h.0 ≡ k + suc h.0 = omega arith in
        (suc h.0, rw e (h.1 ∙ ap (λ z. Some z) z), omega (arith, h.2, o.1), h.3)

next-found : (ps : List (Option ℕ)) (n m p : ℕ) → n < m → parent_at ps n ≡ Some p → parent_at ps m ≡ Some p → (k : ℕ) × (next_of ps n ≡ Some k) × (k ≤ m)
next-found ps n m p after here there =
    let j : ℕ = m - (n + 1) in
    let at : slice_get (drop (n + 1) ps) j ≡ Some (Some p) = get-drop ps (n + 1) j ∙ ap (slice_get ps) (omega (arith, after)) ∙ child-at (slice_get ps m) p there in
    let h = first-found p (drop (n + 1) ps) (n + 1) j at in
    (n + 1 + h.0, ap (next_under ps n) here ∙ h.1, omega (arith, h.2, after))

first-is : (p : ℕ) (qs : List (Option ℕ)) (k l : ℕ) → first_from p qs k ≡ Some l → (i : ℕ) × (l ≡ k + i) × (slice_get qs i ≡ Some (Some p))
first-is p [] k l e = absurd (cc)
first-is p (q ∷ qs) k l e = by (λ f. first-is p qs (k + 1) l f) (is_at p q) refl
  where
    is : (o : Option ℕ) → is_at p o ≡ true → o ≡ Some p
    is None e = absurd (cc)
    is (Some r) e = ap (λ z. Some z) (exact_unsigned_eq r p e)

    by : (first_from p qs (k + 1) ≡ Some l → (i : ℕ) × (l ≡ k + 1 + i) × (slice_get qs i ≡ Some (Some p))) → (b : Bool) → is_at p q ≡ b → (i : ℕ) × (l ≡ k + i) × (slice_get (q ∷ qs) i ≡ Some (Some p))
    by again true h = let f : Some k ≡ Some l = rw h at e in let g = same_Some k l f in (0, omega (arith, g), ap (λ z. Some z) (is q h))
    by again false h =
        let f : first_from p qs (k + 1) ≡ Some l = rw h at e in
        let g = again f in
        (suc g.0, omega (arith, g.1), g.2)

next_row' : (ps : List (Option ℕ)) (n m : ℕ) (o : Option ℕ) → next_under ps n o ≡ Some m → (n < m) × (parent_at ps m ≡ o)
next_row' ps n m None e = absurd (cc)
next_row' ps n m (Some p) e =
    let h = first-is p (drop (n + 1) ps) (n + 1) m e in
    (omega (arith, h.1), ap flat (ap (slice_get ps) h.1 ∙ sym (get-drop ps (n + 1) h.0) ∙ h.2))

-- the sibling after a node has a greater number and the same parent
next_row : (ps : List (Option ℕ)) (n m : ℕ) → next_of ps n ≡ Some m → (n < m) × (parent_at ps m ≡ parent_at ps n)
next_row ps n m e = next_row' ps n m (parent_at ps n) e

-- ---- the first sibling that passes a test

pub passes-such : (f : ℕ → Bool) (xs : List ℕ) (m : ℕ) → first_such f xs ≡ Some m → f m ≡ true
passes-such f [] m e = absurd (cc)
passes-such f (x ∷ xs) m e = elim (cases_Bool (f x)) [
  | inl here ↦ (let h : Some x ≡ Some m = rw here at e in subst (λ z. f z ≡ true) (same_Some x m h) here)
  | inr other ↦ (let h : first_such f xs ≡ Some m = rw other at e in passes-such f xs m h)
]

no-chain : (next : ℕ → Option ℕ) (steps : ℕ) → chain next steps None ≡ []
no-chain next zero = refl
no-chain next (suc steps) = refl

-- a node beside which another stands has a parent
has-parent : (o : Option ℕ) (e : o ≡ None → ⊥) → (p : ℕ) × (o ≡ Some p)
has-parent None e = absurd (e refl)
has-parent (Some p) e = (p, refl)

pub before-sound : (nodes : List Node) (f : ℕ → Bool) (n m : ℕ) → first_such f (siblings_before nodes n) ≡ Some m → (m < n) × ((p : ℕ) × (parent_at (parents_of nodes) n ≡ Some p) × (parent_at (parents_of nodes) m ≡ Some p))
unfolding siblings_before
before-sound nodes f n m e =
    let row = chain_row nodes f n n m (prev_of (parents_of nodes) n) (λ k is. prev_in (parents_of nodes) n k is) e in
    let p = has-parent (parent_at (parents_of nodes) n) (λ none. absurd (let h : ◌≡◌ {A = Option ℕ} None (Some m) = sym (ap (λ o. first_such f (chain (beside nodes way.Before) n (prev_under (parents_of nodes) n o))) none ∙ ap (first_such f) (no-chain (beside nodes way.Before) n)) ∙ e in cc)) in
    (row.0, (p.0, p.1, row.1 ∙ p.1))

before-steps : (nodes : List Node) (f : ℕ → Bool) (steps n m p : ℕ) → n ≤ steps → m < n → parent_at (parents_of nodes) n ≡ Some p → parent_at (parents_of nodes) m ≡ Some p → f m ≡ true
    → is_some (first_such f (chain (beside nodes way.Before) steps (prev_of (parents_of nodes) n))) ≡ true
before-steps nodes f zero n m p few before here there passes = absurd (omega (arith, few, before))
before-steps nodes f (suc steps) n m p few before here there passes =
    let found = prev-found (parents_of nodes) n m p before here there in
    let row = prev_in (parents_of nodes) n found.0 found.1 in
    rw found.1 (by (λ k few before here. before-steps nodes f steps k m p few before here there passes) found.0 found.2 row (f found.0) refl)
  where
    by : ((k : ℕ) → k ≤ steps → m < k → parent_at (parents_of nodes) k ≡ Some p → is_some (first_such f (chain (beside nodes way.Before) steps (prev_of (parents_of nodes) k))) ≡ true) → (k : ℕ) → m ≤ k → Row (parents_of nodes) n k → (b : Bool) → f k ≡ b → is_some (cond (f k) (Some k) (first_such f (chain (beside nodes way.Before) steps (prev_of (parents_of nodes) k)))) ≡ true
    by again k low row true is = rw is refl
    by again k low row false is = elim (cases_eq m k) [
      | inl same ↦ absurd (true≢false (sym passes ∙ ap f same ∙ is))
      | inr other ↦ rw is (again k (omega (arith, few, row.0)) (omega (arith, low, other)) (row.1 ∙ here))
    ]

pub before-complete : (nodes : List Node) (f : ℕ → Bool) (n m p : ℕ) → m < n → parent_at (parents_of nodes) n ≡ Some p → parent_at (parents_of nodes) m ≡ Some p → f m ≡ true → is_some (first_such f (siblings_before nodes n)) ≡ true
unfolding siblings_before
before-complete nodes f n m p before here there passes = before-steps nodes f n n m p (omega arith) before here there passes

after-row : (nodes : List Node) (f : ℕ → Bool) (steps n m : ℕ) (o : Option ℕ) → ((k : ℕ) → o ≡ Some k → (n < k) × (parent_at (parents_of nodes) k ≡ parent_at (parents_of nodes) n)) → first_such f (chain (beside nodes way.After) steps o) ≡ Some m → (n < m) × (parent_at (parents_of nodes) m ≡ parent_at (parents_of nodes) n)
after-row nodes f zero n m o rows e = absurd (cc)
after-row nodes f (suc steps) n m None rows e = absurd (cc)
after-row nodes f (suc steps) n m (Some k) rows e = elim (cases_Bool (f k)) [
  | inl here ↦ (let h : Some k ≡ Some m = rw here at e in subst (λ z. (n < z) × (parent_at (parents_of nodes) z ≡ parent_at (parents_of nodes) n)) (same_Some k m h) (rows k refl))
  | inr other ↦ (let h : first_such f (chain (beside nodes way.After) steps (next_of (parents_of nodes) k)) ≡ Some m = rw other at e in
      after-row nodes f steps n m (next_of (parents_of nodes) k) (λ j is. let a = next_row (parents_of nodes) k j is in let b = rows k refl in (omega (arith, a.0, b.0), a.1 ∙ b.1)) h)
]

pub after-sound : (nodes : List Node) (f : ℕ → Bool) (n m : ℕ) → first_such f (siblings_after nodes n) ≡ Some m → (n < m) × ((p : ℕ) × (parent_at (parents_of nodes) n ≡ Some p) × (parent_at (parents_of nodes) m ≡ Some p))
unfolding siblings_after
after-sound nodes f n m e =
    let row = after-row nodes f (length nodes) n m (next_of (parents_of nodes) n) (λ k is. next_row (parents_of nodes) n k is) e in
    let p = has-parent (parent_at (parents_of nodes) n) (λ none. absurd (let h : ◌≡◌ {A = Option ℕ} None (Some m) = sym (ap (λ o. first_such f (chain (beside nodes way.After) (length nodes) (next_under (parents_of nodes) n o))) none ∙ ap (first_such f) (no-chain (beside nodes way.After) (length nodes))) ∙ e in cc)) in
    (row.0, (p.0, p.1, row.1 ∙ p.1))

after-steps : (nodes : List Node) (f : ℕ → Bool) (steps n m p : ℕ) → m < n + steps → n < m → parent_at (parents_of nodes) n ≡ Some p → parent_at (parents_of nodes) m ≡ Some p → f m ≡ true
    → is_some (first_such f (chain (beside nodes way.After) steps (next_of (parents_of nodes) n))) ≡ true
after-steps nodes f zero n m p few after here there passes = absurd (omega (arith, few, after))
after-steps nodes f (suc steps) n m p few after here there passes =
    let found = next-found (parents_of nodes) n m p after here there in
    let row = next_row (parents_of nodes) n found.0 found.1 in
    rw found.1 (by (λ k few before here. after-steps nodes f steps k m p few before here there passes) found.0 found.2 row (f found.0) refl)
  where
    by : ((k : ℕ) → m < k + steps → k < m → parent_at (parents_of nodes) k ≡ Some p → is_some (first_such f (chain (beside nodes way.After) steps (next_of (parents_of nodes) k))) ≡ true) → (k : ℕ) → k ≤ m → (n < k) × (parent_at (parents_of nodes) k ≡ parent_at (parents_of nodes) n) → (b : Bool) → f k ≡ b → is_some (cond (f k) (Some k) (first_such f (chain (beside nodes way.After) steps (next_of (parents_of nodes) k)))) ≡ true
    by again k high row true is = rw is refl
    by again k high row false is = elim (cases_eq m k) [
      | inl same ↦ absurd (true≢false (sym passes ∙ ap f same ∙ is))
      | inr other ↦ rw is (again k (omega (arith, few, row.0)) (omega (arith, high, other)) (row.1 ∙ here))
    ]

pub after-complete : (nodes : List Node) (f : ℕ → Bool) (n m p : ℕ) → m < length nodes → n < m → parent_at (parents_of nodes) n ≡ Some p → parent_at (parents_of nodes) m ≡ Some p → f m ≡ true → is_some (first_such f (siblings_after nodes n)) ≡ true
unfolding siblings_after
after-complete nodes f n m p within after here there passes = after-steps nodes f (length nodes) n m p (omega (arith, within)) after here there passes
