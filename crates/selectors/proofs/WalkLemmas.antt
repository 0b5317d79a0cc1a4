-- The numbers of the nodes beside a node.
use Rattle.std.proofs.Common.{◌≡◌, ℕ, zero, suc, ◌+◌, ◌-◌, ◌<◌, Bool, false, List, [], ◌∷◌, take, drop, length, refl, ap, sym, ◌∙◌, subst, arith, inl, inr, length-drop, Option, Some, None}
use Rattle.std.specs.Prelude.{option_map, IfSome, slice_get}
use Rattle.std.proofs.lemmas.Bool.{cases_Bool}
use Rattle.std.proofs.lemmas.Option.{slice_get-map, same_Some}
use Rattle.bk_num.specs.declared.ids.NodeId.{NodeId}
use Rattle.bk_num.proofs.ListLemmas.{get-take}
use Rattle.dom.specs.Nodes.{Node, is_at, first_from, parents_of, parent_at, flat, first_child_of, next_under, prev_under, next_of, prev_of, IsTree, HasPlace}
use Rattle.dom.proofs.DomLemmas.{last-is}
use Rattle.selectors.specs.Walk.{chain, first_such, beside, siblings_before, prev_element}
use Rattle.selectors.specs.declared.walk.Way.TheVariants as way
use Rattle.dom.specs.Nodes.{is_element_at}

pub first_in : (p : ℕ) (qs : List (Option ℕ)) (k m : ℕ) → first_from p qs k ≡ Some m → m < k + length qs
first_in p [] k m e = cc
first_in p (q ∷ qs) k m e = elim (cases_Bool (is_at p q)) [
  | inl here ↦ (let h : Some k ≡ Some m = rw here at e in let s : k ≡ m = same_Some k m h in omega arith)
  | inr other ↦ (let h : first_from p qs (k + 1) ≡ Some m = rw other at e in omega (arith, first_in p qs (k + 1) m h))
]

pub child_in : (ps : List (Option ℕ)) (n m : ℕ) → first_child_of ps n ≡ Some m → m < length ps
child_in ps n m e = omega (arith, first_in n ps 0 m e)

next_in' : (ps : List (Option ℕ)) (n m : ℕ) (o : Option ℕ) → n < length ps → next_under ps n o ≡ Some m → m < length ps
next_in' ps n m None within e = cc
next_in' ps n m (Some p) within e = omega (arith, first_in p (drop (n + 1) ps) (n + 1) m e, length-drop (n + 1) ps)

pub next_in : (ps : List (Option ℕ)) (n m : ℕ) → n < length ps → next_of ps n ≡ Some m → m < length ps
next_in ps n m within e = next_in' ps n m (parent_at ps n) within e

prev_in' : (ps : List (Option ℕ)) (n m : ℕ) (o : Option ℕ) → prev_under ps n o ≡ Some m → (m < n) × (parent_at ps m ≡ o)
prev_in' ps n m None e = absurd (cc)
prev_in' ps n m (Some p) e =
    let h = last-is p (take n ps) 0 m e in
    let s : m ≡ h.0 = omega (arith, h.1) in
    let t = get-take ps n m (Some p) (subst (λ z. slice_get (take n ps) z ≡ Some (Some p)) (sym s) h.2) in
    (t.0, ap flat t.1)

-- the sibling before a node has a lesser number and the same parent
pub prev_in : (ps : List (Option ℕ)) (n m : ℕ) → prev_of ps n ≡ Some m → (m < n) × (parent_at ps m ≡ parent_at ps n)
prev_in ps n m e = prev_in' ps n m (parent_at ps n) e

parent_at_in : (nodes : List Node) (n p : ℕ) (o : Option Node) → slice_get nodes n ≡ o → IsTree nodes → flat (option_map (λ a. a.parent) (slice_get nodes n)) ≡ Some p → p < n
parent_at_in nodes n p None is tree e = absurd (let h : ◌≡◌ {A = Option ℕ} None (Some p) = rw is at e in cc)
parent_at_in nodes n p (Some a) is tree e =
    let h : a.parent ≡ Some p = rw is at e in
    (subst (λ q. HasPlace nodes n a q) h (tree.placed n a is)).0

-- a parent has a lesser number
pub parent_in : (nodes : List Node) (n p : ℕ) → IsTree nodes → parent_at (parents_of nodes) n ≡ Some p → p < n
parent_in nodes n p tree e = parent_at_in nodes n p (slice_get nodes n) refl tree (rw (slice_get-map (λ (a : Node). a.parent) nodes n) at e)

pub all_within : (o : Option NodeId) (x : Option ℕ) (n : ℕ) → option_map (λ k. k.0) o ≡ x → ((m : ℕ) → x ≡ Some m → m < n) → IfSome o (λ m. m.0 < n)
all_within None x n is below = tt
all_within (Some k) x n is below = below k.0 (sym is)

-- one step along a chain
pub chain_step : (next : ℕ → Option ℕ) (f : ℕ → Bool) (steps turn m : ℕ) (o : Option ℕ) → turn < steps → o ≡ Some m → f m ≡ false → first_such f (chain next (steps - turn) o) ≡ first_such f (chain next (steps - (turn + 1)) (next m))
chain_step next f steps turn m o more is lacks =
    let e : steps - turn ≡ suc (steps - (turn + 1)) = omega arith in
    rw (e, is, lacks)

abbrev pub Row : List (Option ℕ) → ℕ → ℕ → Type 0
Row ps n m = (m < n) × (parent_at ps m ≡ parent_at ps n)

pub chain_row : (nodes : List Node) (f : ℕ → Bool) (steps n m : ℕ) (o : Option ℕ) → ((k : ℕ) → o ≡ Some k → Row (parents_of nodes) n k) → first_such f (chain (beside nodes way.Before) steps o) ≡ Some m → Row (parents_of nodes) n m
chain_row nodes f zero n m o rows e = absurd (cc)
chain_row nodes f (suc steps) n m None rows e = absurd (cc)
chain_row nodes f (suc steps) n m (Some k) rows e = elim (cases_Bool (f k)) [
  | inl here ↦ (let h : Some k ≡ Some m = rw here at e in subst (Row (parents_of nodes) n) (same_Some k m h) (rows k refl))
  | inr other ↦ (let h : first_such f (chain (beside nodes way.Before) steps (prev_of (parents_of nodes) k)) ≡ Some m = rw other at e in
      chain_row nodes f steps n m (prev_of (parents_of nodes) k) (λ j is. let a = prev_in (parents_of nodes) k j is in let b = rows k refl in (omega (arith, a.0, b.0), a.1 ∙ b.1)) h)
]

-- the element sibling before a node has a lesser number and the same parent
pub element_in : (nodes : List Node) (n m : ℕ) → prev_element nodes n ≡ Some m → Row (parents_of nodes) n m
unfolding prev_element siblings_before
element_in nodes n m e = chain_row nodes (is_element_at nodes) n n m (prev_of (parents_of nodes) n) (λ k is. prev_in (parents_of nodes) n k is) e

pub element_below : (nodes : List Node) (n : ℕ) (o : Option NodeId) → option_map (λ k. k.0) o ≡ prev_element nodes n → IfSome o (λ m. m.0 < n)
element_below nodes n None is = tt
element_below nodes n (Some k) is = (element_in nodes n k.0 (sym is)).0

pub element_row : (nodes : List Node) (n : ℕ) (o : Option NodeId) → option_map (λ k. k.0) o ≡ prev_element nodes n → IfSome o (λ m. parent_at (parents_of nodes) m.0 ≡ parent_at (parents_of nodes) n)
element_row nodes n None is = tt
element_row nodes n (Some k) is = (element_in nodes n k.0 (sym is)).1
