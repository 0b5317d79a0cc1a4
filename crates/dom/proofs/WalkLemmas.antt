-- The steps from a step on.
use Rattle.std.proofs.Common.{◌≡◌, ℕ, zero, suc, ◌+◌, ◌-◌, ◌<◌, ◌≤◌, ◌==◌, Bool, true, false, List, [], ◌∷◌, ◌++◌, Option, None, Some, cond, length, drop, slice_get, option_map, refl, sym, ◌∙◌, ap, subst, arith, append_assoc, add-zero}
use Rattle.std.proofs.lemmas.Map.Views.{exact_unsigned_eq}
use Rattle.std.proofs.lemmas.Option.{slice_get-map, slice_get_within}
use Rattle.std.proofs.lemmas.List.{length-map}
use Rattle.std.specs.List.{flat_map}
use Rattle.std.proofs.Math.Seq.{drop-nil}
use Rattle.bk_num.proofs.ListLemmas.{get-drop, slice_get_at}
use Rattle.dom.specs.Nodes.{Node, is_at, first_from, next_under, next_of, parents_of, parent_at, flat, IsTree, HasPlace, is_element_at, is_element_node}
use Rattle.dom.specs.Walk.{children_from, children_of, tour}
use Rattle.dom.specs.WalkFields.{tour_at, tours_of, after, after_at}
use Rattle.dom.specs.declared.walk.Step.{Step}
use Rattle.dom.specs.declared.walk.Step.TheVariants.{Enter, Leave}

-- parents come before their children
abbrev pub AreFalling : List (Option ℕ) → Type 0
AreFalling ps = (k p : ℕ) → slice_get ps k ≡ Some (Some p) → p < k

parent-falls : (nodes : List Node) (k p : ℕ) (n : Node) → n.parent ≡ Some p → HasPlace nodes k n n.parent → p < k
parent-falls nodes k p n e h = (subst (λ o. HasPlace nodes k n o) e h).0

pub falling : (nodes : List Node) → IsTree nodes → AreFalling (parents_of nodes)
falling nodes t k p g = by (slice_get nodes k) refl (sym (slice_get-map (λ (n : Node). n.parent) nodes k) ∙ g)
  where
    by : (o : Option Node) → slice_get nodes k ≡ o → option_map (λ (n : Node). n.parent) o ≡ Some (Some p) → p < k
    by None e h = cc
    by (Some n) e h = let q : n.parent ≡ Some p = cc in parent-falls nodes k p n q (t.placed k n e)

-- ---- children

-- the first child, and those after it
pub record IsFirstChild (p : ℕ) (qs : List (Option ℕ)) (k c : ℕ) : Type 0 where
  pub place : ℕ
  pub at : c ≡ k + place
  pub child : slice_get qs place ≡ Some (Some p)
  pub all : children_from p qs k ≡ c ∷ children_from p (drop (place + 1) qs) (c + 1)

pub first-child : (p : ℕ) (qs : List (Option ℕ)) (k c : ℕ) → first_from p qs k ≡ Some c → IsFirstChild p qs k c
first-child p [] k c h = cc
first-child p (q ∷ qs) k c h = by q refl (λ g. first-child p qs (k + 1) c g) h
  where
    later : (b : Bool) → is_at p q ≡ b → b ≡ false → IsFirstChild p qs (k + 1) c → IsFirstChild p (q ∷ qs) k c
    later b e f r = record {
      place = suc r.place;
      at = (let a = r.at in omega arith);
      child = r.child;
      all = let n : suc r.place + 1 ≡ suc (r.place + 1) = omega arith in rw (e ∙ f, n) r.all;
    }

    by : (o : Option ℕ) → q ≡ o → (first_from p qs (k + 1) ≡ Some c → IsFirstChild p qs (k + 1) c) → cond (is_at p o) (Some k) (first_from p qs (k + 1)) ≡ Some c → IsFirstChild p (q ∷ qs) k c
    by None e rec g = later false (ap (is_at p) e) refl (rec g)
    by (Some s) e rec g = of (s == p) refl g
      where
        of : (b : Bool) → (s == p) ≡ b → cond b (Some k) (first_from p qs (k + 1)) ≡ Some c → IsFirstChild p (q ∷ qs) k c
        of true t v =
            let same : k ≡ c = cc in
            let at : is_at p q ≡ true = ap (is_at p) e ∙ t in
            record {
              place = 0;
              at = (omega arith);
              child = rw (e, exact_unsigned_eq s p t) refl;
              all = rw (at, same) refl;
            }
        of false t v = later false (ap (is_at p) e ∙ t) refl (rec v)

pub no-children : (p : ℕ) (qs : List (Option ℕ)) (k : ℕ) → first_from p qs k ≡ None → children_from p qs k ≡ []
no-children p [] k h = refl
no-children p (q ∷ qs) k h = by (is_at p q) (λ g. no-children p qs (k + 1) g) h
  where
    by : (b : Bool) → (first_from p qs (k + 1) ≡ None → children_from p qs (k + 1) ≡ []) → cond b (Some k) (first_from p qs (k + 1)) ≡ None → cond b (k ∷ children_from p qs (k + 1)) (children_from p qs (k + 1)) ≡ []
    by true rec g = cc
    by false rec g = rec g

-- tours that agree at each child
tours-cong : (f g : ℕ → List Step) (p : ℕ) (qs : List (Option ℕ)) (k : ℕ) → ((m : ℕ) → slice_get qs m ≡ Some (Some p) → f (k + m) ≡ g (k + m)) → flat_map f (children_from p qs k) ≡ flat_map g (children_from p qs k)
tours-cong f g p [] k same = refl
tours-cong f g p (q ∷ qs) k same = by q refl (tours-cong f g p qs (k + 1) (λ m h. let e : k + 1 + m ≡ k + suc m = omega arith in rw e (same (suc m) h)))
  where
    by : (o : Option ℕ) → q ≡ o → flat_map f (children_from p qs (k + 1)) ≡ flat_map g (children_from p qs (k + 1)) → flat_map f (cond (is_at p o) (k ∷ children_from p qs (k + 1)) (children_from p qs (k + 1))) ≡ flat_map g (cond (is_at p o) (k ∷ children_from p qs (k + 1)) (children_from p qs (k + 1)))
    by None e h = h
    by (Some s) e h = of (s == p) refl
      where
        of : (b : Bool) → (s == p) ≡ b → flat_map f (cond b (k ∷ children_from p qs (k + 1)) (children_from p qs (k + 1))) ≡ flat_map g (cond b (k ∷ children_from p qs (k + 1)) (children_from p qs (k + 1)))
        of true t =
            let z : k + 0 ≡ k = add-zero k in
            let here : f k ≡ g k = subst (λ n. f n ≡ g n) z (same 0 (rw (e, exact_unsigned_eq s p t) refl)) in
            rw (here, h) refl
        of false t = h

-- ---- tours and what follows

-- how far down a tour may go doesn't matter once it is far enough
tour-same : (ps : List (Option ℕ)) (d e n : ℕ) → AreFalling ps → n < length ps → length ps ≤ n + d → length ps ≤ n + e → tour ps d n ≡ tour ps e n
unfolding tour
tour-same ps zero e n falls l a b = absurd (omega arith)
tour-same ps (suc d) zero n falls l a b = absurd (omega arith)
tour-same ps (suc d) (suc e) n falls l a b =
    let inner : flat_map (tour ps d) (children_of ps n) ≡ flat_map (tour ps e) (children_of ps n) = tours-cong (tour ps d) (tour ps e) n ps 0 (λ m h. let f = falls m n h in let w = slice_get_within ps m (Some n) h in tour-same ps d e (0 + m) falls (omega arith) (omega arith) (omega arith)) in
    rw inner refl

-- a node's tour by the tours of its children
pub tour-unfold : (ps : List (Option ℕ)) (n : ℕ) → AreFalling ps → n < length ps → tour_at ps n ≡ Enter (record { 0 = n }) ∷ tours_of ps (children_of ps n) ++ Leave (record { 0 = n }) ∷ []
unfolding tour
tour-unfold ps n falls l = by (length ps - n) refl
  where
    by : (d : ℕ) → length ps - n ≡ d → tour ps d n ≡ Enter (record { 0 = n }) ∷ tours_of ps (children_of ps n) ++ Leave (record { 0 = n }) ∷ []
    by zero e = absurd (omega arith)
    by (suc d) e =
        let inner : flat_map (tour ps d) (children_of ps n) ≡ tours_of ps (children_of ps n) = tours-cong (tour ps d) (tour_at ps) n ps 0 (λ m h. let f = falls m n h in let w = slice_get_within ps m (Some n) h in tour-same ps d (length ps - (0 + m)) (0 + m) falls (omega arith) (omega arith) (omega arith)) in
        rw inner refl

pub parent-child : (ps : List (Option ℕ)) (n p : ℕ) → parent_at ps n ≡ Some p → slice_get ps n ≡ Some (Some p)
parent-child ps n p h = by (slice_get ps n) refl h
  where
    by : (o : Option (Option ℕ)) → slice_get ps n ≡ o → flat o ≡ Some p → o ≡ Some (Some p)
    by None e g = cc
    by (Some q) e g = ap (λ (o : Option ℕ). Some o) g

-- a node's parent comes before it
pub parent-below : (nodes : List Node) → IsTree nodes → (n p : ℕ) → parent_at (parents_of nodes) n ≡ Some p → p < n
parent-below nodes tree n p h = falling nodes tree n p (parent-child (parents_of nodes) n p h)

after-same : (ps : List (Option ℕ)) (d e n : ℕ) → AreFalling ps → n < d → n < e → after ps d n (parent_at ps n) ≡ after ps e n (parent_at ps n)
unfolding after
after-same ps zero e n falls a b = absurd (omega arith)
after-same ps (suc d) zero n falls a b = absurd (omega arith)
after-same ps (suc d) (suc e) n falls a b = by (parent_at ps n) refl (λ p f. after-same ps d e p falls (omega arith) (omega arith))
  where
    by : (o : Option ℕ) → parent_at ps n ≡ o → ((p : ℕ) → p < n → after ps d p (parent_at ps p) ≡ after ps e p (parent_at ps p)) → after ps (suc d) n o ≡ after ps (suc e) n o
    by None h rec = refl
    by (Some p) h rec = rw (rec p (falls n p (parent-child ps n p h))) refl

-- what follows a child
pub after-child : (ps : List (Option ℕ)) (n p : ℕ) → AreFalling ps → parent_at ps n ≡ Some p → after_at ps n ≡ tours_of ps (children_from p (drop (n + 1) ps) (n + 1)) ++ Leave (record { 0 = p }) ∷ after_at ps p
unfolding after
after-child ps n p falls h =
    let f : p < n = falls n p (parent-child ps n p h) in
    let up = after-same ps n (p + 1) p falls f (omega arith) in
    let s : n + 1 ≡ suc n = omega arith in ap (λ d. after ps d n (parent_at ps n)) s ∙ rw h (step up)
  where
    step : after ps n p (parent_at ps p) ≡ after_at ps p → after ps (suc n) n (Some p) ≡ tours_of ps (children_from p (drop (n + 1) ps) (n + 1)) ++ Leave (record { 0 = p }) ∷ after_at ps p
    step up = ap (λ r. tours_of ps (children_from p (drop (n + 1) ps) (n + 1)) ++ Leave (record { 0 = p }) ∷ r) up

pub after-root : (ps : List (Option ℕ)) (n : ℕ) → parent_at ps n ≡ None → after_at ps n ≡ []
unfolding after
after-root ps n h = let s : n + 1 ≡ suc n = omega arith in rw (s, h) refl

-- ---- steps

-- after a node with a child is entered, that child is
pub enter-child : (ps : List (Option ℕ)) (n c : ℕ) → AreFalling ps → n < length ps → first_from n ps 0 ≡ Some c → (c < length ps) × (tour_at ps n ++ after_at ps n ≡ Enter (record { 0 = n }) ∷ (tour_at ps c ++ after_at ps c))
enter-child ps n c falls l h =
    let first = first-child n ps 0 c h in
    let place : first.place ≡ c = (let a = first.at in omega arith) in
    let child : slice_get ps c ≡ Some (Some n) = subst (λ m. slice_get ps m ≡ Some (Some n)) place first.child in
    let rest : List ℕ = children_from n (drop (c + 1) ps) (c + 1) in
    let all : children_of ps n ≡ c ∷ rest = subst (λ m. children_of ps n ≡ c ∷ children_from n (drop (m + 1) ps) (c + 1)) place first.all in
    let beyond = after-child ps c n falls (ap flat child) in
    let left : List Step = Leave (record { 0 = n }) ∷ after_at ps n in (
      slice_get_within ps c (Some n) child,
      (rw (tour-unfold ps n falls l, all, beyond)
          (ap (λ t. Enter (record { 0 = n }) ∷ t)
          (append_assoc (tour_at ps c ++ tours_of ps rest) (Leave (record { 0 = n }) ∷ []) (after_at ps n) ∙ append_assoc (tour_at ps c) (tours_of ps rest) left))),
    )

-- a node without children is left at once
pub enter-leaf : (ps : List (Option ℕ)) (n : ℕ) → AreFalling ps → n < length ps → first_from n ps 0 ≡ None → tour_at ps n ++ after_at ps n ≡ Enter (record { 0 = n }) ∷ Leave (record { 0 = n }) ∷ after_at ps n
enter-leaf ps n falls l h = rw (tour-unfold ps n falls l, no-children n ps 0 h) refl

drop-drop : (qs : List (Option ℕ)) (i j : ℕ) → drop i (drop j qs) ≡ drop (j + i) qs
drop-drop [] i j = rw (drop-nil {A = Option ℕ} j, drop-nil {A = Option ℕ} i, drop-nil {A = Option ℕ} (j + i)) refl
drop-drop (q ∷ qs) i zero = let e : 0 + i ≡ i = omega arith in rw e refl
drop-drop (q ∷ qs) i (suc j) = let e : suc j + i ≡ suc (j + i) = omega arith in rw e (drop-drop qs i j)

-- after a node with a later sibling is left, that is entered
pub leave-sibling : (ps : List (Option ℕ)) (n p s : ℕ) → AreFalling ps → parent_at ps n ≡ Some p → first_from p (drop (n + 1) ps) (n + 1) ≡ Some s → (s < length ps) × (after_at ps n ≡ tour_at ps s ++ after_at ps s)
leave-sibling ps n p s falls up h =
    let first = first-child p (drop (n + 1) ps) (n + 1) s h in
    let at = first.at in
    let child : slice_get ps s ≡ Some (Some p) = rw at (sym (get-drop ps (n + 1) first.place) ∙ first.child) in
    let past : n + 1 + (first.place + 1) ≡ s + 1 = omega arith in
    let rest : List ℕ = children_from p (drop (s + 1) ps) (s + 1) in
    let all : children_from p (drop (n + 1) ps) (n + 1) ≡ s ∷ rest = first.all ∙ ap (λ d. s ∷ children_from p d (s + 1)) (drop-drop ps (first.place + 1) (n + 1) ∙ ap (λ m. drop m ps) past) in (
      slice_get_within ps s (Some p) child,
      (rw (after-child ps n p falls up, all, after-child ps s p falls (ap flat child))
          (append_assoc (tour_at ps s) (tours_of ps rest) (Leave (record { 0 = p }) ∷ after_at ps p))),
    )

-- after the last child is left, its parent is
pub leave-parent : (ps : List (Option ℕ)) (n p : ℕ) → AreFalling ps → parent_at ps n ≡ Some p → first_from p (drop (n + 1) ps) (n + 1) ≡ None → (p < n) × (after_at ps n ≡ Leave (record { 0 = p }) ∷ after_at ps p)
leave-parent ps n p falls up h = (falls n p (parent-child ps n p up), rw (after-child ps n p falls up, no-children p (drop (n + 1) ps) (n + 1) h) refl)

-- the root's tour is the whole walk
pub root-parent : (nodes : List Node) → IsTree nodes → parent_at (parents_of nodes) 0 ≡ None
root-parent nodes t = by (parent_at (parents_of nodes) 0) refl
  where
    by : (o : Option ℕ) → parent_at (parents_of nodes) 0 ≡ o → o ≡ None
    by None h = refl
    by (Some p) h = let f = falling nodes t 0 p (parent-child (parents_of nodes) 0 p h) in absurd (omega arith)

pub root-element : (nodes : List Node) → IsTree nodes → is_element_at nodes 0 ≡ true
root-element nodes t = by (slice_get_at nodes 0 t.some)
  where
    of : (x : Node) (o : Option ℕ) → slice_get nodes 0 ≡ Some x → HasPlace nodes 0 x o → is_element_at nodes 0 ≡ true
    of x None e h = ap is_element_node e ∙ h.2
    of x (Some p) e h = let below = h.0 in absurd (omega (arith, below))

    by : ((x : Node) × (slice_get nodes 0 ≡ Some x)) → is_element_at nodes 0 ≡ true
    by (x, e) = of x x.parent e (t.placed 0 x e)

append-none : (steps : List Step) → steps ++ [] ≡ steps
append-none [] = refl
append-none (s ∷ steps) = ap (λ r. s ∷ r) (append-none steps)

pub whole-tour : (nodes : List Node) → IsTree nodes → tour_at (parents_of nodes) 0 ++ after_at (parents_of nodes) 0 ≡ tour (parents_of nodes) (length nodes) 0
whole-tour nodes t =
    let n : length (parents_of nodes) - 0 ≡ length nodes = (let l : length (parents_of nodes) ≡ length nodes = simp length-map refl in omega arith) in
    rw (after-root (parents_of nodes) 0 (root-parent nodes t)) (append-none (tour_at (parents_of nodes) 0) ∙ ap (λ d. tour (parents_of nodes) d 0) n)

pub after-sibling : (nodes : List Node) (n s : ℕ) → IsTree nodes → next_of (parents_of nodes) n ≡ Some s → (s < length nodes) × (after_at (parents_of nodes) n ≡ tour_at (parents_of nodes) s ++ after_at (parents_of nodes) s)
after-sibling nodes n s t h = by (parent_at (parents_of nodes) n) refl h
  where
    by : (o : Option ℕ) → parent_at (parents_of nodes) n ≡ o → next_under (parents_of nodes) n o ≡ Some s → (s < length nodes) × (after_at (parents_of nodes) n ≡ tour_at (parents_of nodes) s ++ after_at (parents_of nodes) s)
    by None up g = cc
    by (Some p) up g =
        let w = leave-sibling (parents_of nodes) n p s (falling nodes t) up g in
        let l = w.0 in
        let e : length (parents_of nodes) ≡ length nodes = simp length-map refl in
        (omega arith, w.1)

pub after-last : (nodes : List Node) (n p : ℕ) → IsTree nodes → n < length nodes → next_of (parents_of nodes) n ≡ None → parent_at (parents_of nodes) n ≡ Some p → (p < length nodes) × (after_at (parents_of nodes) n ≡ Leave (record { 0 = p }) ∷ after_at (parents_of nodes) p)
after-last nodes n p t l h up =
    let none : next_under (parents_of nodes) n (Some p) ≡ None = subst (λ o. next_under (parents_of nodes) n o ≡ None) up h in
    let w = leave-parent (parents_of nodes) n p (falling nodes t) up none in
    let f = w.0 in
    (omega arith, w.1)
