-- The rows of a tree and the numbers of their parents.
use Rattle.std.proofs.Common.{◌≡◌, ℕ, ◌+◌, ◌<◌, ◌≤◌, Bool, true, false, nat_le, ◌&&◌, IsTrue, List, [], ◌∷◌, ◌++◌, Option, None, Some, IfSome, length, length-append, length-drop, take, drop, slice_get, slice_set, get_or, option_map, cond, refl, sym, ◌∙◌, ap, subst, arith, ◌⊎◌, inl, inr, ◌==◌, add-zero, is_some, suc, zero, if◌then◌else◌}
use Rattle.std.specs.Option.{option_or}
use Rattle.std.proofs.lemmas.Map.Views.{exact_unsigned_eq}
use Rattle.std.proofs.lemmas.Bool.Decides.{nat_tests}
use Rattle.std.proofs.lemmas.Bool.{eq-eqb}
use Rattle.std.proofs.lemmas.List.{drop-append-le, take-append-le, map-append, length-map}
use Rattle.std.proofs.Math.ListN.{drop_of_length-le, length-set}
use Rattle.std.proofs.Math.Seq.{take-length}
use Rattle.std.proofs.lemmas.Option.{slice_get-map, slice_get_read, slice_get_within}
use Rattle.dom.specs.Nodes.{Node, NodeData, root, changed_at, is_at, first_from, last_from, parents_of, parent_at, flat, last_child_of, next_under, prev_under, depth_of, depth_at, reach_of, is_element, is_element_at, is_element_node, element_parent, element_parents_of, element_count, elements_under, IsTree, HasPlace}
use Rattle.dom.specs.declared.rows.Row.{Row}
use Rattle.dom.specs.Links.{IsRowOf, root_row, change, linked_before, linked_at}
use Rattle.dom.specs.DomFields.{node_of, joined, IsLinked, AreSoundRows}
use Rattle.dom.specs.Answers.{is_below_all}
use Rattle.std.specs.List.{count_by}
use Rattle.std.proofs.lemmas.List.Sums.{sum_by-append, count_by-le-length}
use Rattle.bk_num.proofs.ListLemmas.{get-set, get-push, get-keep, get-end, get-before, none-is}

abbrev pub parents_in : List Row → List NodeData → List (Option ℕ)
parents_in rows whats = parents_of (joined rows whats)

abbrev pub elements_in : List Row → List NodeData → List (Option ℕ)
elements_in rows whats = element_parents_of (joined rows whats)

pub length-joined : (rows : List Row) (whats : List NodeData) → length whats ≡ length rows → length (joined rows whats) ≡ length rows
length-joined [] whats l = refl
length-joined (r ∷ rows) [] l = absurd (omega arith)
length-joined (r ∷ rows) (what ∷ whats) l = ap (λ n. suc n) (length-joined rows whats (omega arith))

-- the node of a row
pub get-joined : (rows : List Row) (whats : List NodeData) (k : ℕ) (r : Row) → length whats ≡ length rows → slice_get rows k ≡ Some r → (what : NodeData) × (slice_get whats k ≡ Some what) × (slice_get (joined rows whats) k ≡ Some (node_of r what))
get-joined [] whats k r l h = cc
get-joined (a ∷ rows) [] k r l h = absurd (omega arith)
get-joined (a ∷ rows) (what ∷ whats) zero r l h = (let e : a ≡ r = cc in (what, refl, ap (λ x. Some (node_of x what)) e))
get-joined (a ∷ rows) (what ∷ whats) (suc k) r l h = get-joined rows whats k r (omega arith) h

pub joined-push : (rows : List Row) (whats : List NodeData) (r : Row) (what : NodeData) → length whats ≡ length rows → joined (rows ++ r ∷ []) (whats ++ what ∷ []) ≡ joined rows whats ++ node_of r what ∷ []
joined-push [] [] r what l = refl
joined-push [] (w ∷ whats) r what l = absurd (omega arith)
joined-push (a ∷ rows) [] r what l = absurd (omega arith)
joined-push (a ∷ rows) (w ∷ whats) r what l = ap (λ ns. node_of a w ∷ ns) (joined-push rows whats r what (omega arith))

-- the parent's number of a row
pub parent-in : (rows : List Row) (whats : List NodeData) (k : ℕ) (r : Row) → length whats ≡ length rows → slice_get rows k ≡ Some r → slice_get (parents_in rows whats) k ≡ Some r.parent
parent-in rows whats k r l h = (let g = get-joined rows whats k r l h in slice_get-map (λ (n : Node). n.parent) (joined rows whats) k ∙ ap (option_map (λ (n : Node). n.parent)) g.2)

pub parent_of-row : (rows : List Row) (whats : List NodeData) (k : ℕ) (r : Row) → length whats ≡ length rows → slice_get rows k ≡ Some r → parent_at (parents_in rows whats) k ≡ r.parent
parent_of-row rows whats k r l h = ap flat (parent-in rows whats k r l h)

-- the row that is read, with its links
pub linked-row : (rows : List Row) (whats : List NodeData) (k : ℕ) (r : Row) → AreSoundRows rows whats → k < length rows → r ≡ get_or rows k r → IsLinked (parents_in rows whats) (elements_in rows whats) k r
linked-row rows whats k r sound h e = sound.linked k r (slice_get_read rows (length rows) k r refl h e)

-- one more node: the first and the last of a parent's children
pub first-push : (p : ℕ) (ps : List (Option ℕ)) (q : Option ℕ) (k : ℕ) → first_from p (ps ++ q ∷ []) k ≡ option_or (first_from p ps k) (cond (is_at p q) (Some (k + length ps)) None)
first-push p [] q k = rw (add-zero k) refl
first-push p (x ∷ ps) q k = by (is_at p x) (first-push p ps q (k + 1))
  where
    by : (b : Bool) → first_from p (ps ++ q ∷ []) (k + 1) ≡ option_or (first_from p ps (k + 1)) (cond (is_at p q) (Some (k + 1 + length ps)) None) → cond b (Some k) (first_from p (ps ++ q ∷ []) (k + 1)) ≡ option_or (cond b (Some k) (first_from p ps (k + 1))) (cond (is_at p q) (Some (k + length (x ∷ ps))) None)
    by true h = refl
    by false h = let e : k + 1 + length ps ≡ k + length (x ∷ ps) = omega arith in h ∙ ap (λ n. option_or (first_from p ps (k + 1)) (cond (is_at p q) (Some n) None)) e

pub last-push : (p : ℕ) (ps : List (Option ℕ)) (q : Option ℕ) (k : ℕ) → last_from p (ps ++ q ∷ []) k ≡ cond (is_at p q) (Some (k + length ps)) (last_from p ps k)
last-push p [] q k = rw (add-zero k) refl
last-push p (x ∷ ps) q k = by (is_at p q) (last-push p ps q (k + 1))
  where
    by : (b : Bool) → last_from p (ps ++ q ∷ []) (k + 1) ≡ cond b (Some (k + 1 + length ps)) (last_from p ps (k + 1)) → option_or (last_from p (ps ++ q ∷ []) (k + 1)) (cond (is_at p x) (Some k) None) ≡ cond b (Some (k + length (x ∷ ps))) (option_or (last_from p ps (k + 1)) (cond (is_at p x) (Some k) None))
    by true h = let e : k + 1 + length ps ≡ k + length (x ∷ ps) = omega arith in rw h (ap (λ n. Some n) e)
    by false h = rw h refl

-- there is a first child exactly where there is a last one
pub none-both : (p : ℕ) (ps : List (Option ℕ)) (k : ℕ) → is_some (first_from p ps k) ≡ is_some (last_from p ps k)
none-both p [] k = refl
none-both p (x ∷ ps) k = by (is_at p x) (last_from p ps (k + 1)) (none-both p ps (k + 1))
  where
    by : (b : Bool) (o : Option ℕ) → is_some (first_from p ps (k + 1)) ≡ is_some o → is_some (cond b (Some k) (first_from p ps (k + 1))) ≡ is_some (option_or o (cond b (Some k) None))
    by true None h = refl
    by true (Some l) h = refl
    by false None h = h
    by false (Some l) h = h

pub eqb-self : (n : ℕ) → (n == n) ≡ true
eqb-self n = eq-eqb n n refl

pub drop-push : {A : Type 0} (xs : List A) (x : A) (n : ℕ) → n ≤ length xs → drop n (xs ++ x ∷ []) ≡ drop n xs ++ x ∷ []
drop-push xs x n h = drop-append-le n xs (x ∷ []) h

-- what is found lies at or after k
pub last-low : (p : ℕ) (ps : List (Option ℕ)) (k l : ℕ) → last_from p ps k ≡ Some l → k ≤ l
last-low p [] k l h = cc
last-low p (x ∷ ps) k l h = by (last_from p ps (k + 1)) (is_at p x) (λ m e. last-low p ps (k + 1) m e) h
  where
    by : (o : Option ℕ) (b : Bool) → ((m : ℕ) → o ≡ Some m → k + 1 ≤ m) → option_or o (cond b (Some k) None) ≡ Some l → k ≤ l
    by None true low g = let s : k ≡ l = cc in omega arith
    by None false low g = cc
    by (Some m) b low g = let s : m ≡ l = cc in let far : k + 1 ≤ m = low m refl in omega arith

-- what is found is a child
pub last-is : (p : ℕ) (ps : List (Option ℕ)) (k l : ℕ) → last_from p ps k ≡ Some l → (m : ℕ) × (l ≡ k + m) × (slice_get ps m ≡ Some (Some p))
last-is p [] k l h = cc
last-is p (x ∷ ps) k l h = by (last_from p ps (k + 1)) x (λ m e. last-is p ps (k + 1) m e) h
  where
    by : (o q : Option ℕ) → ((i : ℕ) → o ≡ Some i → (m : ℕ) × (i ≡ k + 1 + m) × (slice_get ps m ≡ Some (Some p))) → option_or o (cond (is_at p q) (Some k) None) ≡ Some l → (m : ℕ) × (l ≡ k + m) × (slice_get (q ∷ ps) m ≡ Some (Some p))
    by None None low g = cc
    by None (Some q) low g = here (q == p) refl g
      where
        here : (b : Bool) → (q == p) ≡ b → cond b (Some k) None ≡ Some l → (m : ℕ) × (l ≡ k + m) × (slice_get (Some q ∷ ps) m ≡ Some (Some p))
        here true e v = let s : k ≡ l = cc in let t = exact_unsigned_eq q p e in (0, omega arith, ap (λ n. Some (Some n)) t)
        here false e v = cc
    by (Some i) q low g = let s : i ≡ l = cc in let t = low i refl in (suc t.0, (let u = t.1 in omega arith), t.2)

-- the last child of a list up to and with one of them
pub last-next : (p : ℕ) (ps : List (Option ℕ)) (k n : ℕ) → slice_get ps n ≡ Some (Some p) → last_from p ps k ≡ option_or (last_from p (drop (n + 1) ps) (k + n + 1)) (Some (k + n))
last-next p [] k n h = cc
last-next p (x ∷ ps) k zero h = let e : x ≡ Some p = cc in let t : is_at p (Some p) ≡ true = eqb-self p in rw (e, t, add-zero k) refl
last-next p (x ∷ ps) k (suc n) h =
    let a : k + 1 + n + 1 ≡ k + suc n + 1 = omega arith in
    let b : k + 1 + n ≡ k + suc n = omega arith in
    let d : suc n + 1 ≡ suc (n + 1) = omega arith in
    rw (last-next p ps (k + 1) n h) (rw (a, b, d) (by (last_from p (drop (n + 1) ps) (k + suc n + 1)) (cond (is_at p x) (Some k) None)))
  where
    by : (o z : Option ℕ) → option_or (option_or o (Some (k + suc n))) z ≡ option_or o (Some (k + suc n))
    by None z = refl
    by (Some i) z = refl

-- after the last child there is none, and after another there is one
pub none-behind : (o : Option ℕ) (k : ℕ) → ((i : ℕ) → o ≡ Some i → k + 1 ≤ i) → option_or o (Some k) ≡ Some k → o ≡ None
none-behind None k low h = refl
none-behind (Some i) k low h = let e : i ≡ k = cc in let l = low i refl in absurd (omega arith)

-- no node has a number as its parent: it has no child
pub no-first : (p : ℕ) (ps : List (Option ℕ)) (k : ℕ) → ((j : ℕ) → slice_get ps j ≡ Some (Some p) → ⊥) → first_from p ps k ≡ None
no-first p [] k none = refl
no-first p (None ∷ ps) k none = no-first p ps (k + 1) (λ j. none (suc j))
no-first p (Some q ∷ ps) k none = by (q == p) refl (no-first p ps (k + 1) (λ j. none (suc j)))
  where
    by : (b : Bool) → (q == p) ≡ b → first_from p ps (k + 1) ≡ None → cond b (Some k) (first_from p ps (k + 1)) ≡ None
    by true e rest = absurd (none 0 (ap (λ n. Some (Some n)) (exact_unsigned_eq q p e)))
    by false e rest = rest

pub first_of-None : (o : Option ℕ) → option_or o None ≡ o
first_of-None None = refl
first_of-None (Some x) = refl

pub first_of-Some : (o z : Option ℕ) → is_some o ≡ true → option_or o z ≡ o
first_of-Some None z h = cc
first_of-Some (Some x) z h = refl

pub Some-first : (o : Option ℕ) → (o ≡ None → ⊥) → is_some o ≡ true
Some-first None h = absurd (h refl)
Some-first (Some x) h = refl

-- the first child after one more node below p, where `last` was the last one
pub first-step : (ps : List (Option ℕ)) (p k n : ℕ) (last old new : Option ℕ) → n ≡ length ps → last ≡ last_from p ps 0 → old ≡ first_from k ps 0
    → ((k ≡ p) × (last ≡ None) × (new ≡ Some n)) ⊎ ((k ≡ p → last ≡ None → ⊥) × (new ≡ old)) → new ≡ first_from k (ps ++ Some p ∷ []) 0
first-step ps p k n last old new len l o (inl (e, none, v)) =
    let f = none-both p ps 0 in
    let s : is_some (last_from p ps 0) ≡ false = ap is_some (sym l ∙ none) in
    let g : first_from p ps 0 ≡ None = none-is (first_from p ps 0) (f ∙ s) in
    let t : is_at p (Some p) ≡ true = eqb-self p in
    let z : 0 + length ps ≡ n = omega arith in
    v ∙ sym (rw e (first-push p ps (Some p) 0 ∙ rw (g, t, z) refl))
first-step ps p k n last old new len l o (inr (other, v)) = v ∙ o ∙ sym (first-push k ps (Some p) 0 ∙ by (p == k) refl)
  where
    by : (b : Bool) → (p == k) ≡ b → option_or (first_from k ps 0) (cond b (Some (0 + length ps)) None) ≡ first_from k ps 0
    by true e =
        let s : k ≡ p = sym (exact_unsigned_eq p k e) in
        let some : is_some (last_from p ps 0) ≡ true = Some-first (last_from p ps 0) (λ h. other s (l ∙ h)) in
        first_of-Some (first_from k ps 0) (Some (0 + length ps)) (none-both k ps 0 ∙ rw s some)
    by false e = first_of-None (first_from k ps 0)

pub last-step : (ps : List (Option ℕ)) (p k n : ℕ) (old new : Option ℕ) → n ≡ length ps → old ≡ last_from k ps 0
    → ((k ≡ p) × (new ≡ Some n)) ⊎ ((k ≡ p → ⊥) × (new ≡ old)) → new ≡ last_from k (ps ++ Some p ∷ []) 0
last-step ps p k n old new len o (inl (e, v)) =
    let t : is_at p (Some p) ≡ true = eqb-self p in
    let z : 0 + length ps ≡ n = omega arith in
    v ∙ sym (rw e (last-push p ps (Some p) 0 ∙ rw (t, z) refl))
last-step ps p k n old new len o (inr (other, v)) = v ∙ o ∙ sym (last-push k ps (Some p) 0 ∙ by (p == k) refl)
  where
    by : (b : Bool) → (p == k) ≡ b → cond b (Some (0 + length ps)) (last_from k ps 0) ≡ last_from k ps 0
    by true e = absurd (other (sym (exact_unsigned_eq p k e)))
    by false e = refl

pub next-step : (ps : List (Option ℕ)) (p k n : ℕ) (q last old new : Option ℕ) → n ≡ length ps → slice_get ps k ≡ Some q → last ≡ last_from p ps 0 → old ≡ next_under ps k q
    → ((last ≡ Some k) × (new ≡ Some n)) ⊎ ((last ≡ Some k → ⊥) × (new ≡ old)) → new ≡ next_under (ps ++ Some p ∷ []) k q
next-step ps p k n None last old new len g l o (inl (e, v)) =
    let w = last-is p ps 0 k (sym l ∙ e) in
    let m : w.0 ≡ k = (let u = w.1 in omega arith) in
    let bad : Some None ≡ Some (Some p) = sym g ∙ subst (λ i. slice_get ps i ≡ Some (Some p)) m w.2 in
    cc
next-step ps p k n None last old new len g l o (inr (other, v)) = v ∙ o
next-step ps p k n (Some s) last old new len g l o change =
    let inside : k < length ps = slice_get_within ps k (Some s) g in
    let at : k + 1 + length (drop (k + 1) ps) ≡ n = (let d = length-drop (k + 1) ps in omega arith) in
    let pushed : first_from s (drop (k + 1) (ps ++ Some p ∷ [])) (k + 1) ≡ option_or (first_from s (drop (k + 1) ps) (k + 1)) (cond (p == s) (Some n) None) =
    ap (λ d. first_from s d (k + 1)) (drop-push ps (Some p) (k + 1) (omega arith)) ∙ first-push s (drop (k + 1) ps) (Some p) (k + 1) ∙ ap (λ m. option_or (first_from s (drop (k + 1) ps) (k + 1)) (cond (p == s) (Some m) None)) at in
    by change ∙ sym pushed
  where
    by : ((last ≡ Some k) × (new ≡ Some n)) ⊎ ((last ≡ Some k → ⊥) × (new ≡ old)) → new ≡ option_or (first_from s (drop (k + 1) ps) (k + 1)) (cond (p == s) (Some n) None)
    by (inl (e, v)) =
        let w = last-is p ps 0 k (sym l ∙ e) in
        let m : w.0 ≡ k = (let u = w.1 in omega arith) in
        let child : slice_get ps k ≡ Some (Some p) = subst (λ i. slice_get ps i ≡ Some (Some p)) m w.2 in
        let same : s ≡ p = (let z = sym g ∙ child in cc) in
        let none = behind child (sym l ∙ e) in
        let f : first_from s (drop (k + 1) ps) (k + 1) ≡ None = rw same (none-is (first_from p (drop (k + 1) ps) (k + 1)) (none-both p (drop (k + 1) ps) (k + 1) ∙ ap is_some none)) in
        let t : (p == s) ≡ true = rw same (eqb-self p) in
        v ∙ sym (rw (f, t) refl)
      where
        behind : slice_get ps k ≡ Some (Some p) → last_from p ps 0 ≡ Some k → last_from p (drop (k + 1) ps) (k + 1) ≡ None
        behind child e =
            let z : 0 + k ≡ k = omega arith in
            none-behind (last_from p (drop (k + 1) ps) (k + 1)) k (last-low p (drop (k + 1) ps) (k + 1)) (sym (rw z at (last-next p ps 0 k child)) ∙ e)
    by (inr (other, v)) = v ∙ o ∙ sym (test (p == s) refl)
      where
        test : (b : Bool) → (p == s) ≡ b → option_or (first_from s (drop (k + 1) ps) (k + 1)) (cond b (Some n) None) ≡ first_from s (drop (k + 1) ps) (k + 1)
        test true e =
            let same : s ≡ p = sym (exact_unsigned_eq p s e) in
            let z : 0 + k ≡ k = omega arith in
            let ln = rw z at (last-next p ps 0 k (g ∙ ap (λ i. Some (Some i)) same)) in
            let some : is_some (last_from p (drop (k + 1) ps) (k + 1)) ≡ true = Some-first (last_from p (drop (k + 1) ps) (k + 1)) (λ h. other (l ∙ ln ∙ ap (λ o. option_or o (Some k)) h)) in
            first_of-Some (first_from s (drop (k + 1) ps) (k + 1)) (Some n) (none-both s (drop (k + 1) ps) (k + 1) ∙ rw same some)
        test false e = first_of-None (first_from s (drop (k + 1) ps) (k + 1))

-- the row at a place, changed
pub get-change : (f : Row → Row) (rows : List Row) (i k : ℕ) (r : Row) → slice_get (change f rows i) k ≡ Some r → (old : Row) × (slice_get rows k ≡ Some old) × (((k ≡ i) × (r ≡ f old)) ⊎ ((k ≡ i → ⊥) × (r ≡ old)))
get-change f rows i k r h = by (slice_get rows i) refl h
  where
    by : (o : Option Row) → slice_get rows i ≡ o → slice_get (changed_at f rows i o) k ≡ Some r → (old : Row) × (slice_get rows k ≡ Some old) × (((k ≡ i) × (r ≡ f old)) ⊎ ((k ≡ i → ⊥) × (r ≡ old)))
    by None e g = (r, g, inr (λ s. let z : slice_get rows i ≡ Some r = subst (λ j. slice_get rows j ≡ Some r) s g in cc, refl))
    by (Some a) e g = of (get-set rows i k (f a) r g)
      where
        of : ((old : Row) × (slice_get rows k ≡ Some old) × (((k ≡ i) × (r ≡ f a)) ⊎ ((k ≡ i → ⊥) × (r ≡ old)))) → (old : Row) × (slice_get rows k ≡ Some old) × (((k ≡ i) × (r ≡ f old)) ⊎ ((k ≡ i → ⊥) × (r ≡ old)))
        of (old, at, inl (s, v)) = let z : slice_get rows i ≡ Some old = subst (λ j. slice_get rows j ≡ Some old) s at in let same : a ≡ old = cc in (old, at, inl (s, v ∙ ap f same))
        of (old, at, inr (n, v)) = (old, at, inr (n, v))

-- a change of links leaves the nodes
nodes-set : (rows : List Row) (whats : List NodeData) (i : ℕ) (r y : Row) → slice_get rows i ≡ Some r → ((what : NodeData) → node_of y what ≡ node_of r what) → joined (slice_set rows i y) whats ≡ joined rows whats
nodes-set [] whats i r y h e = refl
nodes-set (a ∷ rows) [] zero r y h e = refl
nodes-set (a ∷ rows) [] (suc i) r y h e = refl
nodes-set (a ∷ rows) (what ∷ whats) zero r y h e = let s : a ≡ r = cc in ap (λ n. n ∷ joined rows whats) (e what ∙ ap (λ x. node_of x what) (sym s))
nodes-set (a ∷ rows) (what ∷ whats) (suc i) r y h e = ap (λ l. node_of a what ∷ l) (nodes-set rows whats i r y h e)

nodes-change : (f : Row → Row) (rows : List Row) (whats : List NodeData) (i : ℕ) → ((r : Row) (what : NodeData) → node_of (f r) what ≡ node_of r what) → joined (change f rows i) whats ≡ joined rows whats
nodes-change f rows whats i same = by (slice_get rows i) refl
  where
    by : (o : Option Row) → slice_get rows i ≡ o → joined (changed_at f rows i o) whats ≡ joined rows whats
    by None e = refl
    by (Some r) e = nodes-set rows whats i r (f r) e (same r)

pub nodes-linked : (rows : List Row) (whats : List NodeData) (p : ℕ) (last : Option ℕ) (n m : ℕ) → joined (linked_at rows p last n m) whats ≡ joined rows whats
nodes-linked rows whats p None n m = nodes-change (λ r. record r { last_child = Some n; elements = m }) (linked_before rows p None n) whats p (λ r what. refl) ∙ nodes-change (λ r. record r { first_child = Some n }) rows whats p (λ r what. refl)
nodes-linked rows whats p (Some l) n m = nodes-change (λ r. record r { last_child = Some n; elements = m }) (linked_before rows p (Some l) n) whats p (λ r what. refl) ∙ nodes-change (λ r. record r { next = Some n }) rows whats l (λ r what. refl)

length-change : (f : Row → Row) (rows : List Row) (i : ℕ) → length (change f rows i) ≡ length rows
length-change f rows i = by (slice_get rows i)
  where
    by : (o : Option Row) → length (changed_at f rows i o) ≡ length rows
    by None = refl
    by (Some r) = simp length-set

pub length-linked : (rows : List Row) (p : ℕ) (last : Option ℕ) (n m : ℕ) → length (linked_at rows p last n m) ≡ length rows
length-linked rows p None n m = length-change (λ r. record r { last_child = Some n; elements = m }) (linked_before rows p None n) p ∙ length-change (λ r. record r { first_child = Some n }) rows p
length-linked rows p (Some l) n m = length-change (λ r. record r { last_child = Some n; elements = m }) (linked_before rows p (Some l) n) p ∙ length-change (λ r. record r { next = Some n }) rows l

-- what an added child changes in a row
pub record Changes (p : ℕ) (last : Option ℕ) (n m k : ℕ) (old new : Row) : Type 0 where
  pub parent : new.parent ≡ old.parent
  pub depth : new.depth ≡ old.depth
  pub prev : new.prev ≡ old.prev
  pub before : new.elements_before ≡ old.elements_before
  pub elements : ((k ≡ p) × (new.elements ≡ m)) ⊎ ((k ≡ p → ⊥) × (new.elements ≡ old.elements))
  pub last_child : ((k ≡ p) × (new.last_child ≡ Some n)) ⊎ ((k ≡ p → ⊥) × (new.last_child ≡ old.last_child))
  pub first_child : ((k ≡ p) × (last ≡ None) × (new.first_child ≡ Some n)) ⊎ ((k ≡ p → last ≡ None → ⊥) × (new.first_child ≡ old.first_child))
  pub next : ((last ≡ Some k) × (new.next ≡ Some n)) ⊎ ((last ≡ Some k → ⊥) × (new.next ≡ old.next))

pub get-linked : (rows : List Row) (p : ℕ) (last : Option ℕ) (n m k : ℕ) (r : Row) → slice_get (linked_at rows p last n m) k ≡ Some r → (old : Row) × (slice_get rows k ≡ Some old) × Changes p last n m k old r
get-linked rows p None n m k r h = by (get-change (λ r. record r { last_child = Some n; elements = m }) (linked_before rows p None n) p k r h)
  where
    by : ((mid : Row) × (slice_get (linked_before rows p None n) k ≡ Some mid) × (((k ≡ p) × (r ≡ record mid { last_child = Some n; elements = m })) ⊎ ((k ≡ p → ⊥) × (r ≡ mid)))) → (old : Row) × (slice_get rows k ≡ Some old) × Changes p None n m k old r
    by (mid, at, c) = of (get-change (λ r. record r { first_child = Some n }) rows p k mid at) c
      where
        of : ((old : Row) × (slice_get rows k ≡ Some old) × (((k ≡ p) × (mid ≡ record old { first_child = Some n })) ⊎ ((k ≡ p → ⊥) × (mid ≡ old)))) → ((k ≡ p) × (r ≡ record mid { last_child = Some n; elements = m })) ⊎ ((k ≡ p → ⊥) × (r ≡ mid)) → (old : Row) × (slice_get rows k ≡ Some old) × Changes p None n m k old r
        of (old, g, inl (e, w)) (inl (d, v)) = (
          old,
          g,
          record {
            parent = ap (λ (x : Row). x.parent) v ∙ ap (λ (x : Row). x.parent) w;
            depth = ap (λ (x : Row). x.depth) v ∙ ap (λ (x : Row). x.depth) w;
            prev = ap (λ (x : Row). x.prev) v ∙ ap (λ (x : Row). x.prev) w;
            before = ap (λ (x : Row). x.elements_before) v ∙ ap (λ (x : Row). x.elements_before) w;
            last_child = inl (d, ap (λ (x : Row). x.last_child) v);
            elements = inl (d, ap (λ (x : Row). x.elements) v);
            first_child = inl (d, refl, ap (λ (x : Row). x.first_child) v ∙ ap (λ (x : Row). x.first_child) w);
            next = inr (λ z. cc, ap (λ (x : Row). x.next) v ∙ ap (λ (x : Row). x.next) w);
          },
        )
        of (old, g, inl (e, w)) (inr (d, v)) = absurd (d e)
        of (old, g, inr (e, w)) (inl (d, v)) = absurd (e d)
        of (old, g, inr (e, w)) (inr (d, v)) = (
          old,
          g,
          record {
            parent = ap (λ (x : Row). x.parent) v ∙ ap (λ (x : Row). x.parent) w;
            depth = ap (λ (x : Row). x.depth) v ∙ ap (λ (x : Row). x.depth) w;
            prev = ap (λ (x : Row). x.prev) v ∙ ap (λ (x : Row). x.prev) w;
            before = ap (λ (x : Row). x.elements_before) v ∙ ap (λ (x : Row). x.elements_before) w;
            last_child = inr (d, ap (λ (x : Row). x.last_child) v ∙ ap (λ (x : Row). x.last_child) w);
            elements = inr (d, ap (λ (x : Row). x.elements) v ∙ ap (λ (x : Row). x.elements) w);
            first_child = inr (λ z _. d z, ap (λ (x : Row). x.first_child) v ∙ ap (λ (x : Row). x.first_child) w);
            next = inr (λ z. cc, ap (λ (x : Row). x.next) v ∙ ap (λ (x : Row). x.next) w);
          },
        )
get-linked rows p (Some l) n m k r h = by (get-change (λ r. record r { last_child = Some n; elements = m }) (linked_before rows p (Some l) n) p k r h)
  where
    by : ((mid : Row) × (slice_get (linked_before rows p (Some l) n) k ≡ Some mid) × (((k ≡ p) × (r ≡ record mid { last_child = Some n; elements = m })) ⊎ ((k ≡ p → ⊥) × (r ≡ mid)))) → (old : Row) × (slice_get rows k ≡ Some old) × Changes p (Some l) n m k old r
    by (mid, at, c) = of (get-change (λ r. record r { next = Some n }) rows l k mid at) c
      where
        of : ((old : Row) × (slice_get rows k ≡ Some old) × (((k ≡ l) × (mid ≡ record old { next = Some n })) ⊎ ((k ≡ l → ⊥) × (mid ≡ old)))) → ((k ≡ p) × (r ≡ record mid { last_child = Some n; elements = m })) ⊎ ((k ≡ p → ⊥) × (r ≡ mid)) → (old : Row) × (slice_get rows k ≡ Some old) × Changes p (Some l) n m k old r
        of (old, g, inl (e, w)) (inl (d, v)) = (
          old,
          g,
          record {
            parent = ap (λ (x : Row). x.parent) v ∙ ap (λ (x : Row). x.parent) w;
            depth = ap (λ (x : Row). x.depth) v ∙ ap (λ (x : Row). x.depth) w;
            prev = ap (λ (x : Row). x.prev) v ∙ ap (λ (x : Row). x.prev) w;
            before = ap (λ (x : Row). x.elements_before) v ∙ ap (λ (x : Row). x.elements_before) w;
            last_child = inl (d, ap (λ (x : Row). x.last_child) v);
            elements = inl (d, ap (λ (x : Row). x.elements) v);
            first_child = inr (λ z y. cc, ap (λ (x : Row). x.first_child) v ∙ ap (λ (x : Row). x.first_child) w);
            next = inl (ap (λ m. Some m) (sym e), ap (λ (x : Row). x.next) v ∙ ap (λ (x : Row). x.next) w);
          },
        )
        of (old, g, inl (e, w)) (inr (d, v)) = (
          old,
          g,
          record {
            parent = ap (λ (x : Row). x.parent) v ∙ ap (λ (x : Row). x.parent) w;
            depth = ap (λ (x : Row). x.depth) v ∙ ap (λ (x : Row). x.depth) w;
            prev = ap (λ (x : Row). x.prev) v ∙ ap (λ (x : Row). x.prev) w;
            before = ap (λ (x : Row). x.elements_before) v ∙ ap (λ (x : Row). x.elements_before) w;
            last_child = inr (d, ap (λ (x : Row). x.last_child) v ∙ ap (λ (x : Row). x.last_child) w);
            elements = inr (d, ap (λ (x : Row). x.elements) v ∙ ap (λ (x : Row). x.elements) w);
            first_child = inr (λ z _. d z, ap (λ (x : Row). x.first_child) v ∙ ap (λ (x : Row). x.first_child) w);
            next = inl (ap (λ m. Some m) (sym e), ap (λ (x : Row). x.next) v ∙ ap (λ (x : Row). x.next) w);
          },
        )
        of (old, g, inr (e, w)) (inl (d, v)) = (
          old,
          g,
          record {
            parent = ap (λ (x : Row). x.parent) v ∙ ap (λ (x : Row). x.parent) w;
            depth = ap (λ (x : Row). x.depth) v ∙ ap (λ (x : Row). x.depth) w;
            prev = ap (λ (x : Row). x.prev) v ∙ ap (λ (x : Row). x.prev) w;
            before = ap (λ (x : Row). x.elements_before) v ∙ ap (λ (x : Row). x.elements_before) w;
            last_child = inl (d, ap (λ (x : Row). x.last_child) v);
            elements = inl (d, ap (λ (x : Row). x.elements) v);
            first_child = inr (λ z y. cc, ap (λ (x : Row). x.first_child) v ∙ ap (λ (x : Row). x.first_child) w);
            next = inr (λ z. e (let q : l ≡ k = cc in sym q), ap (λ (x : Row). x.next) v ∙ ap (λ (x : Row). x.next) w);
          },
        )
        of (old, g, inr (e, w)) (inr (d, v)) = (
          old,
          g,
          record {
            parent = ap (λ (x : Row). x.parent) v ∙ ap (λ (x : Row). x.parent) w;
            depth = ap (λ (x : Row). x.depth) v ∙ ap (λ (x : Row). x.depth) w;
            prev = ap (λ (x : Row). x.prev) v ∙ ap (λ (x : Row). x.prev) w;
            before = ap (λ (x : Row). x.elements_before) v ∙ ap (λ (x : Row). x.elements_before) w;
            last_child = inr (d, ap (λ (x : Row). x.last_child) v ∙ ap (λ (x : Row). x.last_child) w);
            elements = inr (d, ap (λ (x : Row). x.elements) v ∙ ap (λ (x : Row). x.elements) w);
            first_child = inr (λ z _. d z, ap (λ (x : Row). x.first_child) v ∙ ap (λ (x : Row). x.first_child) w);
            next = inr (λ z. e (let q : l ≡ k = cc in sym q), ap (λ (x : Row). x.next) v ∙ ap (λ (x : Row). x.next) w);
          },
        )

-- the row of a new child
pub record IsNewRow (nodes : List Node) (es : List (Option ℕ)) (p : ℕ) (earlier : Option ℕ) (r : Row) : Type 0 where
  pub parent : r.parent ≡ Some p
  pub depth : r.depth ≡ depth_at nodes p + 1
  pub first : r.first_child ≡ None
  pub last : r.last_child ≡ None
  pub next : r.next ≡ None
  pub prev : r.prev ≡ earlier
  pub before : r.elements_before ≡ element_count es p
  pub elements : r.elements ≡ 0

pub nodes-added : (rows : List Row) (whats : List NodeData) (p : ℕ) (last : Option ℕ) (n m : ℕ) (new : Row) (what : NodeData) → length whats ≡ length rows → joined (linked_at (rows ++ new ∷ []) p last n m) (whats ++ what ∷ []) ≡ joined rows whats ++ node_of new what ∷ []
nodes-added rows whats p last n m new what l = nodes-linked (rows ++ new ∷ []) (whats ++ what ∷ []) p last n m ∙ joined-push rows whats new what l

pub length-parents : (rows : List Row) (whats : List NodeData) → length whats ≡ length rows → length (parents_in rows whats) ≡ length rows
length-parents rows whats l = (let j = length-joined rows whats l in simp length-map j)

pub length-elements : (rows : List Row) (whats : List NodeData) → length whats ≡ length rows → length (elements_in rows whats) ≡ length rows
length-elements rows whats l = (let j = length-joined rows whats l in simp length-map j)

pub prev-step : (ps : List (Option ℕ)) (k : ℕ) (q x : Option ℕ) → k ≤ length ps → prev_under (ps ++ x ∷ []) k q ≡ prev_under ps k q
prev-step ps k None x h = refl
prev-step ps k (Some s) x h = ap (λ l. last_from s l 0) (take-append-le k ps (x ∷ []) h)

before-step : (es : List (Option ℕ)) (k : ℕ) (q x : Option ℕ) → k ≤ length es → elements_under (es ++ x ∷ []) k q ≡ elements_under es k q
before-step es k None x h = refl
before-step es k (Some s) x h = ap (count_by (is_at s)) (take-append-le k es (x ∷ []) h)

pub falls-push : (ps : List (Option ℕ)) (p : ℕ) → ((k q : ℕ) → slice_get ps k ≡ Some (Some q) → q < k) → p < length ps → (k q : ℕ) → slice_get (ps ++ Some p ∷ []) k ≡ Some (Some q) → q < k
falls-push ps p falls h k q g = by (get-push ps (Some p) (Some q) k g)
  where
    by : ((k ≡ length ps) × (Some q ≡ Some p)) ⊎ (slice_get ps k ≡ Some (Some q)) → q < k
    by (inl (e, v)) = let s : q ≡ p = cc in omega arith
    by (inr u) = falls k q u

-- ---- how many children are elements

count-append : (p : Option ℕ → Bool) (xs : List (Option ℕ)) (x : Option ℕ) → count_by p (xs ++ x ∷ []) ≡ count_by p xs + count_by p (x ∷ [])
count-append p xs x = sum_by-append (λ y. cond (p y) 1 0) xs (x ∷ [])

count-cons : (p : Option ℕ → Bool) (x : Option ℕ) (xs : List (Option ℕ)) → count_by p (x ∷ xs) ≡ count_by p (x ∷ []) + count_by p xs
count-cons p x xs = sum_by-append (λ y. cond (p y) 1 0) (x ∷ []) xs

one-more : (p : ℕ) (e : Bool) → (if e then Some p else None) ≡ (if e then Some p else None) → count_by (is_at p) ((if e then Some p else None) ∷ []) ≡ cond e 1 0
one-more p true h = rw (eqb-self p) refl
one-more p false h = refl

no-more : (p k : ℕ) (e : Bool) → (k ≡ p → ⊥) → count_by (is_at k) ((if e then Some p else None) ∷ []) ≡ 0
no-more p k false n = refl
no-more p k true n = by (p == k) refl
  where
    by : (b : Bool) → (p == k) ≡ b → count_by (is_at k) (Some p ∷ []) ≡ 0
    by true e = absurd (n (sym (exact_unsigned_eq p k e)))
    by false e = rw e refl

-- the count after one more child of p
count-step : (es : List (Option ℕ)) (p k m old new : ℕ) (e : Bool) → m ≡ element_count es p + cond e 1 0 → old ≡ element_count es k
    → ((k ≡ p) × (new ≡ m)) ⊎ ((k ≡ p → ⊥) × (new ≡ old)) → new ≡ element_count (es ++ (if e then Some p else None) ∷ []) k
count-step es p k m old new e c o (inl (s, v)) = v ∙ c ∙ sym (rw s (count-append (is_at p) es (if e then Some p else None) ∙ ap (λ j. count_by (is_at p) es + j) (one-more p e refl)))
count-step es p k m old new e c o (inr (n, v)) = v ∙ o ∙ sym (count-append (is_at k) es (if e then Some p else None) ∙ ap (λ j. count_by (is_at k) es + j) (no-more p k e n) ∙ add-zero (count_by (is_at k) es))

not-at : (p q : ℕ) → (q ≡ p → ⊥) → count_by (is_at p) (Some q ∷ []) ≡ 0
not-at p q n = by (q == p) refl
  where
    by : (b : Bool) → (q == p) ≡ b → count_by (is_at p) (Some q ∷ []) ≡ 0
    by true e = absurd (n (exact_unsigned_eq q p e))
    by false e = rw e refl

no-count : (p : ℕ) (es : List (Option ℕ)) → ((j : ℕ) → slice_get es j ≡ Some (Some p) → ⊥) → count_by (is_at p) es ≡ 0
no-count p [] none = refl
no-count p (None ∷ es) none = count-cons (is_at p) None es ∙ rw (no-count p es (λ j. none (suc j))) refl
no-count p (Some q ∷ es) none = count-cons (is_at p) (Some q) es ∙ rw (not-at p q (λ e. none 0 (ap (λ n. Some (Some n)) e)), no-count p es (λ j. none (suc j))) refl

-- an element's parent is its node's
element-in : (nodes : List Node) (k q : ℕ) → slice_get (element_parents_of nodes) k ≡ Some (Some q) → slice_get (parents_of nodes) k ≡ Some (Some q)
element-in [] k q h = cc
element-in (n ∷ nodes) zero q h = by (is_element n.what) h
  where
    by : (b : Bool) → Some (if b then n.parent else None) ≡ Some (Some q) → Some n.parent ≡ Some (Some q)
    by true g = g
    by false g = cc
element-in (n ∷ nodes) (suc k) q h = element-in nodes k q h

-- ---- a new child

-- the parents that an invariant gives
pub parent-falls : (nodes : List Node) → IsTree nodes → (k q : ℕ) → slice_get (parents_of nodes) k ≡ Some (Some q) → q < k
parent-falls nodes t k q h = by (slice_get nodes k) refl (sym (slice_get-map (λ (n : Node). n.parent) nodes k) ∙ h)
  where
    by : (o : Option Node) → slice_get nodes k ≡ o → option_map (λ (n : Node). n.parent) o ≡ Some (Some q) → q < k
    by None e g = cc
    by (Some n) e g = let parent : n.parent ≡ Some q = cc in (subst (λ o. HasPlace nodes k n o) parent (t.placed k n e)).0

pub depth-push : (nodes : List Node) (x : Node) (p : ℕ) → p < length nodes → depth_at (nodes ++ x ∷ []) p ≡ depth_at nodes p
depth-push nodes x p h = ap depth_of (get-before nodes x p h)

element-push : (nodes : List Node) (x : Node) (p : ℕ) → p < length nodes → is_element_at (nodes ++ x ∷ []) p ≡ is_element_at nodes p
element-push nodes x p h = ap is_element_node (get-before nodes x p h)

place-push : (nodes : List Node) (x : Node) (k : ℕ) (n : Node) (o : Option ℕ) → k < length nodes → HasPlace nodes k n o → HasPlace (nodes ++ x ∷ []) k n o
place-push nodes x k n None l h = h
place-push nodes x k n (Some p) l h = (h.0, element-push nodes x p (let f = h.0 in omega arith) ∙ h.1, h.2 ∙ ap (λ d. d + 1) (sym (depth-push nodes x p (let f = h.0 in omega arith))))

pub tree-push : (nodes : List Node) (p : ℕ) (x : Node) → IsTree nodes → p < length nodes → length nodes < 400000 → is_element_at nodes p ≡ true → x.parent ≡ Some p → x.depth ≡ depth_at nodes p + 1 → reach_of x.depth x.what ≤ 201 → IsTree (nodes ++ x ∷ [])
tree-push nodes p x t inside few element parent depth deep = record {
  few = omega (arith, length-append nodes (x ∷ []));
  some = omega (arith, length-append nodes (x ∷ []));
  deep = λ k n h. deepest k n (get-push nodes x n k h);
  placed = λ k n h. placed k n (get-push nodes x n k h);
}
  where
    deepest : (k : ℕ) (n : Node) → ((k ≡ length nodes) × (n ≡ x)) ⊎ (slice_get nodes k ≡ Some n) → reach_of n.depth n.what ≤ 201
    deepest k n (inl (e, v)) = rw v deep
    deepest k n (inr g) = t.deep k n g

    placed : (k : ℕ) (n : Node) → ((k ≡ length nodes) × (n ≡ x)) ⊎ (slice_get nodes k ≡ Some n) → HasPlace (nodes ++ x ∷ []) k n n.parent
    placed k n (inl (e, v)) = subst (λ o. HasPlace (nodes ++ x ∷ []) k n o) (sym (ap (λ (y : Node). y.parent) v ∙ parent)) (omega arith, element-push nodes x p inside ∙ element, ap (λ (y : Node). y.depth) v ∙ depth ∙ ap (λ d. d + 1) (sym (depth-push nodes x p inside)))
    placed k n (inr g) = place-push nodes x k n n.parent (slice_get_within nodes k n g) (t.placed k n g)

-- the links of a row that was there
pub linked-old : (ps es : List (Option ℕ)) (p k m : ℕ) (e : Bool) (last : Option ℕ) (old r : Row) → slice_get ps k ≡ Some old.parent → length es ≡ length ps → last ≡ last_from p ps 0 → m ≡ element_count es p + cond e 1 0 → IsLinked ps es k old → Changes p last (length ps) m k old r → IsLinked (ps ++ Some p ∷ []) (es ++ (if e then Some p else None) ∷ []) k r
linked-old ps es p k m e last old r at size l count h c = record {
  first = first-step ps p k (length ps) last old.first_child r.first_child refl l h.first c.first_child;
  last = last-step ps p k (length ps) old.last_child r.last_child refl h.last c.last_child;
  next = rw c.parent (next-step ps p k (length ps) old.parent last old.next r.next refl at l h.next c.next);
  prev = rw c.parent (c.prev ∙ h.prev ∙ sym (prev-step ps k old.parent (Some p) (let w = slice_get_within ps k old.parent at in omega arith)));
  before = rw c.parent (c.before ∙ h.before ∙ sym (before-step es k old.parent (if e then Some p else None) (let w = slice_get_within ps k old.parent at in omega arith)));
  elements = count-step es p k m old.elements r.elements e count h.elements c.elements;
}

pub next-end : (ps : List (Option ℕ)) (k : ℕ) (q : Option ℕ) → length ps ≤ k + 1 → next_under ps k q ≡ None
next-end ps k None h = refl
next-end ps k (Some s) h = ap (λ l. first_from s l (k + 1)) (drop_of_length-le ps h)

no-place : (ps : List (Option ℕ)) (p : ℕ) → ((k q : ℕ) → slice_get ps k ≡ Some (Some q) → q < k) → p < length ps → (j : ℕ) → slice_get (ps ++ Some p ∷ []) j ≡ Some (Some (length ps)) → ⊥
no-place ps p falls h j g =
    let w = slice_get_within (ps ++ Some p ∷ []) j (Some (length ps)) g in
    let f = falls-push ps p falls h j (length ps) g in
    let s = length-append ps (Some p ∷ []) in omega arith

-- an element's parent is a parent, also after one more child
elements-push : (nodes : List Node) (p : ℕ) (e : Bool) (j q : ℕ) → slice_get (element_parents_of nodes ++ (if e then Some p else None) ∷ []) j ≡ Some (Some q) → slice_get (parents_of nodes ++ Some p ∷ []) j ≡ Some (Some q)
elements-push nodes p e j q h = by (get-push (element_parents_of nodes) (if e then Some p else None) (Some q) j h)
  where
    last : (e : Bool) → Some q ≡ (if e then Some p else None) → Some p ≡ Some q
    last true v = sym v
    last false v = cc

    count : length (element_parents_of nodes) ≡ length (parents_of nodes)
    count = simp length-map

    by : ((j ≡ length (element_parents_of nodes)) × (Some q ≡ (if e then Some p else None))) ⊎ (slice_get (element_parents_of nodes) j ≡ Some (Some q)) → slice_get (parents_of nodes ++ Some p ∷ []) j ≡ Some (Some q)
    by (inl (at, v)) = rw (at ∙ count) (get-end (parents_of nodes) (Some p) ∙ ap Some (last e v))
    by (inr g) = get-keep (parents_of nodes) (Some p ∷ []) j (Some q) (element-in nodes j q g)

-- and of the new one
pub linked-new : (nodes : List Node) (ps es : List (Option ℕ)) (p m : ℕ) (added last : Option ℕ) (new r : Row) → ((k q : ℕ) → slice_get ps k ≡ Some (Some q) → q < k) → ((j q : ℕ) → slice_get (es ++ added ∷ []) j ≡ Some (Some q) → slice_get (ps ++ Some p ∷ []) j ≡ Some (Some q)) → length es ≡ length ps → p < length ps → last ≡ last_from p ps 0 → IsNewRow nodes es p last new → Changes p last (length ps) m (length ps) new r → IsLinked (ps ++ Some p ∷ []) (es ++ added ∷ []) (length ps) r
linked-new nodes ps es p m added last new r falls within size h l n c = record {
  first = first c.first_child;
  last = last-is-none c.last_child;
  next = next c.next;
  prev = c.prev ∙ n.prev ∙ l ∙ sym (rw (c.parent ∙ n.parent) (ap (λ o. last_from p o 0) (take-append-le (length ps) ps (Some p ∷ []) (omega arith) ∙ take-length ps)));
  before = c.before ∙ n.before ∙ sym (rw (c.parent ∙ n.parent) (ap (count_by (is_at p)) (take-append-le (length ps) es (added ∷ []) (omega (arith, size)) ∙ ap (λ k. take k es) (sym size) ∙ take-length es)));
  elements = elements c.elements;
}
  where
    childless : first_from (length ps) (ps ++ Some p ∷ []) 0 ≡ None
    childless = no-first (length ps) (ps ++ Some p ∷ []) 0 (no-place ps p falls h)

    first : ((length ps ≡ p) × (last ≡ None) × (r.first_child ≡ Some (length ps))) ⊎ ((length ps ≡ p → last ≡ None → ⊥) × (r.first_child ≡ new.first_child)) → r.first_child ≡ first_from (length ps) (ps ++ Some p ∷ []) 0
    first (inl (e, none, v)) = absurd (omega arith)
    first (inr (other, v)) = v ∙ n.first ∙ sym childless

    last-is-none : ((length ps ≡ p) × (r.last_child ≡ Some (length ps))) ⊎ ((length ps ≡ p → ⊥) × (r.last_child ≡ new.last_child)) → r.last_child ≡ last_from (length ps) (ps ++ Some p ∷ []) 0
    last-is-none (inl (e, v)) = absurd (omega arith)
    last-is-none (inr (other, v)) = v ∙ n.last ∙ sym (none-is (last_from (length ps) (ps ++ Some p ∷ []) 0) (sym (none-both (length ps) (ps ++ Some p ∷ []) 0) ∙ ap is_some childless))

    next : ((last ≡ Some (length ps)) × (r.next ≡ Some (length ps))) ⊎ ((last ≡ Some (length ps) → ⊥) × (r.next ≡ new.next)) → r.next ≡ next_under (ps ++ Some p ∷ []) (length ps) r.parent
    next (inl (e, v)) =
        let w = last-is p ps 0 (length ps) (sym l ∙ e) in
        let u = w.1 in
        let i = slice_get_within ps w.0 (Some p) w.2 in absurd (omega arith)
    next (inr (other, v)) = v ∙ n.next ∙ sym (next-end (ps ++ Some p ∷ []) (length ps) r.parent (let s = length-append ps (Some p ∷ []) in omega arith))

    elements : ((length ps ≡ p) × (r.elements ≡ m)) ⊎ ((length ps ≡ p → ⊥) × (r.elements ≡ new.elements)) → r.elements ≡ element_count (es ++ added ∷ []) (length ps)
    elements (inl (e, v)) = absurd (omega arith)
    elements (inr (other, v)) = v ∙ n.elements ∙ sym (no-count (length ps) (es ++ added ∷ []) (λ j g. no-place ps p falls h j (within j (length ps) g)))

-- what is asked of a new child of p, whose number of element children becomes m
pub record IsAdded (rows : List Row) (whats : List NodeData) (p : ℕ) (last : Option ℕ) (m : ℕ) (new : Row) (what : NodeData) : Type 0 where
  pub inside : p < length rows
  pub few : length rows < 400000
  pub element : is_element_at (joined rows whats) p ≡ true
  pub last_is : last ≡ last_child_of (parents_in rows whats) p
  pub count : m ≡ element_count (elements_in rows whats) p + cond (is_element what) 1 0
  pub deep : reach_of new.depth what ≤ 201
  pub new_row : IsNewRow (joined rows whats) (elements_in rows whats) p last new

pub sound-add : (rows : List Row) (whats : List NodeData) (p : ℕ) (last : Option ℕ) (m : ℕ) (new : Row) (what : NodeData) → AreSoundRows rows whats → IsAdded rows whats p last m new what → AreSoundRows (linked_at (rows ++ new ∷ []) p last (length rows) m) (whats ++ what ∷ [])
sound-add rows whats p last m new what sound a = record {
  count = length-append whats (what ∷ []) ∙ ap (λ n. n + 1) sound.count ∙ sym (length-append rows (new ∷ [])) ∙ sym (length-linked (rows ++ new ∷ []) p last (length rows) m);
  tree = rw nodes (tree-push (joined rows whats) p (node_of new what) sound.tree (omega (arith, a.inside, size)) (omega (arith, a.few, size)) a.element a.new_row.parent a.new_row.depth a.deep);
  linked = rw nodes (rw (ps, es) linked);
}
  where
    nodes : joined (linked_at (rows ++ new ∷ []) p last (length rows) m) (whats ++ what ∷ []) ≡ joined rows whats ++ node_of new what ∷ []
    nodes = nodes-added rows whats p last (length rows) m new what sound.count

    size : length (joined rows whats) ≡ length rows
    size = length-joined rows whats sound.count

    ps : parents_of (joined rows whats ++ node_of new what ∷ []) ≡ parents_in rows whats ++ Some p ∷ []
    ps = map-append (λ (x : Node). x.parent) (joined rows whats) (node_of new what ∷ []) ∙ ap (λ q. parents_in rows whats ++ q ∷ []) a.new_row.parent

    parent : element_parent (node_of new what) ≡ (if is_element what then Some p else None)
    parent = ap (λ (o : Option ℕ). if is_element what then o else None) a.new_row.parent

    es : element_parents_of (joined rows whats ++ node_of new what ∷ []) ≡ elements_in rows whats ++ (if is_element what then Some p else None) ∷ []
    es = map-append element_parent (joined rows whats) (node_of new what ∷ []) ∙ ap (λ q. elements_in rows whats ++ q ∷ []) parent

    same_size : length (elements_in rows whats) ≡ length (parents_in rows whats)
    same_size = length-elements rows whats sound.count ∙ sym (length-parents rows whats sound.count)

    linked : (k : ℕ) (r : Row) → slice_get (linked_at (rows ++ new ∷ []) p last (length rows) m) k ≡ Some r → IsLinked (parents_in rows whats ++ Some p ∷ []) (elements_in rows whats ++ (if is_element what then Some p else None) ∷ []) k r
    linked k r h = by (get-linked (rows ++ new ∷ []) p last (length rows) m k r h)
      where
        by : ((old : Row) × (slice_get (rows ++ new ∷ []) k ≡ Some old) × Changes p last (length rows) m k old r) → IsLinked (parents_in rows whats ++ Some p ∷ []) (elements_in rows whats ++ (if is_element what then Some p else None) ∷ []) k r
        by (old, at, c) = of (get-push rows new old k at)
          where
            count : length rows ≡ length (parents_in rows whats)
            count = sym (length-parents rows whats sound.count)

            same : Changes p last (length (parents_in rows whats)) m k old r
            same = subst (λ i. Changes p last i m k old r) count c

            of : ((k ≡ length rows) × (old ≡ new)) ⊎ (slice_get rows k ≡ Some old) → IsLinked (parents_in rows whats ++ Some p ∷ []) (elements_in rows whats ++ (if is_element what then Some p else None) ∷ []) k r
            of (inl (e, v)) = subst (λ i. IsLinked (parents_in rows whats ++ Some p ∷ []) (elements_in rows whats ++ (if is_element what then Some p else None) ∷ []) i r) (sym (e ∙ count))
                (linked-new (joined rows whats) (parents_in rows whats) (elements_in rows whats) p m (if is_element what then Some p else None) last new r (parent-falls (joined rows whats) sound.tree) (elements-push (joined rows whats) p (is_element what)) same_size (omega (arith, a.inside, length-parents rows whats sound.count)) a.last_is a.new_row
                (subst (λ i. Changes p last (length (parents_in rows whats)) m i new r) (e ∙ count) (subst (λ o. Changes p last (length (parents_in rows whats)) m k o r) v same)))
            of (inr g) = linked-old (parents_in rows whats) (elements_in rows whats) p k m (is_element what) last old r (parent-in rows whats k old sound.count g) same_size a.last_is a.count (sound.linked k old g) same

pub few-elements : (rows : List Row) (whats : List NodeData) (k : ℕ) → AreSoundRows rows whats → element_count (elements_in rows whats) k ≤ 400000
few-elements rows whats k s = let l = count_by-le-length (is_at k) (elements_in rows whats) in let n = s.tree.few in let m = length-joined rows whats s.count in omega (arith, length-elements rows whats s.count)

-- what the readers of a node give
module _ (rows : List Row) (whats : List NodeData) (k : ℕ) (r : Row) (s : AreSoundRows rows whats) (h : k < length rows) (e : r ≡ get_or rows k r) where
  row-at : slice_get rows k ≡ Some r
  row-at = slice_get_read rows (length rows) k r refl h e

  node-at : (what : NodeData) × (slice_get whats k ≡ Some what) × (slice_get (joined rows whats) k ≡ Some (node_of r what))
  node-at = get-joined rows whats k r s.count row-at

  read-parent : r.parent ≡ parent_at (parents_in rows whats) k
  read-parent = sym (parent_of-row rows whats k r s.count row-at)

  pub read-row : IsRowOf (joined rows whats) k r
  read-row = record {
    parent = read-parent;
    depth = sym (ap depth_of node-at.2);
    first = (s.linked k r row-at).first;
    last = (s.linked k r row-at).last;
    next = (s.linked k r row-at).next ∙ ap (next_under (parents_in rows whats) k) read-parent;
    prev = (s.linked k r row-at).prev ∙ ap (prev_under (parents_in rows whats) k) read-parent;
    before = (s.linked k r row-at).before ∙ ap (elements_under (elements_in rows whats) k) read-parent;
    elements = (s.linked k r row-at).elements;
  }

  pub read-most : r.depth ≤ 201
  read-most = (let d = s.tree.deep k (node_of r node-at.0) node-at.2 in omega (arith, d))

  pub read-few : r.elements ≤ 400000
  read-few = (let e = read-row.elements in let f = few-elements rows whats k s in omega arith)

  pub read-element : IsTrue (is_element_at (joined rows whats) k) → r.depth ≤ 200
  read-element t = by (is_element node-at.0) (subst (λ b. IsTrue b) (ap is_element_node node-at.2) t) (s.tree.deep k (node_of r node-at.0) node-at.2)
    where
      by : (b : Bool) → IsTrue b → r.depth + cond b 1 0 ≤ 201 → r.depth ≤ 200
      by true u l = omega arith
      by false u l = cc

pub last-inside : (ps : List (Option ℕ)) (p : ℕ) (o : Option ℕ) → o ≡ last_from p ps 0 → IfSome o (λ l. l < length ps)
last-inside ps p None e = tt
last-inside ps p (Some l) e = let w = last-is p ps 0 l (sym e) in let u = w.1 in let i = slice_get_within ps w.0 (Some p) w.2 in omega arith

-- a new node that is not too deep
pub reach-new : (depth : ℕ) (what : NodeData) → depth ≤ 200 → is_below_all (is_element what) depth ≡ false → reach_of (depth + 1) what ≤ 201
reach-new depth what h shallow = by (is_element what) shallow
  where
    by : (b : Bool) → (nat_le 200 depth && b) ≡ false → depth + 1 + cond b 1 0 ≤ 201
    by true e = grind (arith, nat_tests)
    by false e = omega arith

-- ---- the first document

pub sound-root : AreSoundRows (root_row ∷ []) (root.what ∷ [])
sound-root = record {
  count = refl;
  tree = record { few = omega arith; some = omega arith; deep = deep; placed = placed };
  linked = linked;
}
  where
    deep : (k : ℕ) (n : Node) → slice_get (root ∷ []) k ≡ Some n → reach_of n.depth n.what ≤ 201
    deep zero n h = (let e : root ≡ n = cc in subst (λ (x : Node). reach_of x.depth x.what ≤ 201) e (omega arith))
    deep (suc k) n h = cc

    placed : (k : ℕ) (n : Node) → slice_get (root ∷ []) k ≡ Some n → HasPlace (root ∷ []) k n n.parent
    placed zero n h = (let e : root ≡ n = cc in subst (λ (x : Node). HasPlace (root ∷ []) 0 x x.parent) e (refl, refl, refl))
    placed (suc k) n h = cc

    linked : (k : ℕ) (r : Row) → slice_get (root_row ∷ []) k ≡ Some r → IsLinked (None ∷ []) (None ∷ []) k r
    linked zero r h = (let e : root_row ≡ r = cc in subst (λ (x : Row). IsLinked (None ∷ []) (None ∷ []) 0 x) e (record { first = refl; last = refl; next = refl; prev = refl; before = refl; elements = refl }))
    linked (suc k) r h = cc
