-- The first starts of nodes, and where they stand.
use Rattle.std.proofs.Common.{◌≡◌, ◌<◌, ◌≤◌, ◌==◌, ℕ, zero, suc, Bool, true, false, cond, List, [], ◌∷◌, ◌++◌, Option, None, Some, length, slice_get, slice_set, get_or, replicate, unwrap_or, refl, sym, ◌∙◌, ap, subst, inl, inr, ◌⊎◌, ltb, arith}
use Rattle.std.specs.Option.{option_or}
use Rattle.std.specs.List.Sorted.{IsPartitionPoint}
use Rattle.std.proofs.lemmas.Bool.{cases_lt, eq-eqb}
use Rattle.std.proofs.lemmas.Bool.Decides.{nat_tests}
use Rattle.std.proofs.lemmas.List.{get_or_default}
use Rattle.std.proofs.lemmas.List.Folds.{find-append}
use Rattle.bk_num.proofs.ListLemmas.{set-get}
use Rattle.bk_num.specs.declared.ids.NodeId.{NodeId}
use Rattle.boxes.specs.declared.flow.Start.{Start}
use Rattle.page_seq.specs.Places.{first_place}
use Rattle.page_seq.proofs.PlaceLemmas.{first_place_absent, first_place_is, first_place_none, first_place_some}
use Rattle.refs.specs.Kept.{AreStartsOf, place_of, start_at}
use Rattle.refs.specs.Tables.{NodesAscend, start_of}

-- ---- the first place of a node

abbrev pub IsPlace : List NodeId → ℕ → ℕ → Type 0
IsPlace nodes m k = IsPartitionPoint (λ (n : NodeId). ltb n.0 m ≡ true) (λ (n : NodeId). ltb n.0 m ≡ false) nodes k

less_other : (a b : ℕ) → ltb a b ≡ true → (a == b) ≡ false
less_other a b e = grind (arith, nat_tests)

above_other : (a b c : ℕ) → a ≤ b → ltb a c ≡ false → (a ≡ c → ⊥) → (b == c) ≡ false
above_other a b c h e ne = grind (arith, nat_tests)

pub place_found : (nodes : List NodeId) (node : NodeId) (k : ℕ) (d : NodeId) → IsPlace nodes node.0 k → k < length nodes → (get_or nodes k d).0 ≡ node.0 → Some k ≡ place_of nodes node
place_found nodes node k d point h e = sym (first_place_is (λ (n : NodeId). n.0 == node.0) nodes k d h (eq-eqb (get_or nodes k d).0 node.0 e) (λ j l. less_other (get_or nodes j d).0 node.0 (point.0 j d (omega arith) l)))

pub place_absent : (nodes : List NodeId) (node : NodeId) (k : ℕ) (d : NodeId) → NodesAscend nodes → IsPlace nodes node.0 k → (k < length nodes → (get_or nodes k d).0 ≡ node.0 → ⊥) → None ≡ place_of nodes node
place_absent nodes node k d up point other = sym (first_place_absent (λ (n : NodeId). n.0 == node.0) nodes (λ j e h. by j e h (cases_lt j k)))
  where
    by : (j : ℕ) (e : NodeId) → j < length nodes → (j < k) ⊎ (k ≤ j) → ((get_or nodes j e).0 == node.0) ≡ false
    by j e h (inl l) = less_other (get_or nodes j e).0 node.0 (point.0 j e (omega arith) l)
    by j e h (inr l) =
        let within : k < length nodes = omega arith in
        subst (λ (n : NodeId). (n.0 == node.0) ≡ false) (get_or_default nodes j d e h) (above_other (get_or nodes k d).0 (get_or nodes j d).0 node.0 (up k j d l h) (point.1 k d (omega arith) within) (other within))

-- ---- one more start

more_start : (starts : List Start) (s : Start) (node : NodeId) → start_of (starts ++ s ∷ []) node ≡ option_or (start_of starts node) (cond (s.node.0 == node.0) (Some s) None)
more_start starts s node = find-append (λ (t : Start). t.node.0 == node.0) starts (s ∷ [])

or_none : {X : Type 0} (o : Option X) → option_or o None ≡ o
or_none None = refl
or_none (Some x) = refl

-- a start of another node changes nothing
other_start : (starts : List Start) (s : Start) (node : NodeId) → (s.node.0 == node.0) ≡ false → start_of starts node ≡ start_of (starts ++ s ∷ []) node
other_start starts s node e = sym (more_start starts s node ∙ (ap (λ (b : Bool). option_or (start_of starts node) (cond b (Some s) None)) e ∙ or_none (start_of starts node)))

-- nor does one of a node that has a start
later_start : (starts : List Start) (s old : Start) (node : NodeId) → start_of starts node ≡ Some old → start_of starts node ≡ start_of (starts ++ s ∷ []) node
later_start starts s old node e = e ∙ sym (more_start starts s node ∙ ap (λ (o : Option Start). option_or o (cond (s.node.0 == node.0) (Some s) None)) e)

first_start : (starts : List Start) (s : Start) (node : NodeId) → start_of starts node ≡ None → (s.node.0 == node.0) ≡ true → Some s ≡ start_of (starts ++ s ∷ []) node
first_start starts s node e is = sym (more_start starts s node ∙ (ap (λ (o : Option Start). option_or o (cond (s.node.0 == node.0) (Some s) None)) e ∙ ap (λ (b : Bool). cond b (Some s) None) is))

same_place : (nodes : List NodeId) (a b : NodeId) → (a.0 == b.0) ≡ true → place_of nodes a ≡ place_of nodes b
same_place nodes a b e = let is : a.0 ≡ b.0 = grind (arith, nat_tests) in ap (λ m. first_place (λ (n : NodeId). n.0 == m) nodes) is

-- two nodes at one place are one
one_place : (nodes : List NodeId) (a b : NodeId) (k : ℕ) → place_of nodes a ≡ Some k → place_of nodes b ≡ Some k → (a.0 == b.0) ≡ true
one_place nodes a b k p q =
    let d : NodeId = record { 0 = 0 } in
    let x = (first_place_some (λ (n : NodeId). n.0 == a.0) nodes d k p).passes in
    let y = (first_place_some (λ (n : NodeId). n.0 == b.0) nodes d k q).passes in
    both (get_or nodes k d).0 a.0 b.0 x y
  where
    both : (m a b : ℕ) → (m == a) ≡ true → (m == b) ≡ true → (a == b) ≡ true
    both m a b e f = grind (arith, nat_tests)

pub absent_stays : (nodes : List NodeId) (starts : List Start) (found : List (Option Start)) (s : Start) → None ≡ place_of nodes s.node → AreStartsOf nodes starts found → AreStartsOf nodes (starts ++ s ∷ []) found
absent_stays nodes starts found s none are node k at = by (s.node.0 == node.0) refl
  where
    by : (b : Bool) → (s.node.0 == node.0) ≡ b → slice_get found k ≡ Some (start_of (starts ++ s ∷ []) node)
    by true e = let p = same_place nodes s.node node e in absurd (cc)
    by false e = are node k at ∙ ap (λ (o : Option Start). Some o) (other_start starts s node e)

pub known_stays : (nodes : List NodeId) (starts : List Start) (found : List (Option Start)) (s old : Start) (p : ℕ) → Some p ≡ place_of nodes s.node → slice_get found p ≡ Some (Some old) → AreStartsOf nodes starts found → AreStartsOf nodes (starts ++ s ∷ []) found
known_stays nodes starts found s old p there has are node k at = by (s.node.0 == node.0) refl
  where
    by : (b : Bool) → (s.node.0 == node.0) ≡ b → slice_get found k ≡ Some (start_of (starts ++ s ∷ []) node)
    by true e =
        let q = same_place nodes s.node node e in
        let one : p ≡ k = cc in
        let is = are node k at in
        let was = rw one at has in
        let kept : start_of starts node ≡ Some old = cc in
        is ∙ ap (λ (o : Option Start). Some o) (later_start starts s old node kept)
    by false e = are node k at ∙ ap (λ (o : Option Start). Some o) (other_start starts s node e)

pub new_stands : (nodes : List NodeId) (starts : List Start) (found : List (Option Start)) (s : Start) (p : ℕ) → Some p ≡ place_of nodes s.node → slice_get found p ≡ Some None → AreStartsOf nodes starts found → AreStartsOf nodes (starts ++ s ∷ []) (slice_set found p (Some s))
new_stands nodes starts found s p there has are node k at =
    let set = set-get found p k (Some s) (start_of starts node) (are node k at) in set.1 ∙ ap (λ (o : Option Start). Some o) (by (s.node.0 == node.0) refl set.2)
  where
    by : {z : Option Start} (b : Bool) → (s.node.0 == node.0) ≡ b → ((k ≡ p) × (z ≡ Some s)) ⊎ ((k ≡ p → ⊥) × (z ≡ start_of starts node)) → z ≡ start_of (starts ++ s ∷ []) node
    by true e (inl (here, is)) =
        let old = are node k at in
        let was = rw (sym here) at has in
        let none : start_of starts node ≡ None = cc in
        is ∙ first_start starts s node none e
    by true e (inr (apart, is)) =
        let q = same_place nodes s.node node e in
        let one : k ≡ p = cc in
        absurd (apart one)
    by false e (inl (here, is)) =
        let same = one_place nodes s.node node k (sym there ∙ ap (λ (n : ℕ). Some n) (sym here)) at in
        absurd (cc)
    by false e (inr (apart, is)) = is ∙ other_start starts s node e

get-replicate : {X : Type 0} (n k : ℕ) (x : X) → k < n → slice_get (replicate n x) k ≡ Some x
get-replicate zero k x h = absurd (omega arith)
get-replicate (suc n) zero x h = refl
get-replicate (suc n) (suc k) x h = get-replicate n k x (omega arith)

-- no starts
pub none_stands : (nodes : List NodeId) (found : List (Option Start)) → found ≡ replicate (length nodes) None → AreStartsOf nodes [] found
none_stands nodes found is node k at =
    let d : NodeId = record { 0 = 0 } in
    ap (λ (os : List (Option Start)). slice_get os k) is ∙ get-replicate (length nodes) k None (first_place_some (λ (n : NodeId). n.0 == node.0) nodes d k at).within

-- ---- the start of a node of the list

pub start_found : (nodes : List NodeId) (starts : List Start) (found : List (Option Start)) (i : ℕ) (d : NodeId) → i < length nodes → AreStartsOf nodes starts found → start_at found (place_of nodes (get_or nodes i d)) ≡ start_of starts (get_or nodes i d)
start_found nodes starts found i d h are = by (place_of nodes node) refl
  where
    node : NodeId
    node = get_or nodes i d

    by : (o : Option ℕ) → place_of nodes node ≡ o → start_at found (place_of nodes node) ≡ start_of starts node
    by None e = let not_here = first_place_none (λ (n : NodeId). n.0 == node.0) nodes e i d h in let here = eq-eqb node.0 node.0 refl in absurd (cc)
    by (Some k) e = rw e (ap (λ (o : Option (Option Start)). unwrap_or o None) (are node k e))
