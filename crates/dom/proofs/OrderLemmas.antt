-- The way from the root to a node, and the first of some nodes in tree order.
use Rattle.std.proofs.Common.{◌≡◌, inl, inr, ℕ, zero, suc, ◌-◌, ◌<◌, ◌≤◌, true, false, List, [], ◌∷◌, ◌++◌, Option, None, Some, length, take, drop, slice_get, slice_set, option_map, refl, sym, ◌∙◌, ap, subst, arith, append_assoc}
use Rattle.std.proofs.lemmas.Bool.{cases_lt, both_ways}
use Rattle.std.proofs.lemmas.Cmp.{nat_list_cmp_total}
use Rattle.std.proofs.lemmas.Map.Lookups.{exact_bytes}
use Rattle.std.specs.Cmp.{upto}
use Rattle.std.specs.Cmp.Lexicographic.{slice_cmp}
use Rattle.std.specs.Ordering.{nat_cmp, is_gt, ordering_reverse}
use Rattle.std.specs.declared.cmp.Ordering.{Ordering}
use Rattle.std.specs.declared.cmp.Ordering.TheVariants.{Less, Equal, Greater}
use Rattle.std.proofs.lemmas.Option.{slice_get-map, slice_get_past}
use Rattle.bk_num.proofs.ListLemmas.{slice_get_at}
use Rattle.dom.specs.Nodes.{Node, parents_of, parent_at, flat, depth_at, depth_of, IsTree, HasPlace}
use Rattle.dom.specs.Order.{way, way_to, comes_after, has_id, IsFirstOf}

-- ---- the way to a node

-- the node that is looked at is d deep, or there is none left
abbrev pub IsStep : List Node → ℕ → Option ℕ → Type 0
IsStep nodes d None = d ≡ 0
IsStep nodes d (Some n) = (n < length nodes) × (depth_at nodes n ≡ d)

pub parent-of : (nodes : List Node) (k : ℕ) (n : Node) → slice_get nodes k ≡ Some n → parent_at (parents_of nodes) k ≡ n.parent
parent-of nodes k n h = ap flat (slice_get-map (λ (n : Node). n.parent) nodes k ∙ ap (option_map (λ (n : Node). n.parent)) h)

pub record IsStepUp (nodes : List Node) (d n : ℕ) : Type 0 where
  pub some : 0 < d
  pub parent : IsStep nodes (d - 1) (parent_at (parents_of nodes) n)

pub step-up : (nodes : List Node) (d n : ℕ) → IsTree nodes → IsStep nodes d (Some n) → IsStepUp nodes d n
step-up nodes d n t s = by (slice_get_at nodes n s.0)
  where
    of : (x : Node) (o : Option ℕ) → x.depth ≡ d → HasPlace nodes n x o → (0 < d) × IsStep nodes (d - 1) o
    of x None e h = (let g = h.1 in omega arith, let g = h.1 in omega arith)
    of x (Some p) e h = (let g = h.2 in omega arith, (let f = h.0 in let w = s.0 in omega arith, let g = h.2 in omega arith))

    by : ((x : Node) × (slice_get nodes n ≡ Some x)) → IsStepUp nodes d n
    by (x, g) =
        let depth : x.depth ≡ d = sym (ap depth_of g) ∙ s.1 in
        let w = of x x.parent depth (t.placed n x g) in
        record { some = w.0; parent = subst (λ o. IsStep nodes (d - 1) o) (sym (parent-of nodes n x g)) w.1 }

drop-set : (e depth n : ℕ) (w : List ℕ) → e < depth → depth ≤ length w → drop e (take depth (slice_set w e n)) ≡ n ∷ drop (suc e) (take depth w)
drop-set e depth n [] h l = absurd (omega arith)
drop-set e zero n (a ∷ w) h l = absurd (omega arith)
drop-set zero (suc depth) n (a ∷ w) h l = refl
drop-set (suc e) (suc depth) n (a ∷ w) h l = drop-set e depth n w (omega arith) (omega arith)

pub way-step : (ps : List (Option ℕ)) (d depth n : ℕ) (w : List ℕ) → 0 < d → d ≤ depth → depth ≤ length w → way ps d (Some n) ++ drop d (take depth w) ≡ way ps (d - 1) (parent_at ps n) ++ drop (d - 1) (take depth (slice_set w (d - 1) n))
way-step ps zero depth n w some h l = absurd (omega arith)
way-step ps (suc e) depth n w some h l =
    let s : suc e - 1 ≡ e = omega arith in
    rw s (append_assoc (way ps e (parent_at ps n)) (n ∷ []) (drop (suc e) (take depth w)) ∙ ap (λ r. way ps e (parent_at ps n) ++ r) (sym (drop-set e depth n w (omega arith) l)))

-- ---- the first of some nodes

reverse-self : (r : Ordering) → r ≡ ordering_reverse r → is_gt r ≡ false
reverse-self Less h = refl
reverse-self Equal h = refl
reverse-self Greater h = cc

reverse-gt : (r s : Ordering) → s ≡ ordering_reverse r → is_gt r ≡ true → is_gt s ≡ false
reverse-gt Less s h g = cc
reverse-gt Equal s h g = cc
reverse-gt Greater s h g = ap is_gt h

module _ (nodes : List Node) where
  pub after-self : (n : ℕ) → comes_after nodes n n ≡ false
  after-self n = reverse-self (slice_cmp nat_cmp (way_to nodes n) (way_to nodes n)) (nat_list_cmp_total.antisymm (way_to nodes n) (way_to nodes n))

  pub after-one-way : (a b : ℕ) → comes_after nodes a b ≡ true → comes_after nodes b a ≡ false
  after-one-way a b h = reverse-gt (slice_cmp nat_cmp (way_to nodes a) (way_to nodes b)) (slice_cmp nat_cmp (way_to nodes b) (way_to nodes a)) (nat_list_cmp_total.antisymm (way_to nodes b) (way_to nodes a)) h

  pub after-trans : (a b c : ℕ) → comes_after nodes a b ≡ false → comes_after nodes b c ≡ false → comes_after nodes a c ≡ false
  after-trans a b c = upto nat_list_cmp_total (way_to nodes a) (way_to nodes b) (way_to nodes c)

  module _ (id : List ℕ) where
    pub beyond : (m : ℕ) → length nodes ≤ m → has_id nodes id m ≡ false
    beyond m h = rw (slice_get_past nodes m h) refl

    -- an element of an id is a node
    pub inside : (n : ℕ) → has_id nodes id n ≡ true → n < length nodes
    inside n h = elim (cases_lt n (length nodes)) [ inl l ↦ l | inr g ↦ absurd (both_ways _ (beyond n g) h) ]

-- ---- one first element

-- the last of a list
abbrev ending : List ℕ → ℕ → ℕ
ending [] d = d
ending (x ∷ xs) d = ending xs x

ending-push : (xs : List ℕ) (n d : ℕ) → ending (xs ++ n ∷ []) d ≡ n
ending-push [] n d = refl
ending-push (x ∷ xs) n d = ending-push xs n x

-- a node ends the way to it
way-ends : (nodes : List Node) (n : ℕ) (x : Node) → IsTree nodes → slice_get nodes n ≡ Some x → ending (way_to nodes n) 0 ≡ n
way-ends nodes n x t g = by (depth_at nodes n) (ap depth_of g) (t.placed n x g)
  where
    some : (o : Option ℕ) → HasPlace nodes n x o → 0 < x.depth
    some None h = let e = h.1 in omega arith
    some (Some p) h = let e = h.2 in omega arith

    by : (d : ℕ) → d ≡ x.depth → HasPlace nodes n x x.parent → ending (way (parents_of nodes) d (Some n)) 0 ≡ n
    by zero e h = let s = some x.parent h in absurd (omega arith)
    by (suc d) e h = ending-push (way (parents_of nodes) d (parent_at (parents_of nodes) n)) n 0

neither-after : (r s : Ordering) → s ≡ ordering_reverse r → is_gt r ≡ false → is_gt s ≡ false → r ≡ Equal
neither-after Less s h a b = let e : is_gt s ≡ true = ap is_gt h in absurd (both_ways _ b e)
neither-after Equal s h a b = refl
neither-after Greater s h a b = cc

id-there : (nodes : List Node) (id : List ℕ) (n : ℕ) → has_id nodes id n ≡ true → (x : Node) × (slice_get nodes n ≡ Some x)
id-there nodes id n h = elim (cases_lt n (length nodes)) [ inl l ↦ slice_get_at nodes n l | inr g ↦ absurd (both_ways _ (beyond nodes id n g) h) ]

same-node : (nodes : List Node) (n m : ℕ) (x y : Node) → IsTree nodes → slice_get nodes n ≡ Some x → slice_get nodes m ≡ Some y → comes_after nodes n m ≡ false → comes_after nodes m n ≡ false → n ≡ m
same-node nodes n m x y t a b p q =
    let equal = neither-after (slice_cmp nat_cmp (way_to nodes n) (way_to nodes m)) (slice_cmp nat_cmp (way_to nodes m) (way_to nodes n)) (nat_list_cmp_total.antisymm (way_to nodes m) (way_to nodes n)) p q in
    sym (way-ends nodes n x t a) ∙ ap (λ w. ending w 0) (exact_bytes (way_to nodes n) (way_to nodes m) equal) ∙ way-ends nodes m y t b

pub first-one : (nodes : List Node) (id : List ℕ) (a b : Option ℕ) → IsTree nodes → IsFirstOf nodes id a → IsFirstOf nodes id b → a ≡ b
first-one nodes id None None t h g = refl
first-one nodes id None (Some m) t h g = absurd (both_ways _ (h m) g.0)
first-one nodes id (Some n) None t h g = absurd (both_ways _ (g n) h.0)
first-one nodes id (Some n) (Some m) t h g =
    let x = id-there nodes id n h.0 in
    let y = id-there nodes id m g.0 in
    ap (λ k. Some k) (same-node nodes n m x.0 y.0 t x.1 y.1 (h.1 m g.0) (g.1 n h.0))
