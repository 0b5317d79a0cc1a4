-- Where nodes are numbered in order, the order of their ways is the order of their numbers.
use Rattle.std.proofs.Common.{◌≡◌, inl, inr, ℕ, zero, suc, ◌+◌, ◌<◌, ◌≤◌, true, false, nat_lt, List, [], ◌∷◌, ◌++◌, Option, None, Some, length, slice_get, refl, sym, ◌∙◌, ap, arith, append_assoc}
use Rattle.std.proofs.lemmas.Bool.{cases_lt}
use Rattle.std.proofs.lemmas.Bool.Decides.{nat_tests}
use Rattle.std.proofs.lemmas.Cmp.{nat_list_cmp_total}
use Rattle.std.specs.Cmp.Lexicographic.{slice_cmp}
use Rattle.std.specs.Ordering.{nat_cmp, is_gt, ordering_reverse, ordering_then}
use Rattle.std.specs.declared.cmp.Ordering.{Ordering}
use Rattle.std.specs.declared.cmp.Ordering.TheVariants.{Less, Equal, Greater}
use Rattle.bk_num.proofs.ListLemmas.{slice_get_at}
use Rattle.dom.specs.Nodes.{Node, parents_of, parent_at, depth_at, depth_of, IsTree, HasPlace}
use Rattle.dom.specs.Order.{way, way_to, comes_after}
use Rattle.dom.proofs.OrderLemmas.{after-self, parent-of}
use Rattle.html_tree.specs.Order.{AreInOrder}

-- ---- lists of numbers

self-equal : (n : ℕ) → nat_cmp n n ≡ Equal
self-equal n = grind arith

prefix-less : (xs : List ℕ) (n : ℕ) → slice_cmp nat_cmp xs (xs ++ n ∷ []) ≡ Less
prefix-less [] n = refl
prefix-less (x ∷ xs) n = rw (self-equal x) (prefix-less xs n)

-- a list that comes before another does so before what goes on from it
less-longer : (xs ys zs : List ℕ) → slice_cmp nat_cmp xs ys ≡ Less → slice_cmp nat_cmp xs (ys ++ zs) ≡ Less
less-longer [] [] zs h = cc
less-longer [] (y ∷ ys) zs h = refl
less-longer (x ∷ xs) [] zs h = cc
less-longer (x ∷ xs) (y ∷ ys) zs h = by (nat_cmp x y) (λ g. less-longer xs ys zs g) h
  where
    by : (o : Ordering) → (slice_cmp nat_cmp xs ys ≡ Less → slice_cmp nat_cmp xs (ys ++ zs) ≡ Less) → ordering_then o (slice_cmp nat_cmp xs ys) ≡ Less → ordering_then o (slice_cmp nat_cmp xs (ys ++ zs)) ≡ Less
    by Less rec g = refl
    by Equal rec g = rec g
    by Greater rec g = cc

differ-less : (xs rest : List ℕ) (c b : ℕ) → c < b → slice_cmp nat_cmp (xs ++ c ∷ rest) (xs ++ b ∷ []) ≡ Less
differ-less [] rest c b l = let e : nat_cmp c b ≡ Less = grind arith in rw e refl
differ-less (x ∷ xs) rest c b l = rw (self-equal x) (differ-less xs rest c b l)

-- ---- ways

-- a node with a parent: the parent stands before it and is one less deep, and its way is the parent's and the node
record IsChild (nodes : List Node) (n p : ℕ) : Type 0 where
  node : Node
  here : slice_get nodes n ≡ Some node
  parent : node.parent ≡ Some p
  before : p < n
  depth : node.depth ≡ depth_at nodes p + 1
  path : way_to nodes n ≡ way_to nodes p ++ n ∷ []

child : (nodes : List Node) (n : ℕ) → IsTree nodes → 0 < n → n < length nodes → (p : ℕ) × IsChild nodes n p
child nodes n t some l = by (slice_get_at nodes n l)
  where
    of : (x : Node) (o : Option ℕ) → slice_get nodes n ≡ Some x → x.parent ≡ o → HasPlace nodes n x o → (p : ℕ) × IsChild nodes n p
    of x None g e h = let z = h.0 in absurd (omega arith)
    of x (Some p) g e h =
        let up : parent_at (parents_of nodes) n ≡ Some p = parent-of nodes n x g ∙ e in
        let deep : depth_at nodes n ≡ suc (depth_at nodes p) = ap depth_of g ∙ h.2 ∙ (omega arith) in (
          p,
          record {
            node = x;
            here = g;
            parent = e;
            before = h.0;
            depth = h.2;
            path = rw deep (ap (λ o. way (parents_of nodes) (depth_at nodes p) o ++ n ∷ []) up);
          },
        )

    by : ((x : Node) × (slice_get nodes n ≡ Some x)) → (p : ℕ) × IsChild nodes n p
    by (x, g) = of x x.parent g refl (t.placed n x g)

-- the way to a node goes through q, and then through c
record IsThrough (nodes : List Node) (q a : ℕ) : Type 0 where
  next : ℕ
  rest : List ℕ
  low : next ≤ a
  path : way_to nodes a ≡ way_to nodes q ++ next ∷ rest

-- what stands between a parent and its child lies below the parent
through : (nodes : List Node) (fuel a b q : ℕ) → IsTree nodes → AreInOrder nodes → IsChild nodes b q → a < fuel → q < a → a < b → a < length nodes → IsThrough nodes q a
through nodes zero a b q t o up f l m w = absurd (omega arith)
through nodes (suc fuel) a b q t o up f l m w = by (child nodes a t (omega arith) w) (λ r g h v. through nodes fuel r b q t o up g h (omega (arith, v, m)) (omega (arith, v, w)))
  where
    by : ((r : ℕ) × IsChild nodes a r) → ((r : ℕ) → r < fuel → q < r → r < a → IsThrough nodes q r) → IsThrough nodes q a
    by (r, here) rec = elim (cases_lt r q) [
      | inl less ↦ absurd (let x = slice_get_at nodes q (omega arith) in
          let low = o.between a q r here.node x.0 here.here here.parent less l x.1 in
          let deep = o.between b a q up.node here.node up.here up.parent l m here.here in
          let d : x.0.depth ≡ depth_at nodes q = sym (ap depth_of x.1) in
          let e = up.depth in
          omega (arith, low, deep, d, e))
      | inr more ↦ elim (cases_lt q r) [
        | inl g ↦ (let before = here.before in
            let inner = rec r (omega (arith, before, f)) g before in
            let low = inner.low in
            record {
              next = inner.next;
              rest = inner.rest ++ a ∷ [];
              low = omega (arith, low, before);
              path = here.path ∙ ap (λ w. w ++ a ∷ []) inner.path ∙ append_assoc (way_to nodes q) (inner.next ∷ inner.rest) (a ∷ []);
            })
        | inr g ↦ (let same : r ≡ q = omega (arith, more, g) in record {
          next = a;
          rest = [];
          low = omega arith;
          path = here.path ∙ ap (λ k. way_to nodes k ++ a ∷ []) same;
        })
      ]
    ]

-- a lesser number comes before in tree order
comes-before : (nodes : List Node) (fuel a b : ℕ) → IsTree nodes → AreInOrder nodes → b < fuel → a < b → b < length nodes → slice_cmp nat_cmp (way_to nodes a) (way_to nodes b) ≡ Less
comes-before nodes zero a b t o f l w = absurd (omega arith)
comes-before nodes (suc fuel) a b t o f l w = by (child nodes b t (omega arith) w) (λ q g h. comes-before nodes fuel a q t o (omega (arith, g, f)) h (omega (arith, g, w)))
  where
    by : ((q : ℕ) × IsChild nodes b q) → ((q : ℕ) → q < b → a < q → slice_cmp nat_cmp (way_to nodes a) (way_to nodes q) ≡ Less) → slice_cmp nat_cmp (way_to nodes a) (way_to nodes b) ≡ Less
    by (q, up) rec = elim (cases_lt a q) [
      | inl less ↦ rw up.path (less-longer (way_to nodes a) (way_to nodes q) (b ∷ []) (rec q up.before less))
      | inr more ↦ elim (cases_lt q a) [
        | inl g ↦ (let mid = through nodes (suc a) a b q t o up (omega arith) g l (omega arith) in
            let low = mid.low in
            rw (up.path, mid.path) (differ-less (way_to nodes q) mid.rest mid.next b (omega (arith, low, l))))
        | inr g ↦ (let same : a ≡ q = omega (arith, more, g) in rw (up.path, same) (prefix-less (way_to nodes q) b))
      ]
    ]

reverse-less : (r s : Ordering) → s ≡ ordering_reverse r → r ≡ Less → is_gt s ≡ true
reverse-less Less s h g = ap is_gt h
reverse-less Equal s h g = cc
reverse-less Greater s h g = cc

pub tree-order : (nodes : List Node) (a b : ℕ) → IsTree nodes → AreInOrder nodes → a < length nodes → b < length nodes → comes_after nodes a b ≡ nat_lt b a
tree-order nodes a b t o la lb = elim (cases_lt a b) [
  | inl less ↦ (let e : nat_lt b a ≡ false = grind (arith, nat_tests) in ap is_gt (comes-before nodes (suc b) a b t o (omega arith) less lb) ∙ sym e)
  | inr more ↦ elim (cases_lt b a) [
    | inl g ↦ (let e : nat_lt b a ≡ true = grind (arith, nat_tests) in
        reverse-less (slice_cmp nat_cmp (way_to nodes b) (way_to nodes a)) (slice_cmp nat_cmp (way_to nodes a) (way_to nodes b)) (nat_list_cmp_total.antisymm (way_to nodes a) (way_to nodes b)) (comes-before nodes (suc a) b a t o (omega arith) g la) ∙ sym e)
    | inr g ↦ (let same : a ≡ b = omega (arith, more, g) in let e : nat_lt b a ≡ false = grind (arith, nat_tests) in rw same (after-self nodes b) ∙ sym e)
  ]
]
