-- A tree that is read has its numbers in tree order.
use Rattle.std.proofs.Common.{◌≡◌, ◌⊎◌, inl, inr, ℕ, suc, zero, ◌+◌, ◌-◌, ◌<◌, ◌≤◌, Bool, true, false, nat_le, List, [], ◌∷◌, ◌++◌, Option, None, Some, Result, Ok, Err, IfOk, map, option_map, is_some, length, length-append, take, slice_get, slice_set, if◌then◌else◌, refl, sym, ◌∙◌, ap, subst, arith}
use Rattle.std.proofs.lemmas.Option.{slice_get_within, slice_get-map}
use Rattle.bk_num.specs.Names.{has_name}
use Rattle.bk_num.specs.declared.ids.NodeId.{NodeId}
use Rattle.bk_num.specs.Limits.{most_nodes}
use Rattle.bk_num.proofs.ListLemmas.{get-push, get-before, get-end, get-none, get-take}
use Rattle.dom.specs.Nodes.{Node, NodeData, Element, Text, root, child_of, depth_at, depth_of, attribute_at, attributed, changed_at, with_attribute}
use Rattle.dom.specs.Answers.{is_below_all}
use Rattle.dom.specs.declared.dom.DomErr.{DomErr}
use Rattle.dom.specs.declared.dom.DomErr.TheVariants.{Nodes, Depth}
use Rattle.html_tok.specs.Listed.{TokenView}
use Rattle.html_tok.specs.Tags.{attributes_of}
use Rattle.html_tree.specs.Rules.{void_names}
use Rattle.html_tree.specs.Texts.{name_of, text_of}
use Rattle.html_tree.specs.Tree.{State, current, number_of, is_text_under, last_of, longer, appended, add_text, put, put_all, add_element, after_tokens, begun, tree_of}
use Rattle.html_tree.specs.Order.{AreInOrder}
use Rattle.html_tree.specs.Built.{Answers}
use Rattle.html_tree.proofs.StepLemmas.{keeps-tokens, keeps-tree}

-- an open element's place among the open ones gives its depth, and all nodes after it are deeper
pub record IsPlaced (nodes : List Node) (i : ℕ) (o : NodeId) : Type 0 where
  pub there : o.0 < length nodes
  pub depth : depth_at nodes o.0 ≡ i + 2
  pub deeper : (j : ℕ) (m : Node) → o.0 < j → slice_get nodes j ≡ Some m → i + 2 < m.depth

pub record IsOrdered (s : State) : Type 0 where
  pub order : AreInOrder s.nodes
  pub some : 0 < length s.nodes
  pub top : depth_at s.nodes 0 ≡ 1
  pub deeper : (j : ℕ) (m : Node) → 0 < j → slice_get s.nodes j ≡ Some m → 1 < m.depth
  pub placed : (i : ℕ) (o : NodeId) → slice_get s.opened i ≡ Some o → IsPlaced s.nodes i o

-- ---- what is the same in nodes with other attributes or texts

pub record Shape : Type 0 where
  pub parent : Option ℕ
  pub depth : ℕ

abbrev pub shape : Node → Shape
shape n = record { parent = n.parent; depth = n.depth }

module _ (xs ys : List Node) (same : map shape xs ≡ map shape ys) where
  shape-get : (k : ℕ) (y : Node) → slice_get ys k ≡ Some y → (x : Node) × (slice_get xs k ≡ Some x) × (shape x ≡ shape y)
  shape-get k y h = by (slice_get xs k) refl (sym (slice_get-map shape xs k) ∙ ap (λ l. slice_get l k) same ∙ slice_get-map shape ys k ∙ ap (option_map shape) h)
    where
      by : (o : Option Node) → slice_get xs k ≡ o → option_map shape o ≡ Some (shape y) → (x : Node) × (slice_get xs k ≡ Some x) × (shape x ≡ shape y)
      by None e g = cc
      by (Some x) e g = let s : shape x ≡ shape y = cc in (x, e, s)

  shape-depth : (k : ℕ) → depth_at xs k ≡ depth_at ys k
  shape-depth k = by (slice_get xs k) (slice_get ys k) (sym (slice_get-map shape xs k) ∙ ap (λ l. slice_get l k) same ∙ slice_get-map shape ys k)
    where
      by : (a b : Option Node) → option_map shape a ≡ option_map shape b → depth_of a ≡ depth_of b
      by None None e = refl
      by (Some x) (Some y) e = let s : shape x ≡ shape y = cc in ap (λ (z : Shape). z.depth) s
      by None (Some y) e = cc
      by (Some x) None e = cc

  shape-length : length xs ≡ length ys
  shape-length = sym (count xs) ∙ ap length same ∙ count ys
    where
      count : (zs : List Node) → length (map shape zs) ≡ length zs
      count [] = refl
      count (z ∷ zs) = ap suc (count zs)

  ordered-same : (opened : List NodeId) → IsOrdered (record { nodes = xs; opened = opened }) → IsOrdered (record { nodes = ys; opened = opened })
  ordered-same opened h = record {
    order = record {
      between = λ k j p n m a e l q b.
          let x = shape-get k n a in
          let y = shape-get j m b in
          let d = ap (λ (z : Shape). z.depth) x.2 in
          let f = ap (λ (z : Shape). z.depth) y.2 in
          let r = h.order.between k j p x.0 y.0 x.1 (ap (λ (z : Shape). z.parent) x.2 ∙ e) l q y.1 in omega (arith, d, f, r);
    };
    some = rw (← shape-length) h.some;
    top = sym (shape-depth 0) ∙ h.top;
    deeper = λ j m l a. let y = shape-get j m a in let f = ap (λ (z : Shape). z.depth) y.2 in let r = h.deeper j y.0 l y.1 in omega (arith, f, r);
    placed = λ i o g. let w = h.placed i o g in record {
      there = rw (← shape-length) w.there;
      depth = sym (shape-depth o.0) ∙ w.depth;
      deeper = λ j m l a. let y = shape-get j m a in let f = ap (λ (z : Shape). z.depth) y.2 in let r = w.deeper j y.0 l y.1 in omega (arith, f, r);
    };
  }

view-set : {A : Type 0} (view : Node → A) (nodes : List Node) (i : ℕ) (a y : Node) → slice_get nodes i ≡ Some a → view y ≡ view a → map view nodes ≡ map view (slice_set nodes i y)
view-set view [] i a y h e = refl
view-set view (x ∷ nodes) zero a y h e = let s : x ≡ a = cc in ap (λ n. n ∷ map view nodes) (ap view s ∙ sym e)
view-set view (x ∷ nodes) (suc i) a y h e = ap (λ l. view x ∷ l) (view-set view nodes i a y h e)

-- what a change of nodes leaves of each is the same after it
pub view-change : {A : Type 0} (view : Node → A) (f : Node → Node) (nodes : List Node) (i : ℕ) → ((n : Node) → view (f n) ≡ view n) → map view nodes ≡ map view (changed_at f nodes i (slice_get nodes i))
view-change view f nodes i same = by (slice_get nodes i) refl
  where
    by : (o : Option Node) → slice_get nodes i ≡ o → map view nodes ≡ map view (changed_at f nodes i o)
    by None e = refl
    by (Some a) e = view-set view nodes i a (f a) e (same a)

pub shape-change : (f : Node → Node) (nodes : List Node) (i : ℕ) → ((n : Node) → shape (f n) ≡ shape n) → map shape nodes ≡ map shape (changed_at f nodes i (slice_get nodes i))
shape-change f nodes i same = view-change shape f nodes i same

shape-put : (n : ℕ) (nodes : List Node) (a : List ℕ × List ℕ) → map shape nodes ≡ map shape (put n nodes a)
shape-put n nodes a = by (is_some (attribute_at nodes n (name_of a.0)))
  where
    by : (b : Bool) → map shape nodes ≡ map shape (if b then nodes else with_attribute nodes n (name_of a.0) (text_of true a.1))
    by true = refl
    by false = shape-change (λ y. record y { what = attributed (name_of a.0) (text_of true a.1) y.what }) nodes n (λ y. refl)

pub shape-put_all : (n : ℕ) (attrs : List (List ℕ × List ℕ)) (nodes : List Node) → map shape nodes ≡ map shape (put_all n attrs nodes)
shape-put_all n [] nodes = refl
shape-put_all n (a ∷ attrs) nodes = shape-put n nodes a ∙ shape-put_all n attrs (put n nodes a)

-- ---- a new child of the current element

-- the current element's depth, and what is deeper than it
pub record IsCurrent (s : State) (c : ℕ) : Type 0 where
  pub there : c < length s.nodes
  pub depth : depth_at s.nodes c ≡ length s.opened + 1
  pub deeper : (j : ℕ) (m : Node) → c < j → slice_get s.nodes j ≡ Some m → length s.opened + 1 < m.depth

is-current : (s : State) → IsOrdered s → IsCurrent s (current s.opened)
is-current s h = by (slice_get s.opened (length s.opened - 1)) refl
  where
    by : (o : Option NodeId) → slice_get s.opened (length s.opened - 1) ≡ o → IsCurrent s (number_of o)
    by None e = let l = get-none s.opened (length s.opened - 1) e in let z : length s.opened ≡ 0 = omega arith in record {
      there = h.some;
      depth = h.top ∙ sym (ap (λ n. n + 1) z);
      deeper = λ j m l g. let d = h.deeper j m l g in omega (arith, z, d);
    }
    by (Some o) e = let w = h.placed (length s.opened - 1) o e in let l = slice_get_within s.opened (length s.opened - 1) o e in record {
      there = w.there;
      depth = w.depth ∙ (let z : length s.opened - 1 + 2 ≡ length s.opened + 1 = omega arith in z);
      deeper = λ j m q g. let d = w.deeper j m q g in omega (arith, l, d);
    }

module _ (s : State) (what : NodeData) (h : IsOrdered s) where
  new-depth : depth_at s.nodes (current s.opened) + 1 ≡ length s.opened + 2
  new-depth = let c = (is-current s h).depth in omega (arith, c)

  later : (m n : ℕ) → length (s.nodes ++ child_of s.nodes (current s.opened) what ∷ []) ≡ length s.nodes + 1
  later m n = length-append s.nodes (child_of s.nodes (current s.opened) what ∷ [])

  push-deeper : (base : ℕ) → base < length s.opened + 2 → (c : ℕ) → ((j : ℕ) (m : Node) → c < j → slice_get s.nodes j ≡ Some m → base < m.depth) → (j : ℕ) (m : Node) → c < j → slice_get (s.nodes ++ child_of s.nodes (current s.opened) what ∷ []) j ≡ Some m → base < m.depth
  push-deeper base low c f j m l g = by (get-push s.nodes (child_of s.nodes (current s.opened) what) m j g)
    where
      by : ((j ≡ length s.nodes) × (m ≡ child_of s.nodes (current s.opened) what)) ⊎ (slice_get s.nodes j ≡ Some m) → base < m.depth
      by (inl (at, v)) = let d : m.depth ≡ depth_at s.nodes (current s.opened) + 1 = ap (λ (x : Node). x.depth) v in let e = new-depth in omega (arith, d, e, low)
      by (inr old) = f j m l old

  push-between : (k j p : ℕ) (n m : Node) → slice_get (s.nodes ++ child_of s.nodes (current s.opened) what ∷ []) k ≡ Some n → n.parent ≡ Some p → p < j → j < k → slice_get (s.nodes ++ child_of s.nodes (current s.opened) what ∷ []) j ≡ Some m → n.depth ≤ m.depth
  push-between k j p n m a e l q b = by (get-push s.nodes (child_of s.nodes (current s.opened) what) n k a)
    where
      by : ((k ≡ length s.nodes) × (n ≡ child_of s.nodes (current s.opened) what)) ⊎ (slice_get s.nodes k ≡ Some n) → n.depth ≤ m.depth
      by (inl (at, v)) =
          let w : n.parent ≡ Some (current s.opened) = ap (λ (x : Node). x.parent) v in
          let c : current s.opened ≡ p = cc in
          let d : n.depth ≡ depth_at s.nodes (current s.opened) + 1 = ap (λ (x : Node). x.depth) v in
          let old = sym (get-before s.nodes (child_of s.nodes (current s.opened) what) j (omega (arith, at))) ∙ b in
          let f = (is-current s h).deeper j m (omega (arith, c)) old in
          let g = new-depth in omega (arith, d, f, g)
      by (inr old) = let i = slice_get_within s.nodes k n old in h.order.between k j p n m old e l q (sym (get-before s.nodes (child_of s.nodes (current s.opened) what) j (omega (arith, i))) ∙ b)

  pub push-child : IsOrdered (record s { nodes = s.nodes ++ child_of s.nodes (current s.opened) what ∷ [] })
  push-child = record {
    order = record { between = push-between };
    some = (let l = later 0 0 in omega (arith, l));
    top = ap depth_of (get-before s.nodes (child_of s.nodes (current s.opened) what) 0 h.some) ∙ h.top;
    deeper = push-deeper 1 (omega arith) 0 h.deeper;
    placed = λ i o g. let w = h.placed i o g in let r = slice_get_within s.opened i o g in record {
      there = (let l = later 0 0 in let t = w.there in omega (arith, l, t));
      depth = ap depth_of (get-before s.nodes (child_of s.nodes (current s.opened) what) o.0 w.there) ∙ w.depth;
      deeper = push-deeper (i + 2) (omega (arith, r)) o.0 w.deeper;
    };
  }

  pub open-child : IsOrdered (record { nodes = s.nodes ++ child_of s.nodes (current s.opened) what ∷ []; opened = s.opened ++ record { 0 = length s.nodes } ∷ [] })
  open-child = let p = push-child in record {
    order = p.order;
    some = p.some;
    top = p.top;
    deeper = p.deeper;
    placed = λ i o g. by i o (get-push s.opened (record { 0 = length s.nodes }) o i g);
  }
    where
      by : (i : ℕ) (o : NodeId) → ((i ≡ length s.opened) × (o ≡ record { 0 = length s.nodes })) ⊎ (slice_get s.opened i ≡ Some o) → IsPlaced (s.nodes ++ child_of s.nodes (current s.opened) what ∷ []) i o
      by i o (inl (at, v)) = let n : o.0 ≡ length s.nodes = ap (λ (x : NodeId). x.0) v in record {
        there = (let l = later 0 0 in omega (arith, l, n));
        depth = ap (λ k. depth_at (s.nodes ++ child_of s.nodes (current s.opened) what ∷ []) k) n ∙ ap depth_of (get-end s.nodes (child_of s.nodes (current s.opened) what)) ∙ new-depth ∙ ap (λ k. k + 2) (sym at);
        deeper = λ j m l g. let w = slice_get_within (s.nodes ++ child_of s.nodes (current s.opened) what ∷ []) j m g in let e = later 0 0 in absurd (omega (arith, w, e, n));
      }
      by i o (inr old) = push-child.placed i o old

-- ---- tokens

keeps-taken : (s : State) (n : ℕ) → IsOrdered s → IsOrdered (record s { opened = take n s.opened })
keeps-taken s n h = record { order = h.order; some = h.some; top = h.top; deeper = h.deeper; placed = λ i o g. h.placed i o (get-take s.opened n i o g).1 }

keeps-attributes : (attrs : List (List ℕ × List ℕ)) (s : State) → IsOrdered s → IsOrdered (record s { nodes = put_all 0 attrs s.nodes })
keeps-attributes attrs s h = ordered-same s.nodes (put_all 0 attrs s.nodes) (shape-put_all 0 attrs s.nodes) s.opened h

keeps-text : (bytes : List ℕ) (s : State) → IsOrdered s → IfOk (add_text bytes s) IsOrdered
keeps-text [] s h = h
keeps-text (b ∷ bs) s h = by (is_text_under (current s.opened) (last_of s.nodes)) (nat_le most_nodes (length s.nodes))
  where
    by : (c d : Bool) → IfOk (if c then Ok (record s { nodes = appended s.nodes (b ∷ bs) }) else if d then Err Nodes else Ok (record s { nodes = s.nodes ++ child_of s.nodes (current s.opened) (Text (b ∷ bs)) ∷ [] })) IsOrdered
    by true d = ordered-same s.nodes (appended s.nodes (b ∷ bs)) (shape-change (λ n. record n { what = longer (b ∷ bs) n.what }) s.nodes (length s.nodes - 1) (λ n. refl)) s.opened h
    by false true = tt
    by false false = push-child s (Text (b ∷ bs)) h

keeps-element : (name attrs : List ℕ) (s : State) → IsOrdered s → IfOk (add_element name attrs s) IsOrdered
keeps-element name attrs s h = by (nat_le most_nodes (length s.nodes)) (is_below_all true (depth_at s.nodes (current s.opened))) (has_name void_names name)
  where
    made : (opened : List NodeId) → IsOrdered (record { nodes = s.nodes ++ child_of s.nodes (current s.opened) (Element name []) ∷ []; opened = opened }) → IsOrdered (record { nodes = put_all (length s.nodes) (attributes_of attrs) (s.nodes ++ child_of s.nodes (current s.opened) (Element name []) ∷ []); opened = opened })
    made opened k = ordered-same (s.nodes ++ child_of s.nodes (current s.opened) (Element name []) ∷ []) (put_all (length s.nodes) (attributes_of attrs) (s.nodes ++ child_of s.nodes (current s.opened) (Element name []) ∷ [])) (shape-put_all (length s.nodes) (attributes_of attrs) (s.nodes ++ child_of s.nodes (current s.opened) (Element name []) ∷ [])) opened k

    by : (a b v : Bool) → IfOk (if a then Err Nodes else if b then Err Depth else Ok (record {
      nodes = put_all (length s.nodes) (attributes_of attrs) (s.nodes ++ child_of s.nodes (current s.opened) (Element name []) ∷ []);
      opened = if v then s.opened else s.opened ++ record { 0 = length s.nodes } ∷ [];
    })) IsOrdered
    by true b v = tt
    by false true v = tt
    by false false true = made s.opened (push-child s (Element name []) h)
    by false false false = made (s.opened ++ record { 0 = length s.nodes } ∷ []) (open-child s (Element name []) h)

begun-ordered : IsOrdered begun
begun-ordered = record {
  order = record { between = λ k j p n m a e l q b. absurd (none k n p a e) };
  some = omega arith;
  top = refl;
  deeper = λ j m l g. absurd (past j m l g);
  placed = λ i o g. cc;
}
  where
    none : (k : ℕ) (n : Node) (p : ℕ) → slice_get begun.nodes k ≡ Some n → n.parent ≡ Some p → ⊥
    none zero n p a e = let same : root ≡ n = cc in let z = ap (λ (x : Node). x.parent) same in cc
    none (suc k) n p a e = cc

    past : (j : ℕ) (m : Node) → 0 < j → slice_get begun.nodes j ≡ Some m → ⊥
    past zero m l g = omega arith
    past (suc j) m l g = cc

-- the state after any tokens
pub ordered-tokens : (tokens : List TokenView) → IfOk (after_tokens tokens begun) IsOrdered
ordered-tokens tokens = keeps-tokens IsOrdered keeps-taken keeps-attributes keeps-text keeps-element tokens begun begun-ordered

-- the nodes of a text that is read
pub tree-order : (bytes : List ℕ) (nodes : List Node) → tree_of bytes ≡ Ok nodes → AreInOrder nodes
tree-order bytes nodes h = let (s, same, is) = keeps-tree IsOrdered keeps-taken keeps-attributes keeps-text keeps-element begun-ordered bytes nodes h in subst (λ (ns : List Node). AreInOrder ns) same is.order

pub answers-order : (bytes : List ℕ) (result : Result (List Node) DomErr) → Answers (tree_of bytes) result (λ dom. dom) → IfOk result (λ dom. AreInOrder dom)
answers-order bytes (Ok nodes) h = tree-order bytes nodes h
answers-order bytes (Err e) h = tt
