-- A document keeps its shape where only a node's attributes change.
use Rattle.std.proofs.Common.{◌≡◌, ℕ, zero, suc, ◌+◌, ◌≤◌, Bool, true, false, List, [], ◌∷◌, Option, None, Some, map, length, slice_get, option_map, Result, Ok, Err, IfOk, OnErr, cond, refl, sym, ◌∙◌, ap, subst, arith, if◌then◌else◌}
use Rattle.std.proofs.lemmas.List.{length-map}
use Rattle.std.proofs.Math.ListN.{length-set}
use Rattle.std.proofs.lemmas.Option.{slice_get-map}
use Rattle.std.specs.Option.{option_and_then}
use Rattle.dom.specs.Nodes.{Node, NodeData, Element, Text, parents_of, element_parents_of, element_parent, depth_of, depth_at, is_element, is_element_at, is_element_node, IsTree, HasPlace, attributed, part_of, changed_at, with_attribute}
use Rattle.dom.specs.Order.{comes_after}
use Rattle.dom.specs.declared.rows.Row.{Row}
use Rattle.dom.specs.DomFields.{node_of, joined, AreSoundRows}

-- what a document's shape knows of a node
pub record Shape : Type 0 where
  pub parent : Option ℕ
  pub depth : ℕ
  pub element : Bool

abbrev pub shape : Node → Shape
shape n = record { parent = n.parent; depth = n.depth; element = is_element n.what }

abbrev parent_in : Shape → Option ℕ
parent_in s = if s.element then s.parent else None

abbrev depth_in : Option Shape → ℕ
depth_in None = 0
depth_in (Some s) = s.depth

abbrev element_in : Option Shape → Bool
element_in None = false
element_in (Some s) = s.element

pub parents-shape : (nodes : List Node) → parents_of nodes ≡ map (λ (s : Shape). s.parent) (map shape nodes)
parents-shape [] = refl
parents-shape (n ∷ nodes) = ap (λ ps. n.parent ∷ ps) (parents-shape nodes)

elements-shape : (nodes : List Node) → element_parents_of nodes ≡ map parent_in (map shape nodes)
elements-shape [] = refl
elements-shape (n ∷ nodes) = ap (λ ps. element_parent n ∷ ps) (elements-shape nodes)

pub depth-shape : (nodes : List Node) (k : ℕ) → depth_at nodes k ≡ depth_in (slice_get (map shape nodes) k)
depth-shape nodes k = by (slice_get nodes k) ∙ ap depth_in (sym (slice_get-map shape nodes k))
  where
    by : (o : Option Node) → depth_of o ≡ depth_in (option_map shape o)
    by None = refl
    by (Some n) = refl

element-shape : (nodes : List Node) (k : ℕ) → is_element_at nodes k ≡ element_in (slice_get (map shape nodes) k)
element-shape nodes k = by (slice_get nodes k) ∙ ap element_in (sym (slice_get-map shape nodes k))
  where
    by : (o : Option Node) → is_element_node o ≡ element_in (option_map shape o)
    by None = refl
    by (Some n) = refl

module _ (xs ys : List Node) (same : map shape xs ≡ map shape ys) where
  shape-length : length xs ≡ length ys
  shape-length = sym (length-map xs shape) ∙ ap length same ∙ length-map ys shape

  -- a node's counterpart
  shape-get : (k : ℕ) (y : Node) → slice_get ys k ≡ Some y → (x : Node) × (slice_get xs k ≡ Some x) × (shape x ≡ shape y)
  shape-get k y h = by (slice_get xs k) refl (sym (slice_get-map shape xs k) ∙ ap (λ l. slice_get l k) same ∙ slice_get-map shape ys k ∙ ap (option_map shape) h)
    where
      by : (o : Option Node) → slice_get xs k ≡ o → option_map shape o ≡ Some (shape y) → (x : Node) × (slice_get xs k ≡ Some x) × (shape x ≡ shape y)
      by None e g = cc
      by (Some x) e g = let s : shape x ≡ shape y = cc in (x, e, s)

  place-same : (k : ℕ) (x y : Node) (o : Option ℕ) → shape x ≡ shape y → HasPlace xs k x o → HasPlace ys k y o
  place-same k x y None s h = (h.0, ap (λ (t : Shape). t.depth) (sym s) ∙ h.1, ap (λ (t : Shape). t.element) (sym s) ∙ h.2)
  place-same k x y (Some p) s h = (
    h.0,
    element-shape ys p ∙ ap (λ l. element_in (slice_get l p)) (sym same) ∙ sym (element-shape xs p) ∙ h.1,
    ap (λ (t : Shape). t.depth) (sym s) ∙ h.2 ∙ ap (λ d. d + 1) (depth-shape xs p ∙ ap (λ l. depth_in (slice_get l p)) same ∙ sym (depth-shape ys p)),
  )

  pub tree-same : IsTree xs → IsTree ys
  tree-same t = record {
    few = rw (← shape-length) t.few;
    some = rw (← shape-length) t.some;
    deep = λ k y h. let w = shape-get k y h in subst (λ (s : Shape). s.depth + cond s.element 1 0 ≤ 201) w.2 (t.deep k w.0 w.1);
    placed = λ k y h. let w = shape-get k y h in place-same k w.0 y y.parent w.2 (subst (λ o. HasPlace xs k w.0 o) (ap (λ (s : Shape). s.parent) w.2) (t.placed k w.0 w.1));
  }

  pub parents-same : parents_of xs ≡ parents_of ys
  parents-same = parents-shape xs ∙ ap (map (λ (s : Shape). s.parent)) same ∙ sym (parents-shape ys)

  pub elements-same : element_parents_of xs ≡ element_parents_of ys
  elements-same = elements-shape xs ∙ ap (map parent_in) same ∙ sym (elements-shape ys)

  depth-same : (k : ℕ) → depth_at xs k ≡ depth_at ys k
  depth-same k = depth-shape xs k ∙ ap (λ l. depth_in (slice_get l k)) same ∙ sym (depth-shape ys k)

  -- tree order is one of shapes
  pub after-same : (a b : ℕ) → comes_after ys a b ≡ comes_after xs a b
  after-same a b = rw (sym parents-same, sym (depth-same a), sym (depth-same b)) refl

-- ---- a row and what its node is

pub part-read : (part : NodeData → Option (List ℕ)) (rows : List Row) (whats : List NodeData) (k : ℕ) → length whats ≡ length rows → part_of part (slice_get (joined rows whats) k) ≡ option_and_then part (slice_get whats k)
part-read part [] [] k l = refl
part-read part [] (w ∷ whats) k l = absurd (omega arith)
part-read part (r ∷ rows) [] k l = absurd (omega arith)
part-read part (r ∷ rows) (w ∷ whats) zero l = refl
part-read part (r ∷ rows) (w ∷ whats) (suc k) l = part-read part rows whats k (omega arith)

pub element-read : (rows : List Row) (whats : List NodeData) (k : ℕ) → length whats ≡ length rows → is_element_at (joined rows whats) k ≡ true → option_map is_element (slice_get whats k) ≡ Some true
element-read [] [] k l h = cc
element-read [] (w ∷ whats) k l h = absurd (omega arith)
element-read (r ∷ rows) [] k l h = absurd (omega arith)
element-read (r ∷ rows) (w ∷ whats) zero l h = ap (λ b. Some b) h
element-read (r ∷ rows) (w ∷ whats) (suc k) l h = element-read rows whats k (omega arith) h

-- ---- one more attribute

pub attributed-element : (key value : List ℕ) (what : NodeData) → is_element (attributed key value what) ≡ is_element what
attributed-element key value (Element name attrs) = refl
attributed-element key value (Text text) = refl

shape-attributed : (key value : List ℕ) (n : Node) → shape (record n { what = attributed key value n.what }) ≡ shape n
shape-attributed key value n = ap (λ b. record { parent = n.parent; depth = n.depth; element = b }) (attributed-element key value n.what)

shape-change : (f : Node → Node) (nodes : List Node) (i : ℕ) → ((n : Node) → shape (f n) ≡ shape n) → map shape nodes ≡ map shape (changed_at f nodes i (slice_get nodes i))
shape-change f [] i same = refl
shape-change f (n ∷ nodes) zero same = ap (λ x. x ∷ map shape nodes) (sym (same n))
shape-change f (n ∷ nodes) (suc i) same = by (slice_get nodes i) (shape-change f nodes i same)
  where
    by : (o : Option Node) → map shape nodes ≡ map shape (changed_at f nodes i o) → map shape (n ∷ nodes) ≡ map shape (changed_at f (n ∷ nodes) (suc i) o)
    by None h = refl
    by (Some x) h = ap (λ l. shape n ∷ l) h

pub shape-with : (nodes : List Node) (i : ℕ) (key value : List ℕ) → map shape nodes ≡ map shape (with_attribute nodes i key value)
shape-with nodes i key value = shape-change (λ a. record a { what = attributed key value a.what }) nodes i (shape-attributed key value)

pub length-changed : {A : Type 0} (f : A → A) (xs : List A) (i : ℕ) → length (changed_at f xs i (slice_get xs i)) ≡ length xs
length-changed {A} f xs i = by (slice_get xs i)
  where
    by : (o : Option A) → length (changed_at f xs i o) ≡ length xs
    by None = refl
    by (Some x) = simp length-set

-- the nodes, where one of them has one more attribute
pub joined-with : (rows : List Row) (whats : List NodeData) (i : ℕ) (key value : List ℕ) → length whats ≡ length rows → joined rows (changed_at (attributed key value) whats i (slice_get whats i)) ≡ with_attribute (joined rows whats) i key value
joined-with [] [] i key value l = refl
joined-with [] (w ∷ whats) i key value l = absurd (omega arith)
joined-with (r ∷ rows) [] i key value l = absurd (omega arith)
joined-with (r ∷ rows) (w ∷ whats) zero key value l = refl
joined-with (r ∷ rows) (w ∷ whats) (suc i) key value l = left (slice_get whats i) ∙ ap (λ ns. node_of r w ∷ ns) (joined-with rows whats i key value (omega arith)) ∙ right (slice_get (joined rows whats) i)
  where
    left : (o : Option NodeData) → joined (r ∷ rows) (changed_at (attributed key value) (w ∷ whats) (suc i) o) ≡ node_of r w ∷ joined rows (changed_at (attributed key value) whats i o)
    left None = refl
    left (Some x) = refl

    right : (o : Option Node) → node_of r w ∷ changed_at (λ a. record a { what = attributed key value a.what }) (joined rows whats) i o ≡ changed_at (λ a. record a { what = attributed key value a.what }) (node_of r w ∷ joined rows whats) (suc i) o
    right None = refl
    right (Some x) = refl

pub sound-with : (rows : List Row) (whats : List NodeData) (i : ℕ) (key value : List ℕ) → AreSoundRows rows whats → AreSoundRows rows (changed_at (attributed key value) whats i (slice_get whats i))
sound-with rows whats i key value s = record {
  count = length-changed (attributed key value) whats i ∙ s.count;
  tree = rw nodes (tree-same (joined rows whats) (with_attribute (joined rows whats) i key value) same s.tree);
  linked = rw nodes (rw (sym (parents-same (joined rows whats) (with_attribute (joined rows whats) i key value) same), sym (elements-same (joined rows whats) (with_attribute (joined rows whats) i key value) same)) s.linked);
}
  where
    nodes : joined rows (changed_at (attributed key value) whats i (slice_get whats i)) ≡ with_attribute (joined rows whats) i key value
    nodes = joined-with rows whats i key value s.count

    same : map shape (joined rows whats) ≡ map shape (with_attribute (joined rows whats) i key value)
    same = shape-with (joined rows whats) i key value

-- the nodes after an attribute was added or refused
pub joined-if : (rows : List Row) (whats : List NodeData) (i : ℕ) (key value : List ℕ) (b : Bool) → length whats ≡ length rows
    → joined rows (if b then changed_at (attributed key value) whats i (slice_get whats i) else whats) ≡ (if b then with_attribute (joined rows whats) i key value else joined rows whats)
joined-if rows whats i key value true l = joined-with rows whats i key value l
joined-if rows whats i key value false l = refl

pub joined-ok : {E : Type 0} (rows : List Row) (whats whats' : List NodeData) (i : ℕ) (key value : List ℕ) (r : Result Bool E) → length whats ≡ length rows
    → IfOk r (λ b. whats' ≡ (if b then changed_at (attributed key value) whats i (slice_get whats i) else whats))
    → IfOk r (λ b. joined rows whats' ≡ (if b then with_attribute (joined rows whats) i key value else joined rows whats))
joined-ok rows whats whats' i key value (Ok b) l h = ap (joined rows) h ∙ joined-if rows whats i key value b l
joined-ok rows whats whats' i key value (Err e) l h = tt

-- what is kept, where an answer is Err as where it is false
pub answer-of : {E : Type 0} {A : Type 0} (new more old : A) (r : Result Bool E) → IfOk r (λ b. new ≡ (if b then more else old)) → OnErr r (new ≡ old) → (b : Bool) × (new ≡ (if b then more else old))
answer-of new more old (Ok b) h g = (b, h)
answer-of new more old (Err e) h g = (false, g)
