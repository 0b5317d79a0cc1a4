-- How many boxes of a flow are open at once.
use Rattle.std.proofs.Common.{◌≡◌, ◌∙◌, ℕ, zero, suc, ◌+◌, ◌-◌, ◌<◌, ◌≤◌, ◌==◌, Bool, true, false, not, List, [], ◌∷◌, Option, None, Some, length, slice_get, option_map, refl, sym, ap, subst, arith}
use Rattle.std.proofs.lemmas.Option.{slice_get-map}
use Rattle.boxes.specs.declared.leaf.Leaf.{Leaf as LeafData}
use Rattle.boxes.specs.declared.place.Event.TheVariants.{Opens, Closes, Leaf}
use Rattle.boxes.specs.declared.props.BoxProps.{BoxProps}
use Rattle.boxes.specs.Tree.{Tree, depth_of, innermost_of, rest_of, takes_leaf, with_box, with_close, with_leaf}
use Rattle.boxes.proofs.TreeLemmas.{most-push, open_least}
use Rattle.dom.specs.Nodes.{Node, NodeData, Element, Text, HasPlace, IsTree, depth_at, depth_of as node_depth, parent_at, parents_of, part_of, reach_of, text_in}
use Rattle.dom.specs.Walk.{children_of}
use Rattle.dom.proofs.WalkLemmas.{falling, parent-child}
use Rattle.style.specs.declared.style.Style.{Style}
use Rattle.style.specs.Styles.{initial_style}
use Rattle.box_gen.specs.Items.{InlineItem}
use Rattle.box_gen.specs.Items as item
use Rattle.box_gen.specs.Flow.{Built, built_of, close_by, end, nothing, put_by, shut, with_run, first_items, last_items}
use Rattle.box_gen.specs.Gather.{Gathered, adds, begun, make}
use Rattle.box_gen.specs.Leaves.{leaf_by, leaf_style_of}
use Rattle.box_gen.specs.Props.{anonymous_props, props_of}
use Rattle.box_gen.specs.Runs.{spans_of, text_of}
use Rattle.box_gen.specs.Trees.{Source, Forest, none, node, side_by_side, below, forest_of, Role, text, hidden, inline, block, note, is_note_element, role_by, role_of}
use Rattle.box_gen.proofs.FlowLemmas.{grown-end, grows, opens-gathered}
use Rattle.box_gen.proofs.TreeLemmas.{opens, opens-box, opens-close, opens-leaf, opens-opened, opens-run}
use Rattle.box_gen.proofs.WalkLemmas.{Under, under}
use Rattle.box_gen.proofs.Gathering.{gather_node, gathered}

-- ---- trees

depth-box : (t : Tree) (p : BoxProps) (m : ℕ) → depth_of t.events ≤ m → length (opens t) < m → depth_of (with_box t p).events ≤ m
depth-box t p m d few = let a = most-push [] t.events (Opens (length t.boxes)) in let b = ap (λ (l : List ℕ). length l) (opens-box t p) in omega (arith, a, b, d, few)

depth-leaf : (t : Tree) (l : LeafData) (m : ℕ) → depth_of t.events ≤ m → depth_of (with_leaf t l).events ≤ m
depth-leaf t l m d = let a = most-push [] t.events (Leaf (length t.leaves)) in let b = ap (λ (l : List ℕ). length l) (opens-leaf t l) in let c = open_least [] t.events in omega (arith, a, b, c, d)

rest-few : (os : List ℕ) → length (rest_of os) ≤ length os
rest-few [] = omega arith
rest-few (o ∷ os) = omega arith

depth-close : (t : Tree) (b m : ℕ) → depth_of t.events ≤ m → depth_of (with_close t b).events ≤ m
depth-close t b m d = let a = most-push [] t.events (Closes b) in let e = ap (λ (l : List ℕ). length l) (opens-close t b) in let r = rest-few (opens t) in let c = open_least [] t.events in omega (arith, a, e, r, c, d)

pub depth-shut : (t : Tree) (m : ℕ) → depth_of t.events ≤ m → depth_of (shut t).events ≤ m
depth-shut t m d = by (innermost_of t.events)
  where
    by : (o : Option ℕ) → depth_of (close_by t o).events ≤ m
    by None = d
    by (Some b) = depth-close t b m d

-- a run opens one box at most
pub depth-run : (src : Source) (s : Style) (wrap : Bool) (b : Built) (items : List InlineItem) (m : ℕ) → depth_of b.tree.events ≤ m → length (opens b.tree) < m → depth_of (with_run src s wrap b items).tree.events ≤ m
depth-run src s wrap b items m d few = by (length (text_of src.points items) == 0) wrap
  where
    leaf : LeafData
    leaf = leaf_by (text_of src.points items) (spans_of src.points items) (leaf_style_of s (src.face s)) b.pending

    by : (e w : Bool) → depth_of (put_by e w src.points (leaf_style_of s (src.face s)) (anonymous_props s) b items).tree.events ≤ m
    by true w = d
    by false true = depth-shut (with_leaf (with_box b.tree (anonymous_props s)) leaf) m (depth-leaf (with_box b.tree (anonymous_props s)) leaf m (depth-box b.tree (anonymous_props s) m d few))
    by false false = depth-leaf b.tree leaf m d

-- ---- nodes

-- no more blocks than a number are in each other
abbrev pub LowNode : Role → ℕ → (ℕ → Type 0) → Type 0
LowNode hidden k inside = Unit {0}
LowNode (text t) k inside = Unit {0}
LowNode (inline u) k inside = inside k
LowNode (block u) k inside = (0 < k) × inside (k - 1)
LowNode (note u) k inside = Unit {0}

unfoldable pub Low : Source → Forest → ℕ → Type 0
Low src none k = Unit {0}
Low src (node n kids more) k = LowNode (role_of src n) k (λ j. Low src kids j) × Low src more k

pub depth-gathered : (src : Source) (s b : Style) (f : Forest) (k : ℕ) (g : Gathered) (m : ℕ) → Low src f k → depth_of g.built.tree.events ≤ m → length (opens g.built.tree) + k < m → depth_of (gathered src s b f g).built.tree.events ≤ m
unfolding gathered Low
depth-gathered src s b none k g m low d few = d
depth-gathered src s b (node n kids more) k g m low d few =
    let inside : Style → Style → Gathered → Gathered = λ u c h. gathered src u c kids h in
    let after : Gathered = gather_node src s b n (role_of src n) inside g in
    let same : opens after.built.tree ≡ opens g.built.tree = opens-gathered src s b (node n kids none) g in
    let count = ap (λ (l : List ℕ). length l) same in
    depth-gathered src s b more k after m low.1 (by (role_of src n) low.0 (λ u c j h l e x. depth-gathered src u c kids j h m l e x)) (omega (arith, count, few))
  where
    by : (r : Role) → LowNode r k (λ j. Low src kids j) →
        ((u c : Style) (j : ℕ) (h : Gathered) → Low src kids j → depth_of h.built.tree.events ≤ m → length (opens h.built.tree) + j < m → depth_of (gathered src u c kids h).built.tree.events ≤ m) →
        depth_of (gather_node src s b n r (λ u c h. gathered src u c kids h) g).built.tree.events ≤ m
    by hidden l rec = d
    by (text t) l rec = d
    by (note u) l rec = d
    by (inline u) l rec = rec u b k (adds (first_items src u n) (adds (item.Start (record { 0 = n }) ∷ []) g)) l d few
    by (block u) l rec =
        let before : Built = with_run src b true g.built g.run in
        let g1 : Gathered = begun src b n u g in
        let g2 : Gathered = adds (last_items src n) (gathered src u u kids g1) in
        let some = l.0 in
        let o0 = ap (λ (l : List ℕ). length l) (opens-run src b true g.built g.run) in
        let o1 = ap (λ (l : List ℕ). length l) (opens-opened src n u before) in
        let o2 = ap (λ (l : List ℕ). length l) (opens-gathered src u u kids g1) in
        let d0 : depth_of before.tree.events ≤ m = depth-run src b true g.built g.run m d (omega (arith, few)) in
        let d1 : depth_of g1.built.tree.events ≤ m = depth-box before.tree (props_of src.clones u n) m d0 (omega (arith, few, some, o0)) in
        let d2 : depth_of g2.built.tree.events ≤ m = rec u u (k - 1) g1 l.1 d1 (omega (arith, few, some, o0, o1)) in
        let w : Bool = not (takes_leaf g2.built.tree.events) in
        depth-shut (with_run src u w g2.built g2.run).tree m (depth-run src u w g2.built g2.run m d2 (omega (arith, few, some, o0, o1, o2)))

-- ---- a document

-- a child is one deeper than its parent
child-depth : (nodes : List Node) → IsTree nodes → (c n : ℕ) → parent_at (parents_of nodes) c ≡ Some n → (x : Node) × (slice_get nodes c ≡ Some x) × (depth_at nodes c ≡ depth_at nodes n + 1)
child-depth nodes t c n p = by (slice_get nodes c) refl (sym (slice_get-map (λ (n : Node). n.parent) nodes c) ∙ parent-child (parents_of nodes) c n p)
  where
    by : (o : Option Node) → slice_get nodes c ≡ o → option_map (λ (n : Node). n.parent) o ≡ Some (Some n) → (x : Node) × (slice_get nodes c ≡ Some x) × (depth_at nodes c ≡ depth_at nodes n + 1)
    by None e h = absurd (cc)
    by (Some x) e h = let q : x.parent ≡ Some n = cc in (x, e, ap node_depth e ∙ (subst (λ o. HasPlace nodes c x o) q (t.placed c x e)).2)

-- an element is at most 200 deep
shallow : (src : Source) → IsTree src.nodes → (c : ℕ) (u : Style) (x : Node) → slice_get src.nodes c ≡ Some x → role_of src c ≡ block u → depth_at src.nodes c ≤ 200
shallow src t c u x is e = by x.what refl
  where
    f : Bool
    f = is_note_element src c

    role : role_by f (c == 0) (slice_get src.styles c) (text_in x.what) ≡ block u
    role = sym (ap (λ (o : Option Node). role_by f (c == 0) (slice_get src.styles c) (part_of text_in o)) is) ∙ e

    by : (w : NodeData) → x.what ≡ w → depth_at src.nodes c ≤ 200
    by (Element name attrs) h = let d = subst (λ w. reach_of x.depth w ≤ 201) h (t.deep c x is) in let a : depth_at src.nodes c ≡ x.depth = ap node_depth is in omega (arith, d, a)
    by (Text y) h = let r : role_by f (c == 0) (slice_get src.styles c) (Some y) ≡ block u = sym (ap (λ w. role_by f (c == 0) (slice_get src.styles c) (text_in w)) h) ∙ role in absurd (cc)

pub low-below : (src : Source) → IsTree src.nodes → (d n k : ℕ) → 200 ≤ k + depth_at src.nodes n → Low src (below (parents_of src.nodes) d n) k
unfolding Low Under
low-below src t zero n k deep = tt
low-below src t (suc d) n k deep = all (λ c j e. low-below src t d c j e) (children_of ps n) (under ps n (falling src.nodes t))
  where
    ps : List (Option ℕ)
    ps = parents_of src.nodes

    all : ((c j : ℕ) → 200 ≤ j + depth_at src.nodes c → Low src (below ps d c) j) → (cs : List ℕ) → Under ps n cs → Low src (side_by_side (below ps d) cs) k
    all rec [] u = tt
    all rec (c ∷ cs) u = (by (role_of src c) refl (child-depth src.nodes t c n u.0), all rec cs u.2)
      where
        by : (r : Role) → role_of src c ≡ r → (x : Node) × (slice_get src.nodes c ≡ Some x) × (depth_at src.nodes c ≡ depth_at src.nodes n + 1) → LowNode r k (λ j. Low src (below ps d c) j)
        by hidden e h = tt
        by (text y) e h = tt
        by (note v) e h = tt
        by (inline v) e h = let one = h.2 in rec c k (omega (arith, deep, one))
        by (block v) e h = let one = h.2 in let most = shallow src t c v h.0 h.1 e in (omega (arith, deep, one, most), rec c (k - 1) (omega (arith, deep, one, most)))

-- what the nodes gather is what is built
pub built-gathered : (src : Source) → built_of src ≡ with_run src initial_style true (gathered src initial_style initial_style (forest_of src.nodes) (make nothing [])).built (gathered src initial_style initial_style (forest_of src.nodes) (make nothing [])).run
built-gathered src =
    let g : Gathered = gathered src initial_style initial_style (forest_of src.nodes) (make nothing []) in
    grows src initial_style initial_style (forest_of src.nodes) true nothing [] end (λ e. refl) ∙ grown-end src initial_style true g.built g.run

-- no more boxes are open at once than a tree may have
pub few-open : (src : Source) → IsTree src.nodes → depth_of (built_of src).tree.events ≤ 2048
unfolding Low
few-open src t =
    let root : Forest = forest_of src.nodes in
    let g : Gathered = gathered src initial_style initial_style root (make nothing []) in
    let low : Low src root 201 = (by (role_of src 0), tt) in
    let d : depth_of g.built.tree.events ≤ 2048 = depth-gathered src initial_style initial_style root 201 (make nothing []) 2048 low (omega arith) (omega arith) in
    let o = ap (λ (l : List ℕ). length l) (opens-gathered src initial_style initial_style root (make nothing [])) in
    subst (λ (b : Built). depth_of b.tree.events ≤ 2048) (sym (built-gathered src)) (depth-run src initial_style true g.built g.run 2048 d (omega (arith, o)))
  where
    kids : Forest
    kids = below (parents_of src.nodes) (length src.nodes - 1) 0

    by : (r : Role) → LowNode r 201 (λ j. Low src kids j)
    by hidden = tt
    by (text y) = tt
    by (note u) = tt
    by (inline u) = low-below src t (length src.nodes - 1) 0 201 (omega arith)
    by (block u) = (omega arith, low-below src t (length src.nodes - 1) 0 200 (omega arith))
