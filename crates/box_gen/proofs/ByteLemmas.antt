-- The bytes of leaves along the walk.
use Rattle.std.proofs.Common.{◌≡◌, ◌∙◌, ◌≤◌, ℕ, ◌+◌, ◌==◌, Bool, true, false, cond, not, List, [], ◌∷◌, ◌++◌, Option, None, Some, length, refl, ap, arith}
use Rattle.std.proofs.lemmas.Bool.Decides.{nat_tests}
use Rattle.boxes.specs.declared.leaf.Leaf.{Leaf as LeafData}
use Rattle.boxes.specs.declared.props.BoxProps.{BoxProps}
use Rattle.boxes.specs.Tree.{Tree, innermost_of, takes_leaf, with_box, with_leaf}
use Rattle.dom.specs.declared.walk.Step.{Step}
use Rattle.dom.specs.declared.walk.Step.TheVariants.{Enter, Leave}
use Rattle.style.specs.declared.style.Style.{Style}
use Rattle.soft_hyphens.specs.Words.{Points}
use Rattle.box_gen.specs.Items.{InlineItem}
use Rattle.box_gen.specs.declared.leaf.LeafStyle.{LeafStyle}
use Rattle.boxes.specs.declared.leaf.Span.{Span}
use Rattle.box_gen.specs.declared.inline.InlineStart.{InlineStart}
use Rattle.box_gen.specs.Flow.{Built, built, starts_by, close_by, last_items, put, put_by, shut, with_run}
use Rattle.box_gen.specs.Gather.{Gathered, adds, ended}
use Rattle.box_gen.specs.Leaves.{leaf_by, leaf_style_of}
use Rattle.box_gen.specs.Props.{anonymous_props}
use Rattle.box_gen.specs.Runs.{spans_of, text_of}
use Rattle.box_gen.specs.Sites.{leaf_bytes, with_any, with_text}
use Rattle.box_gen.specs.Trees.{Source, Role, text, hidden, inline, block, note, role_of}
use Rattle.box_gen.specs.Walk.{Walk, after_step, after_steps, enter_by, enter_node, innermost, leave_by, leave_node, walk}

pub bytes-push : (ls : List LeafData) (l : LeafData) → leaf_bytes (ls ++ l ∷ []) ≡ leaf_bytes ls + length l.text
bytes-push [] l = omega arith
bytes-push (x ∷ ls) l = let r = bytes-push ls l in omega (arith, r)

pub leaves-shut : (t : Tree) → (shut t).leaves ≡ t.leaves
leaves-shut t = by (innermost_of t.events)
  where
    by : (o : Option ℕ) → (close_by t o).leaves ≡ t.leaves
    by None = refl
    by (Some b) = refl

-- a run that is put adds its text
pub bytes-put : (points : Option Points) (look : LeafStyle) (anonymous : BoxProps) (wrap : Bool) (b : Built) (items : List InlineItem) → leaf_bytes (put points look anonymous wrap b items).tree.leaves ≡ leaf_bytes b.tree.leaves + length (text_of points items)
unfolding leaf_by
bytes-put points look anonymous wrap b items = by (length (text_of points items) == 0) refl wrap
  where
    leaf : LeafData
    leaf = leaf_by (text_of points items) (spans_of points items) look b.pending

    by : (e : Bool) → (length (text_of points items) == 0) ≡ e → (w : Bool) → leaf_bytes (put_by e w points look anonymous b items).tree.leaves ≡ leaf_bytes b.tree.leaves + length (text_of points items)
    by true e w = let z : length (text_of points items) ≡ 0 = grind (arith, nat_tests) in omega (arith, z)
    by false e true = ap leaf_bytes (leaves-shut (with_leaf (with_box b.tree anonymous) leaf)) ∙ bytes-push b.tree.leaves leaf
    by false e false = bytes-push b.tree.leaves leaf

pub bytes-run : (src : Source) (s : Style) (wrap : Bool) (b : Built) (items : List InlineItem) → leaf_bytes (with_run src s wrap b items).tree.leaves ≡ leaf_bytes b.tree.leaves + length (text_of src.points items)
bytes-run src s wrap b items = bytes-put src.points (leaf_style_of s (src.face s)) (anonymous_props s) wrap b items

pub bytes-ended : (src : Source) (s : Style) (g : Gathered) → leaf_bytes (ended src s g).built.tree.leaves ≡ leaf_bytes (with_run src s (not (takes_leaf g.built.tree.events)) g.built g.run).tree.leaves
bytes-ended src s g = ap leaf_bytes (leaves-shut (with_run src s (not (takes_leaf g.built.tree.events)) g.built g.run).tree)

bytes-of : Walk → ℕ
bytes-of w = leaf_bytes w.gathered.built.tree.leaves

-- a step takes no bytes away
more-step : (src : Source) (w : Walk) (s : Step) → bytes-of w ≤ bytes-of (after_step src w s)
unfolding bytes-of
more-step src w (Enter n) = by w.unshown
  where
    enters : (r : Role) → bytes-of w ≤ bytes-of (enter_node src n.0 r w)
    enters hidden = omega arith
    enters (text t) = omega arith
    enters (inline u) = omega arith
    enters (note u) = omega arith
    enters (block u) = let e = bytes-run src (innermost w.blocks) true w.gathered.built w.gathered.run in omega (arith, e)

    by : (o : Option ℕ) → bytes-of w ≤ bytes-of (enter_by src n.0 o w)
    by None = enters (role_of src n.0)
    by (Some h) = omega arith
more-step src w (Leave n) = by w.unshown
  where
    leaves : (r : Role) → bytes-of w ≤ bytes-of (leave_node src n.0 r w)
    leaves hidden = omega arith
    leaves (text t) = omega arith
    leaves (inline u) = omega arith
    leaves (note u) = omega arith
    leaves (block u) =
        let g : Gathered = adds (last_items src n.0) w.gathered in
        let a = bytes-ended src u g in
        let e = bytes-run src u (not (takes_leaf g.built.tree.events)) g.built g.run in
        omega (arith, a, e)

    out : (h : ℕ) (b : Bool) → bytes-of w ≤ bytes-of (cond b (walk w.gathered w.blocks None) w)
    out h true = omega arith
    out h false = omega arith

    by : (o : Option ℕ) → bytes-of w ≤ bytes-of (leave_by src n.0 o w)
    by None = leaves (role_of src n.0)
    by (Some h) = out h (h == n.0)

pub more-steps : (src : Source) (w : Walk) (steps : List Step) → leaf_bytes w.gathered.built.tree.leaves ≤ leaf_bytes (after_steps src w steps).gathered.built.tree.leaves
unfolding bytes-of
more-steps src w [] = omega arith
more-steps src w (s ∷ steps) = let a = more-step src w s in let b = more-steps src (after_step src w s) steps in omega (arith, a, b)

pub bytes-any : (wrap : Bool) (look : LeafStyle) (anonymous : BoxProps) (b : Built) (t : List ℕ) (spans : List Span) (starts : List InlineStart) → leaf_bytes (with_any wrap look anonymous b t spans starts).tree.leaves ≡ leaf_bytes b.tree.leaves + length t
unfolding leaf_by
bytes-any wrap look anonymous b t spans starts = by (length t == 0) refl wrap
  where
    leaf : LeafData
    leaf = leaf_by t spans look b.pending

    by : (e : Bool) → (length t == 0) ≡ e → (w : Bool) → leaf_bytes (cond e (built b.tree (b.starts ++ starts_by (length b.tree.events) starts) b.pending) (with_text w look anonymous b t spans starts)).tree.leaves ≡ leaf_bytes b.tree.leaves + length t
    by true e w = let z : length t ≡ 0 = grind (arith, nat_tests) in omega (arith, z)
    by false e true = ap leaf_bytes (leaves-shut (with_leaf (with_box b.tree anonymous) leaf)) ∙ bytes-push b.tree.leaves leaf
    by false e false = bytes-push b.tree.leaves leaf
