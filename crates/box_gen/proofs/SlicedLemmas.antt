-- The edges of boxes in a note never stand again.
use Rattle.std.proofs.Common.{◌≡◌, ℕ, Bool, true, false, ◌&&◌, Option, None, Some, List, [], ◌∷◌, ◌++◌, length, ◌==◌, sym, subst, refl}
use Rattle.std.proofs.lemmas.List.Elements.{All-nil, All-cons}
use Rattle.boxes.specs.Clones.{AreSliced}
use Rattle.boxes.specs.Tree.{Tree, innermost_of, with_box, with_leaf}
use Rattle.boxes.specs.declared.props.BoxProps.{BoxProps}
use Rattle.style.specs.declared.style.Style.{Style}
use Rattle.soft_hyphens.specs.Words.{Points}
use Rattle.box_gen.specs.Items.{InlineItem}
use Rattle.box_gen.specs.Flow.{Built, Content, end, run, box, body_in, close_by, closed, grown, has_block, note_content, note_root, opened, put_by, shut, with_run}
use Rattle.box_gen.specs.Runs.{spans_of, text_of}
use Rattle.box_gen.specs.declared.leaf.LeafStyle.{LeafStyle}
use Rattle.box_gen.specs.Leaves.{leaf_by, leaf_style_of}
use Rattle.box_gen.specs.Props.{anonymous_props, props_of}
use Rattle.box_gen.specs.Trees.{Forest, Source}
use Rattle.box_gen.proofs.OwnerLemmas.{all-append}

more-sliced : (boxes : List BoxProps) (p : BoxProps) → AreSliced boxes → p.clones ≡ false → AreSliced (boxes ++ p ∷ [])
more-sliced boxes p h e = all-append (λ (q : BoxProps). q.clones ≡ false) boxes (p ∷ []) h (All-cons (λ (q : BoxProps). q.clones ≡ false) p [] e (All-nil (λ (q : BoxProps). q.clones ≡ false)))

shut-sliced : (t : Tree) → AreSliced t.boxes → AreSliced (shut t).boxes
shut-sliced t h = by (innermost_of t.events)
  where
    by : (b : Option ℕ) → AreSliced (close_by t b).boxes
    by None = h
    by (Some b) = h

put-sliced : (empty wrap : Bool) (points : Option Points) (look : LeafStyle) (s : Style) (b : Built) (items : List InlineItem) → AreSliced b.tree.boxes → AreSliced (put_by empty wrap points look (anonymous_props s) b items).tree.boxes
put-sliced true wrap points look s b items h = h
put-sliced false true points look s b items h = shut-sliced (with_leaf (with_box b.tree (anonymous_props s)) (leaf_by (text_of points items) (spans_of points items) look b.pending)) (more-sliced b.tree.boxes (anonymous_props s) h refl)
put-sliced false false points look s b items h = h

run-sliced : (src : Source) (s : Style) (wrap : Bool) (b : Built) (items : List InlineItem) → AreSliced b.tree.boxes → AreSliced (with_run src s wrap b items).tree.boxes
run-sliced src s wrap b items h = put-sliced (length (text_of src.points items) == 0) wrap src.points (leaf_style_of s (src.face s)) s b items h

sliced-clone : (src : Source) (s : Style) (n : ℕ) → src.clones ≡ false → (props_of src.clones s n).clones ≡ false
sliced-clone src s n sliced = subst (λ (c : Bool). (c && s.box_decoration_break) ≡ false) (sym sliced) refl

grown-sliced : (src : Source) (s : Style) (wrap : Bool) (b : Built) (c : Content) → src.clones ≡ false → AreSliced b.tree.boxes → AreSliced (grown src s wrap b c).tree.boxes
grown-sliced src s wrap b end sliced h = h
grown-sliced src s wrap b (run items rest) sliced h = grown-sliced src s wrap (with_run src s wrap b items) rest sliced (run-sliced src s wrap b items h)
grown-sliced src s wrap b (box n u inside rest) sliced h =
    let inner : AreSliced (grown src u (has_block inside) (opened src n u b) inside).tree.boxes = grown-sliced src u (has_block inside) (opened src n u b) inside sliced (more-sliced b.tree.boxes (props_of src.clones u n) h (sliced-clone src u n sliced)) in
    grown-sliced src s wrap (closed (grown src u (has_block inside) (opened src n u b) inside)) rest sliced (shut-sliced (grown src u (has_block inside) (opened src n u b) inside).tree inner)

-- the body of a note
pub body-sliced : (src : Source) (n : ℕ) (u : Style) (kids : Forest) → src.clones ≡ false → AreSliced (body_in src u n kids).tree.boxes
body-sliced src n u kids sliced =
    let content : Content = note_content src u n kids in
    let root : AreSliced (note_root n u).tree.boxes = more-sliced [] (props_of false u n) (All-nil (λ (q : BoxProps). q.clones ≡ false)) refl in
    shut-sliced (grown src u (has_block content) (note_root n u) content).tree (grown-sliced src u (has_block content) (note_root n u) content sliced root)
