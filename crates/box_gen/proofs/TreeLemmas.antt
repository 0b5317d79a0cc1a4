-- Open boxes and last events of what is built.
use Rattle.std.proofs.Common.{◌≡◌, ◌∙◌, ℕ, ◌-◌, Bool, true, false, List, [], ◌∷◌, ◌++◌, Some, length, slice_get, ◌==◌, refl, ap, arith, length-append, Option}
use Rattle.boxes.specs.Tree.{Tree, with_box, with_leaf, with_close, open_after, first_of, rest_of, last_event, is_opening, takes_leaf}
use Rattle.boxes.specs.declared.leaf.Leaf.{Leaf as LeafData}
use Rattle.boxes.specs.declared.place.Event.{Event}
use Rattle.boxes.specs.declared.place.Event.TheVariants.{Opens, Closes, Leaf}
use Rattle.boxes.specs.declared.props.BoxProps.{BoxProps}
use Rattle.boxes.proofs.ListLemmas.{get-end}
use Rattle.boxes.proofs.TreeLemmas.{open-append}
use Rattle.style.specs.declared.style.Style.{Style}
use Rattle.soft_hyphens.specs.Words.{Points}
use Rattle.box_gen.specs.Items.{InlineItem}
use Rattle.box_gen.specs.declared.leaf.LeafStyle.{LeafStyle}
use Rattle.box_gen.specs.Leaves.{leaf_by, leaf_style_of}
use Rattle.box_gen.specs.Props.{anonymous_props, props_of}
use Rattle.box_gen.specs.Runs.{spans_of, text_of}
use Rattle.box_gen.specs.Trees.{Source}
use Rattle.box_gen.specs.Flow.{Built, shut, close_by, put, put_by, with_run, opened}

pub last-push : (es : List Event) (e : Event) → last_event (es ++ e ∷ []) ≡ Some e
last-push es e =
    let size : length (es ++ e ∷ []) - 1 ≡ length es = (let n = length-append es (e ∷ []) in omega arith) in
    ap (slice_get (es ++ e ∷ [])) size ∙ get-end es e

abbrev pub opens : Tree → List ℕ
opens t = open_after [] t.events

pub opens-box : (t : Tree) (p : BoxProps) → opens (with_box t p) ≡ length t.boxes ∷ opens t
opens-box t p = open-append [] t.events (Opens (length t.boxes) ∷ [])

pub opens-leaf : (t : Tree) (l : LeafData) → opens (with_leaf t l) ≡ opens t
opens-leaf t l = open-append [] t.events (Leaf (length t.leaves) ∷ [])

pub opens-close : (t : Tree) (b : ℕ) → opens (with_close t b) ≡ rest_of (opens t)
opens-close t b = open-append [] t.events (Closes b ∷ [])

-- a tree whose innermost box is closed
pub shut-is : (t : Tree) (b : ℕ) (bs : List ℕ) → opens t ≡ b ∷ bs → shut t ≡ with_close t b
shut-is t b bs e = ap (λ (l : List ℕ). close_by t (first_of l)) e

pub opens-shut : (t : Tree) (b : ℕ) (bs : List ℕ) → opens t ≡ b ∷ bs → opens (shut t) ≡ bs
opens-shut t b bs e = ap opens (shut-is t b bs e) ∙ opens-close t b ∙ ap rest_of e

-- a tree whose last event closes a box
abbrev pub EndsClosed : Tree → Type 0
EndsClosed t = (b : ℕ) × (last_event t.events ≡ Some (Closes b))

pub shut-ends : (t : Tree) (b : ℕ) (bs : List ℕ) → opens t ≡ b ∷ bs → EndsClosed (shut t)
shut-ends t b bs e = (b, ap (λ (u : Tree). last_event u.events) (shut-is t b bs e) ∙ last-push t.events (Closes b))

pub ends-takes : (t : Tree) → EndsClosed t → takes_leaf t.events ≡ false
ends-takes t (b, e) = ap is_opening e

pub box-takes : (t : Tree) (p : BoxProps) → takes_leaf (with_box t p).events ≡ true
box-takes t p = ap is_opening (last-push t.events (Opens (length t.boxes)))

pub opens-put : (points : Option Points) (block : LeafStyle) (anonymous : BoxProps) (wrap : Bool) (b : Built) (items : List InlineItem) → opens (put points block anonymous wrap b items).tree ≡ opens b.tree
opens-put points block anonymous wrap b items = by (length (text_of points items) == 0) wrap
  where
    leaf : LeafData
    leaf = leaf_by (text_of points items) (spans_of points items) block b.pending

    by : (e w : Bool) → opens (put_by e w points block anonymous b items).tree ≡ opens b.tree
    by true w = refl
    by false true = opens-shut (with_leaf (with_box b.tree anonymous) leaf) (length b.tree.boxes) (opens b.tree) (opens-leaf (with_box b.tree anonymous) leaf ∙ opens-box b.tree anonymous)
    by false false = opens-leaf b.tree leaf

pub opens-run : (src : Source) (s : Style) (wrap : Bool) (b : Built) (items : List InlineItem) → opens (with_run src s wrap b items).tree ≡ opens b.tree
opens-run src s wrap b items = opens-put src.points (leaf_style_of s (src.face s)) (anonymous_props s) wrap b items

pub opens-opened : (src : Source) (n : ℕ) (s : Style) (b : Built) → opens (opened src n s b).tree ≡ length b.tree.boxes ∷ opens b.tree
opens-opened src n s b = opens-box b.tree (props_of src.clones s n)
