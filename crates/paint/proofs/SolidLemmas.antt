-- The items of a solid, part after part.
use Rattle.std.proofs.Common.{◌≡◌, ◌∙◌, ℕ, ℤ, ◌+ℤ◌, ◌+◌, true, false, ◌==◌, if◌then◌else◌, List, [], ◌∷◌, ◌++◌, map, Some, slice_get, sym, ap, append_assoc, add-one}
use Rattle.metrics.specs.Face.{FontFace}
use Rattle.boxes.proofs.TreeLemmas.{open-step}
use Rattle.boxes.specs.Lines.{LineView}
use Rattle.boxes.specs.Tree.{Tree, open_before, open_with, rest_of}
use Rattle.boxes.specs.declared.item.Item.{Item}
use Rattle.boxes.specs.declared.leaf.Leaf.{Leaf as LeafData}
use Rattle.boxes.specs.declared.page.Placed.{Placed}
use Rattle.boxes.specs.declared.place.Event.{Event}
use Rattle.boxes.specs.declared.place.Event.TheVariants.{Opens, Closes, Leaf}
use Rattle.boxes.specs.declared.props.BoxProps.{BoxProps}
use Rattle.line_place.specs.Extents.{extent_of}
use Rattle.line_place.specs.Placing.{runs_of}
use Rattle.line_place.specs.declared.place.Run.{Run}
use Rattle.paint.specs.Areas.{area_of}
use Rattle.paint.specs.Items.{box_edge, event_items, for_some, lead_item, line_items, line_items_in, line_of, run_item, solid_items, words_items}
use Rattle.paint.specs.Opens.{content_along}
use Rattle.paint.specs.Views.{area_item}
use Rattle.paint.specs.declared.item.SolidOrigin.{SolidOrigin}
use Rattle.boxes.specs.declared.span.Content.{Content}

-- the boxes that are open behind an event
pub passes : (es : List Event) (at : ℕ) (e : Event) → slice_get es at ≡ Some e → open_before es (at + 1) ≡ open_with (open_before es at) e
passes es at e here = ap (open_before es) (add-one at) ∙ open-step es at e here

pub upper_items : (faces : List FontFace) (t : Tree) (o : SolidOrigin) (s : Placed) (b : ℕ) (p : BoxProps) (c : Content) → slice_get t.events s.at.event ≡ Some (Opens b) → slice_get t.boxes b ≡ Some p → c ≡ content_along t o.width (open_before t.events s.at.event) → box_edge o true s c p ∷ [] ≡ solid_items faces t o s
unfolding solid_items
upper_items faces t o s b p c event there is =
    ap (λ (x : Content). box_edge o true s x p ∷ []) is
    ∙ ap (for_some (λ (q : BoxProps). box_edge o true s (content_along t o.width (open_before t.events s.at.event)) q ∷ [])) (sym there)
    ∙ ap (event_items faces t o s) (sym event)

pub lower_items : (faces : List FontFace) (t : Tree) (o : SolidOrigin) (s : Placed) (b : ℕ) (p : BoxProps) (c : Content) → slice_get t.events s.at.event ≡ Some (Closes b) → slice_get t.boxes b ≡ Some p → c ≡ content_along t o.width (rest_of (open_before t.events s.at.event)) → box_edge o false s c p ∷ [] ≡ solid_items faces t o s
unfolding solid_items
lower_items faces t o s b p c event there is =
    ap (λ (x : Content). box_edge o false s x p ∷ []) is
    ∙ ap (for_some (λ (q : BoxProps). box_edge o false s (content_along t o.width (rest_of (open_before t.events s.at.event))) q ∷ [])) (sym there)
    ∙ ap (event_items faces t o s) (sym event)

pub leaf_items : (faces : List FontFace) (t : Tree) (o : SolidOrigin) (s : Placed) (l : ℕ) (leaf : LeafData) → slice_get t.events s.at.event ≡ Some (Leaf l) → slice_get t.leaves l ≡ Some leaf → line_items faces t o s leaf ≡ solid_items faces t o s
unfolding solid_items
leaf_items faces t o s l leaf event there = ap (for_some (line_items faces t o s)) (sym there) ∙ ap (event_items faces t o s) (sym event)

-- a line's area, and then its words
pub line_joined : (faces : List FontFace) (t : Tree) (o : SolidOrigin) (s : Placed) (leaf : LeafData) (line : LineView) (c : Content) (y : ℤ) (old area new : List Item) →
    area ≡ old ++ area_item (area_of o c s) ∷ [] → new ≡ area ++ words_items faces t o (open_before t.events s.at.event) leaf line c y →
    line ≡ line_of leaf s → c ≡ content_along t o.width (open_before t.events s.at.event) → y ≡ (o.top +ℤ s.top) +ℤ (extent_of faces leaf line.from line.to).baseline → new ≡ old ++ line_items faces t o s leaf
unfolding line_items
line_joined faces t o s leaf line c y old area new area_is new_is line_is content_is y_is =
    let boxes : List ℕ = open_before t.events s.at.event in
    let words : List Item = words_items faces t o boxes leaf line c y in
    new_is ∙ ap (λ (l : List Item). l ++ words) area_is ∙ append_assoc old (area_item (area_of o c s) ∷ []) words
    ∙ ap (λ (l : List Item). old ++ l)
    (ap (λ (z : ℤ). area_item (area_of o c s) ∷ words_items faces t o boxes leaf line c z) y_is
    ∙ ap (λ (l : LineView). line_items_in faces t o boxes leaf s l c) line_is
    ∙ ap (λ (x : Content). line_items_in faces t o boxes leaf s (line_of leaf s) x) content_is)

-- the markers of a first line, and then its runs
pub words_joined : (faces : List FontFace) (t : Tree) (o : SolidOrigin) (boxes : List ℕ) (leaf : LeafData) (line : LineView) (c : Content) (y left : ℤ) (runs : List Run) (old first new : List Item) →
    first ≡ old ++ (if line.from == 0 then map (lead_item faces t o boxes y) leaf.leads else []) → new ≡ first ++ map (run_item faces leaf left y) runs → left ≡ o.left +ℤ c.left → runs ≡ runs_of faces leaf line c.width → new ≡ old ++ words_items faces t o boxes leaf line c y
words_joined faces t o boxes leaf line c y left runs old first new first_is new_is left_is runs_is =
    let leads : List Item = if line.from == 0 then map (lead_item faces t o boxes y) leaf.leads else [] in
    new_is ∙ ap (λ (l : List Item). l ++ map (run_item faces leaf left y) runs) first_is ∙ append_assoc old leads (map (run_item faces leaf left y) runs)
    ∙ ap (λ (z : ℤ). old ++ (leads ++ map (run_item faces leaf z y) runs)) left_is
    ∙ ap (λ (r : List Run). old ++ (leads ++ map (run_item faces leaf (o.left +ℤ c.left) y) r)) runs_is
