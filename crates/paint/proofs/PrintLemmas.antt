-- The text that a page prints.
use Rattle.std.proofs.Common.{◌≡◌, ◌∙◌, ℕ, ℤ, pos, ◌+ℤ◌, List, [], ◌∷◌, ◌++◌, map, Option, None, Some, Bool, true, false, cond, ◌==◌, length, slice_get, refl, sym, ap₂, append-nil, subst}
use Rattle.std.specs.Prelude.{slice_range}
use Rattle.std.specs.Ordering.{int_eq}
use Rattle.std.specs.List.{flat_map, range_with_len}
use Rattle.std.proofs.lemmas.Grind.{flat_map-append}
use Rattle.std.proofs.lemmas.List.Folds.{flat_map-map}
use Rattle.std.proofs.lemmas.Option.{get_or_from_slice_get, slice_get_within}
use Rattle.bk_num.specs.Sides.{at_side}
use Rattle.bk_num.specs.declared.sides.BoxSide.TheVariants as side
use Rattle.bk_num.specs.declared.values.Color.{Color}
use Rattle.metrics.specs.Face.{FontFace}
use Rattle.boxes.specs.Contents.{IsGoodLeaf}
use Rattle.boxes.specs.Lines.{LineView}
use Rattle.boxes.specs.Spans.{units_at}
use Rattle.boxes.specs.Tree.{IsTree, Tree, open_before}
use Rattle.boxes.specs.declared.flow.Flow.{Flow}
use Rattle.boxes.specs.declared.flow.Note.{Note}
use Rattle.boxes.specs.declared.item.Item.{Item}
use Rattle.boxes.specs.declared.leaf.Leaf.{Leaf as LeafData}
use Rattle.boxes.specs.declared.leaf.Lead.{Lead}
use Rattle.boxes.specs.declared.page.Page.{Page}
use Rattle.boxes.specs.declared.page.Placed.{Placed}
use Rattle.boxes.specs.declared.place.Event.{Event}
use Rattle.boxes.specs.declared.place.Event.TheVariants.{Opens, Closes, Leaf}
use Rattle.boxes.specs.declared.props.BoxProps.{BoxProps}
use Rattle.boxes.specs.declared.span.Content.{Content}
use Rattle.boxes.proofs.TreeFacts.{leaf_good}
use Rattle.line_place.specs.Extents.{extent_of}
use Rattle.line_place.specs.Laws.{text_of}
use Rattle.line_place.specs.Placing.{runs_of}
use Rattle.line_place.specs.declared.place.Run.{Run}
use Rattle.line_place.proofs.JoinLemmas.{runs-are-the-text}
use Rattle.paint.specs.Clones.{foot_edge, head_edge}
use Rattle.paint.specs.Fragments.{is_lower, is_upper, reach_by, reach_of}
use Rattle.paint.specs.Items.{event_items, for_some, lead_item, line_items, line_of, run_item, solid_items}
use Rattle.paint.specs.Opens.{border_in, content_along}
use Rattle.paint.specs.Pages.{area_items, area_origin, flow_origin, note_items, opened_by, opened_rects, rects_at, rects_of, solids_of, tree_items}
use Rattle.paint.specs.Printed.{AreTrees, PagesPrintTheirText, event_text, leads_text, line_text, note_text, solids_text, text_in, texts_in}
use Rattle.paint.specs.Rects.{background_rects, border_rects, box_rects, edge_rects, fragment_area, fragment_rects, left_area, lower_top, right_area, side_rects, upper_top}
use Rattle.paint.specs.Views.{rect_item}
use Rattle.paint.specs.declared.extent.VerticalExtent.{VerticalExtent}
use Rattle.paint.specs.declared.item.Area.{Area}
use Rattle.paint.specs.declared.item.SolidOrigin.{SolidOrigin}

-- ---- lists of items

pub flat_same : {X : Type 0} (f g : X → List ℕ) → ((x : X) → f x ≡ g x) → (xs : List X) → flat_map f xs ≡ flat_map g xs
flat_same f g same [] = refl
flat_same f g same (x ∷ xs) = ap₂ (λ (a b : List ℕ). a ++ b) (same x) (flat_same f g same xs)

flat_nothing : {X : Type 0} (xs : List X) → flat_map {A = ℕ} (λ (x : X). []) xs ≡ []
flat_nothing [] = refl
flat_nothing (x ∷ xs) = flat_nothing xs

texts_append : (xs ys : List Item) (a b : List ℕ) → texts_in xs ≡ a → texts_in ys ≡ b → texts_in (xs ++ ys) ≡ a ++ b
texts_append xs ys a b x y = flat_map-append text_in xs ys ∙ ap₂ (λ (p q : List ℕ). p ++ q) x y

texts_flat : {X : Type 0} (f : X → List Item) (g : X → List ℕ) → ((x : X) → texts_in (f x) ≡ g x) → (xs : List X) → texts_in (flat_map f xs) ≡ flat_map g xs
texts_flat f g same [] = refl
texts_flat f g same (x ∷ xs) = texts_append (f x) (flat_map f xs) (g x) (flat_map g xs) (same x) (texts_flat f g same xs)

texts_map : {X : Type 0} (f : X → Item) (g : X → List ℕ) → ((x : X) → text_in (f x) ≡ g x) → (xs : List X) → texts_in (map f xs) ≡ flat_map g xs
texts_map f g same xs = flat_map-map text_in f xs ∙ flat_same (λ x. text_in (f x)) g same xs

-- ---- lines

if_text : (b : Bool) (x y : Item) (text : List ℕ) → text_in x ≡ [] → text_in y ≡ text → text_in (cond b x y) ≡ cond b [] text
if_text true x y text h t = h
if_text false x y text h t = t

run_text : (faces : List FontFace) (leaf : LeafData) (left y : ℤ) (r : Run) → text_in (run_item faces leaf left y r) ≡ text_of leaf.text r
unfolding run_item
run_text faces leaf left y r = if_text r.hyphen _ _ (slice_range leaf.text r.from r.to) refl refl

lead_text : (faces : List FontFace) (t : Tree) (o : SolidOrigin) (boxes : List ℕ) (y : ℤ) (lead : Lead) → text_in (lead_item faces t o boxes y lead) ≡ lead.text
unfolding lead_item
lead_text faces t o boxes y lead = refl

first_text : (faces : List FontFace) (t : Tree) (o : SolidOrigin) (boxes : List ℕ) (leaf : LeafData) (y : ℤ) (b : Bool) → texts_in (cond b (map (lead_item faces t o boxes y) leaf.leads) []) ≡ cond b (leads_text leaf) []
first_text faces t o boxes leaf y true = texts_map (lead_item faces t o boxes y) (λ (lead : Lead). lead.text) (lead_text faces t o boxes y) leaf.leads
first_text faces t o boxes leaf y false = refl

line_prints : (faces : List FontFace) (t : Tree) (o : SolidOrigin) (s : Placed) (leaf : LeafData) → IsGoodLeaf leaf → texts_in (line_items faces t o s leaf) ≡ line_text leaf (line_of leaf s)
unfolding line_items
line_prints faces t o s leaf good =
    let boxes : List ℕ = open_before t.events s.at.event in
    let content : Content = content_along t o.width boxes in
    let line : LineView = line_of leaf s in
    let y : ℤ = (o.top +ℤ s.top) +ℤ (extent_of faces leaf line.from line.to).baseline in
    let left : ℤ = o.left +ℤ content.left in
    texts_append (cond (line.from == 0) (map (lead_item faces t o boxes y) leaf.leads) []) (map (run_item faces leaf left y) (runs_of faces leaf line content.width))
    (cond (line.from == 0) (leads_text leaf) []) (slice_range leaf.text line.from line.to)
    (first_text faces t o boxes leaf y (line.from == 0))
    (texts_map (run_item faces leaf left y) (text_of leaf.text) (run_text faces leaf left y) (runs_of faces leaf line content.width) ∙ runs-are-the-text faces leaf line content.width good)

-- ---- solids

edge_prints : (f : BoxProps → Item) → ((p : BoxProps) → text_in (f p) ≡ []) → (box : Option BoxProps) → texts_in (for_some (λ (p : BoxProps). f p ∷ []) box) ≡ []
edge_prints f none None = refl
edge_prints f none (Some p) = append-nil (text_in (f p)) ∙ none p

event_prints : (faces : List FontFace) (t : Tree) (o : SolidOrigin) (s : Placed) → IsTree t → (e : Option Event) → texts_in (event_items faces t o s e) ≡ event_text t s e
event_prints faces t o s tree None = refl
event_prints faces t o s tree (Some (Opens b)) = edge_prints _ (λ p. refl) (slice_get t.boxes b)
event_prints faces t o s tree (Some (Closes b)) = edge_prints _ (λ p. refl) (slice_get t.boxes b)
event_prints faces t o s tree (Some (Leaf l)) = by (slice_get t.leaves l) refl
  where
    by : (leaf : Option LeafData) → slice_get t.leaves l ≡ leaf → texts_in (for_some (line_items faces t o s) leaf) ≡ for_some (λ (x : LeafData). line_text x (line_of x s)) leaf
    by None e = refl
    by (Some leaf) e = line_prints faces t o s leaf (leaf_good t tree l leaf e)

solid_prints : (faces : List FontFace) (t : Tree) (o : SolidOrigin) → IsTree t → (s : Placed) → texts_in (solid_items faces t o s) ≡ event_text t s (slice_get t.events s.at.event)
unfolding solid_items
solid_prints faces t o tree s = event_prints faces t o s tree (slice_get t.events s.at.event)

-- ---- rectangles

background_none : (color : Option Color) (a : Area) → texts_in (background_rects color a) ≡ []
unfolding background_rects
background_none None a = refl
background_none (Some color) a = refl

border_none : (thick : ℤ) (color : Option Color) (a : Area) → texts_in (border_rects thick color a) ≡ []
unfolding border_rects
border_none thick None a = refl
border_none thick (Some color) a = by (int_eq thick (pos 0))
  where
    by : (b : Bool) → texts_in (cond b [] (rect_item a color ∷ [])) ≡ []
    by true = refl
    by false = refl

edge_none : (thick : ℤ) (color : Option Color) (a : Area) (y : Option ℤ) → texts_in (edge_rects thick color a y) ≡ []
unfolding edge_rects
edge_none thick color a None = refl
edge_none thick color a (Some y) = border_none thick color (record { x = a.x; y = y; w = a.w; h = thick })

sides_none : (p : BoxProps) (a : Area) (upper lower : Option ℤ) → texts_in (side_rects p a upper lower) ≡ []
sides_none p a upper lower =
    let top : List Item = edge_rects (units_at p.border side.Top) (at_side p.colors side.Top) a upper in
    let right : List Item = border_rects (units_at p.border side.Right) (at_side p.colors side.Right) (right_area a (units_at p.border side.Right)) in
    let bottom : List Item = edge_rects (units_at p.border side.Bottom) (at_side p.colors side.Bottom) a lower in
    let left : List Item = border_rects (units_at p.border side.Left) (at_side p.colors side.Left) (left_area a (units_at p.border side.Left)) in
    texts_append top (right ++ (bottom ++ left)) [] [] (edge_none _ _ _ _)
    (texts_append right (bottom ++ left) [] [] (border_none _ _ _) (texts_append bottom left [] [] (edge_none _ _ _ _) (border_none _ _ _)))

box_none : (p : BoxProps) (a : Area) (upper lower : Option ℤ) → texts_in (box_rects p a upper lower) ≡ []
unfolding box_rects
box_none p a upper lower = texts_append (background_rects p.background a) (side_rects p a upper lower) [] [] (background_none p.background a) (sides_none p a upper lower)

fragment_none : (o : SolidOrigin) (p : BoxProps) (outer : Content) (reach upper lower : Option VerticalExtent) → texts_in (fragment_rects o p outer reach upper lower) ≡ []
unfolding fragment_rects
fragment_none o p outer None upper lower = refl
fragment_none o p outer (Some e) upper lower = box_none p (fragment_area o (border_in p outer) e) (upper_top o upper) (lower_top o (units_at p.border side.Bottom) lower)

opened_none : (t : Tree) (o : SolidOrigin) (solids : List Placed) (k : ℕ) (e : Option Event) → texts_in (opened_rects t o solids k e) ≡ []
opened_none t o solids k None = refl
opened_none t o solids k (Some (Opens b)) = by (slice_get t.boxes b)
  where
    by : (box : Option BoxProps) → texts_in (for_some (λ (p : BoxProps). opened_by t o k (reach_of t solids b) (reach_by (is_upper t.events b) solids) (reach_by (is_lower t.events b) solids)
        (head_edge t o.width solids k b p) (foot_edge t o.width solids (reach_of t solids) b) p) box) ≡ []
    by None = refl
    by (Some p) = fragment_none o p _ _ _ _
opened_none t o solids k (Some (Closes b)) = refl
opened_none t o solids k (Some (Leaf l)) = refl

rects_none : (t : Tree) (o : SolidOrigin) (solids : List Placed) → texts_in (rects_of t o solids) ≡ []
unfolding rects_of
rects_none t o solids = texts_flat (rects_at t o solids) (λ (k : ℕ). []) (λ (k : ℕ). opened_none t o solids k (slice_get t.events k)) (range_with_len 0 (length t.events)) ∙ flat_nothing (range_with_len 0 (length t.events))

-- ---- trees and pages

pub tree_prints : (faces : List FontFace) (t : Tree) (o : SolidOrigin) (solids : List Placed) → IsTree t → texts_in (tree_items faces t o solids) ≡ solids_text t solids
tree_prints faces t o solids tree =
    texts_append (rects_of t o solids) (flat_map (solid_items faces t o) solids) [] (solids_text t solids) (rects_none t o solids)
    (texts_flat (solid_items faces t o) (λ (s : Placed). event_text t s (slice_get t.events s.at.event)) (solid_prints faces t o tree) solids)

note_prints : (faces : List FontFace) (flow : Flow) (o : SolidOrigin) (notes : List (ℕ × Placed)) → AreTrees flow → (n : ℕ) → texts_in (note_items faces flow.notes o notes n) ≡ note_text flow.notes notes n
note_prints faces flow o notes trees n = by (slice_get flow.notes n) refl
  where
    by : (note : Option Note) → slice_get flow.notes n ≡ note → texts_in (for_some (λ (x : Note). tree_items faces x.body o (solids_of n notes)) note) ≡ for_some (λ (x : Note). solids_text x.body (solids_of n notes)) note
    by None e = refl
    by (Some note) e = tree_prints faces note.body o (solids_of n notes)
        (subst (λ (x : Note). IsTree x.body) (get_or_from_slice_get flow.notes n note note e) (trees.notes n note (slice_get_within flow.notes n note e)))

no_note : (all : List Note) (n : ℕ) → [] ≡ note_text all [] n
no_note all n = by (slice_get all n)
  where
    by : (note : Option Note) → [] ≡ for_some (λ (x : Note). solids_text x.body (solids_of n [])) note
    by None = refl
    by (Some note) = refl

area_prints : (faces : List FontFace) (flow : Flow) (page : Page) → AreTrees flow → (notes : List (ℕ × Placed)) → texts_in (area_items faces flow.notes page.frame notes) ≡ flat_map (note_text flow.notes notes) (range_with_len 0 (length flow.notes))
area_prints faces flow page trees [] =
    let all : List ℕ = range_with_len 0 (length flow.notes) in
    sym (flat_nothing all) ∙ flat_same (λ (n : ℕ). []) (note_text flow.notes []) (no_note flow.notes) all
area_prints faces flow page trees (n ∷ notes) =
    let o : SolidOrigin = area_origin page.frame (n ∷ notes) in
    texts_flat (note_items faces flow.notes o (n ∷ notes)) (note_text flow.notes (n ∷ notes)) (note_prints faces flow o (n ∷ notes) trees) (range_with_len 0 (length flow.notes))

pub pages-print-their-text : PagesPrintTheirText
pages-print-their-text faces flow page trees =
    texts_append (tree_items faces flow.main (flow_origin page.frame) page.solids) (area_items faces flow.notes page.frame page.notes)
    (solids_text flow.main page.solids) (flat_map (note_text flow.notes page.notes) (range_with_len 0 (length flow.notes)))
    (tree_prints faces flow.main (flow_origin page.frame) page.solids trees.main) (area_prints faces flow page trees page.notes)
