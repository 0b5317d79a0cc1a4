-- What the pages print of the main tree is the text of its leaves.
use Rattle.std.proofs.Common.{◌≡◌, ◌∙◌, ◌<◌, ◌≤◌, ◌≢◌, ℕ, suc, ◌+◌, Bool, true, false, cond, eqb, List, [], ◌∷◌, ◌++◌, None, Some, length, drop, slice_get, append_assoc, add-one, refl, sym, ap, ap₂, subst, arith, ◌⊎◌, inl, inr}
use Rattle.std.specs.Prelude.{slice_range}
use Rattle.std.specs.List.{flat_map}
use Rattle.std.proofs.lemmas.Bool.{cases_lt, eq-eqb, ne_eqb}
use Rattle.std.proofs.lemmas.Bool.Decides.{eqb_tells}
use Rattle.std.proofs.lemmas.Grind.{flat_map-append}
use Rattle.std.proofs.lemmas.List.{take_rest}
use Rattle.std.proofs.lemmas.List.Folds.{drop_split}
use Rattle.std.proofs.lemmas.Option.{slice_get_within}
use Rattle.bk_num.proofs.ListLemmas.{drop-next}
use Rattle.metrics.specs.Face.{FontFace}
use Rattle.boxes.specs.Tree.{Tree, IsTree}
use Rattle.boxes.specs.declared.flow.Flow.{Flow}
use Rattle.boxes.specs.declared.leaf.Leaf.{Leaf as LeafData}
use Rattle.boxes.specs.declared.page.Page.{Page}
use Rattle.boxes.specs.declared.page.Placed.{Placed}
use Rattle.boxes.specs.declared.place.Event.{Event}
use Rattle.boxes.specs.declared.place.Event.TheVariants.{Opens, Closes, Leaf}
use Rattle.boxes.specs.declared.place.Position.{Position}
use Rattle.seams.specs.Runs.{is_solid_at}
use Rattle.cursor.proofs.RemLemmas.{Stands, place}
use Rattle.cursor.proofs.PartLemmas.{solid_itself}
use Rattle.page_seq.specs.Owners.{solids_of}
use Rattle.page_list.specs.Parted.{IsPart, IsPartOfLeaf, IsNextSolid, AreNextSolids, HoldsAll}
use Rattle.page_list.specs.Parted.IsPart.{line, upper, lower}
use Rattle.page_list.proofs.NextLemmas.{start_stands}
use Rattle.page_list.proofs.LeafTexts.{told, told_by, texts, texts_found, texts_here, texts_none, tree_texts, offset_same, edge_begins}
use Rattle.paint.specs.Items.{for_some, line_of}
use Rattle.paint.specs.Pages.{flow_origin, tree_items}
use Rattle.paint.specs.Printed.{PrintsMainText, event_text, leaf_text, leads_text, line_text, solids_text, texts_in}
use Rattle.paint.proofs.PrintLemmas.{flat_same, tree_prints}

-- ---- the text from a place on
-- the text of a leaf, without its markers
abbrev leaf_words : LeafData → List ℕ
leaf_words leaf = leaf.text

-- the text from a place on: inside a leaf its markers were printed
abbrev text_from : Tree → Position → List ℕ
text_from t at = cond (eqb at.offset 0) (texts leaf_text t.leaves (drop at.event t.events))
    (drop at.offset (told_by leaf_words t.leaves (slice_get t.events at.event)) ++ texts leaf_text t.leaves (drop (suc at.event) t.events))

from_start : (t : Tree) (at : Position) → at.offset ≡ 0 → text_from t at ≡ texts leaf_text t.leaves (drop at.event t.events)
from_start t at e = ap (λ (b : Bool). cond b (texts leaf_text t.leaves (drop at.event t.events)) (drop at.offset (told_by leaf_words t.leaves (slice_get t.events at.event)) ++ texts leaf_text t.leaves (drop (suc at.event) t.events))) (eq-eqb at.offset 0 e)

-- the text from a place in a leaf on
from_leaf : (t : Tree) (at : Position) (l : ℕ) (leaf : LeafData) → slice_get t.events at.event ≡ Some (Leaf l) → slice_get t.leaves l ≡ Some leaf →
    text_from t at ≡ (cond (eqb at.offset 0) (leads_text leaf) [] ++ drop at.offset leaf.text) ++ texts leaf_text t.leaves (drop (suc at.event) t.events)
from_leaf t at l leaf names has = by (eqb_tells at.offset 0)
  where
    after : List ℕ
    after = texts leaf_text t.leaves (drop (suc at.event) t.events)

    whole : texts leaf_text t.leaves (drop at.event t.events) ≡ leaf_text leaf ++ after
    whole = texts_here leaf_text t at.event l leaf names has

    bare : told_by leaf_words t.leaves (slice_get t.events at.event) ≡ leaf.text
    bare = ap (told_by leaf_words t.leaves) names ∙ ap (told leaf_words) has

    by : ((eqb at.offset 0 ≡ true) × (at.offset ≡ 0)) ⊎ ((eqb at.offset 0 ≡ false) × (at.offset ≢ 0)) → text_from t at ≡ (cond (eqb at.offset 0) (leads_text leaf) [] ++ drop at.offset leaf.text) ++ after
    by (inl e) = from_start t at e.1 ∙ whole ∙ ap (λ (n : ℕ). (leads_text leaf ++ drop n leaf.text) ++ after) (sym e.1)
        ∙ ap (λ (b : Bool). (cond b (leads_text leaf) [] ++ drop at.offset leaf.text) ++ after) (sym e.0)
    by (inr e) = ap (λ (b : Bool). cond b (texts leaf_text t.leaves (drop at.event t.events)) (drop at.offset (told_by leaf_words t.leaves (slice_get t.events at.event)) ++ after)) e.0
        ∙ ap (λ (text : List ℕ). drop at.offset text ++ after) bare
        ∙ ap (λ (b : Bool). (cond b (leads_text leaf) [] ++ drop at.offset leaf.text) ++ after) (sym e.0)

-- ---- the text of the next line
text_before : (t : Tree) (at : Position) (p : Placed) → Stands t at → IsNextSolid t at p → text_from t at ≡ text_from t p.at
text_before t at p st n = by (cases_lt 0 at.offset)
  where
    offset : p.at.offset ≡ at.offset
    offset = offset_same t at p st n

    by : (0 < at.offset) ⊎ (at.offset ≤ 0) → text_from t at ≡ text_from t p.at
    by (inl o) =
        let s = st.offset o in
        let here : Some at.event ≡ Some p.at.event = sym (solid_itself t at.event (ap (is_solid_at t.boxes) s.2)) ∙ n.found in
        let event : at.event ≡ p.at.event = cc in
        ap₂ (λ (e o : ℕ). text_from t (place e o)) event (sym offset)
    by (inr o) = from_start t at (omega arith) ∙ texts_found leaf_text t at.event p.at.event n.found ∙ sym (from_start t p.at (omega (arith, offset, o)))

abbrev text_on : Tree → Placed → List ℕ
text_on t p = event_text t p (slice_get t.events p.at.event)

-- what a solid has of the text from its place on
record Takes (t : Tree) (p : Placed) : Type 0 where
  stands : Stands t p.end
  text : text_on t p ++ text_from t p.end ≡ text_from t p.at

line_takes : (t : Tree) (p : Placed) → IsPartOfLeaf t p → Takes t p
line_takes t p n = by (eqb_tells n.to (length n.leaf.text))
  where
    first : List ℕ
    first = cond (eqb p.at.offset 0) (leads_text n.leaf) []

    after : List ℕ
    after = texts leaf_text t.leaves (drop (suc p.at.event) t.events)

    left : text_from t p.at ≡ (first ++ drop p.at.offset n.leaf.text) ++ after
    left = from_leaf t p.at n.number n.leaf n.names n.has

    on : (stop : ℕ) → cond (eqb p.end.event p.at.event) p.end.offset (length n.leaf.text) ≡ stop → text_on t p ≡ first ++ slice_range n.leaf.text p.at.offset stop
    on stop e = ap (event_text t p) n.names ∙ ap (for_some (λ (leaf : LeafData). line_text leaf (line_of leaf p))) n.has ∙ ap (λ (k : ℕ). first ++ slice_range n.leaf.text p.at.offset k) e

    by : ((eqb n.to (length n.leaf.text) ≡ true) × (n.to ≡ length n.leaf.text)) ⊎ ((eqb n.to (length n.leaf.text) ≡ false) × (n.to ≢ length n.leaf.text)) → Takes t p
    by (inl e) =
        let end : p.end ≡ place (suc p.at.event) 0 = n.ends ∙ ap (λ (b : Bool). cond b (place (p.at.event + 1) 0) (place p.at.event n.to)) e.0 ∙ ap (λ (k : ℕ). place k 0) (add-one p.at.event) in
        let other : eqb (suc p.at.event) p.at.event ≡ false = grind arith in
        let stop : cond (eqb p.end.event p.at.event) p.end.offset (length n.leaf.text) ≡ length n.leaf.text =
        ap (λ (q : Position). cond (eqb q.event p.at.event) q.offset (length n.leaf.text)) end ∙ ap (λ (b : Bool). cond b 0 (length n.leaf.text)) other in
        let low = slice_get_within t.events p.at.event (Leaf n.number) n.names in
        record {
          stands = subst (Stands t) (sym end) (record { within = omega arith; offset = λ o. absurd (omega arith) });
          text = ap₂ (λ (x y : List ℕ). x ++ y) (on (length n.leaf.text) stop ∙ ap (λ (text : List ℕ). first ++ text) (take_rest n.leaf.text p.at.offset)) (ap (text_from t) end) ∙ sym left;
        }
    by (inr e) =
        let end : p.end ≡ place p.at.event n.to = n.ends ∙ ap (λ (b : Bool). cond b (place (p.at.event + 1) 0) (place p.at.event n.to)) e.0 in
        let a = n.after in
        let w = n.within in
        let unlike = e.1 in
        let tells : eqb p.at.event p.at.event ≡ true = eq-eqb p.at.event p.at.event refl in
        let stop : cond (eqb p.end.event p.at.event) p.end.offset (length n.leaf.text) ≡ n.to =
        ap (λ (q : Position). cond (eqb q.event p.at.event) q.offset (length n.leaf.text)) end ∙ ap (λ (b : Bool). cond b n.to (length n.leaf.text)) tells in
        let inside : eqb n.to 0 ≡ false = later n.to p.at.offset a in
        let more : text_from t (place p.at.event n.to) ≡ drop n.to n.leaf.text ++ after =
        from_leaf t (place p.at.event n.to) n.number n.leaf n.names n.has ∙ ap (λ (b : Bool). (cond b (leads_text n.leaf) [] ++ drop n.to n.leaf.text) ++ after) inside in
        let words : List ℕ = slice_range n.leaf.text p.at.offset n.to in
        let rest : List ℕ = drop n.to n.leaf.text in
        let low = slice_get_within t.events p.at.event (Leaf n.number) n.names in
        record {
          stands = subst (Stands t) (sym end) (record { within = omega arith; offset = λ o. (n.number, n.leaf, n.names, n.has, omega arith) });
          text = ap₂ (λ (x y : List ℕ). x ++ y) (on n.to stop) (ap (text_from t) end ∙ more)
              ∙ sym (append_assoc (first ++ words) rest after)
              ∙ ap (λ (prefix : List ℕ). prefix ++ after) (append_assoc first words rest ∙ ap (λ (text : List ℕ). first ++ text) (sym (drop_split n.leaf.text p.at.offset n.to (omega arith))))
              ∙ sym left;
        }
      where
        later : (to from : ℕ) → from < to → eqb to 0 ≡ false
        later to from low = ne_eqb to 0 (λ e. omega arith)

-- an edge has none
edge_takes : (t : Tree) (p : Placed) (e : Event) → slice_get t.events p.at.event ≡ Some e → told_by leaf_text t.leaves (Some e) ≡ [] → event_text t p (Some e) ≡ [] → p.at.offset ≡ 0 → p.end ≡ place (p.at.event + 1) 0 → Takes t p
edge_takes t p e at bare none begins ends =
    let end : p.end ≡ place (suc p.at.event) 0 = ends ∙ ap (λ (k : ℕ). place k 0) (add-one p.at.event) in
    let left : text_from t p.at ≡ texts leaf_text t.leaves (drop (suc p.at.event) t.events) =
    from_start t p.at begins ∙ ap (texts leaf_text t.leaves) (drop-next t.events p.at.event e at) ∙ ap (λ (prefix : List ℕ). prefix ++ texts leaf_text t.leaves (drop (suc p.at.event) t.events)) bare in
    let low = slice_get_within t.events p.at.event e at in
    record {
      stands = subst (Stands t) (sym end) (record { within = omega arith; offset = λ o. absurd (omega arith) });
      text = ap₂ (λ (x y : List ℕ). x ++ y) (ap (event_text t p) at ∙ none) (ap (text_from t) end) ∙ sym left;
    }

takes : (t : Tree) (at : Position) (p : Placed) → Stands t at → IsNextSolid t at p → Takes t p
takes t at p st n = by n.part
  where
    none : ((l : ℕ) → slice_get t.events p.at.event ≡ Some (Leaf l) → ⊥) → p.at.offset ≡ 0
    none = edge_begins t at p st n

    by : IsPart t p → Takes t p
    by (line l) = line_takes t p l
    by (upper b e l) = edge_takes t p (Opens b) e refl refl (none (λ k f. let g = sym e ∙ f in cc)) l.ends
    by (lower b e l) = edge_takes t p (Closes b) e refl refl (none (λ k f. let g = sym e ∙ f in cc)) l.ends

lines_text : (t : Tree) (at : Position) (lines : List Placed) → Stands t at → AreNextSolids t at lines → solids_text t lines ≡ text_from t at
lines_text t at [] st none = sym (by (eqb_tells at.offset 0))
  where
    -- a place inside a leaf is a solid
    by : ((eqb at.offset 0 ≡ true) × (at.offset ≡ 0)) ⊎ ((eqb at.offset 0 ≡ false) × (at.offset ≢ 0)) → text_from t at ≡ []
    by (inl e) = from_start t at e.1 ∙ texts_none leaf_text t (drop at.event t.events) at.event none
    by (inr e) =
        let s = st.offset (omega (arith, e.1)) in
        let here = solid_itself t at.event (ap (is_solid_at t.boxes) s.2) in
        absurd (let f : Some at.event ≡ None = sym here ∙ none in cc)
lines_text t at (p ∷ lines) st r =
    let n : IsNextSolid t at p = r.1.0 in
    let took = takes t at p st n in
    let rest = lines_text t r.0 lines (subst (Stands t) (sym r.1.1) took.stands) r.2 in
    ap (λ (more : List ℕ). text_on t p ++ more) (rest ∙ ap (text_from t) r.1.1) ∙ took.text ∙ sym (text_before t at p st n)

-- the solids of a tree have the text of its leaves, once and in order
pub tree_text : (t : Tree) (solids : List Placed) → IsTree t → HoldsAll t solids → solids_text t solids ≡ flat_map leaf_text t.leaves
tree_text t solids tree all = lines_text t (place 0 0) solids (start_stands t) all ∙ tree_texts leaf_text t tree

pages_text : (t : Tree) (pages : List Page) → flat_map (λ (p : Page). solids_text t p.solids) pages ≡ solids_text t (solids_of pages)
pages_text t [] = refl
pages_text t (p ∷ pages) =
    ap (λ (rest : List ℕ). solids_text t p.solids ++ rest) (pages_text t pages)
    ∙ sym (flat_map-append (λ (s : Placed). event_text t s (slice_get t.events s.at.event)) p.solids (solids_of pages))

pub prints_main : (faces : List FontFace) (flow : Flow) (pages : List Page) → IsTree flow.main → HoldsAll flow.main (solids_of pages) → PrintsMainText faces flow pages
prints_main faces flow pages tree all =
    flat_same (λ (p : Page). texts_in (tree_items faces flow.main (flow_origin p.frame) p.solids)) (λ (p : Page). solids_text flow.main p.solids) (λ (p : Page). tree_prints faces flow.main (flow_origin p.frame) p.solids tree) pages
    ∙ pages_text flow.main pages
    ∙ tree_text flow.main (solids_of pages) tree all
