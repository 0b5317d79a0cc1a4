-- The texts and edges of the solids that a tree has, joined, are the tree's.
use Rattle.std.proofs.Common.{◌≡◌, ◌≢◌, ◌+◌, ◌-◌, ℕ, zero, suc, Bool, true, false, cond, eqb, List, [], ◌∷◌, ◌++◌, None, Some, length, drop, take, slice_get, append_assoc, take-append-drop, add-one, refl, sym, ap, ◌∙◌, subst, arith, ◌⊎◌, inl, inr}
use Rattle.std.specs.Prelude.{slice_range}
use Rattle.std.specs.List.{flat_map}
use Rattle.std.proofs.lemmas.Bool.{eq-eqb}
use Rattle.std.proofs.lemmas.Bool.Decides.{eqb_tells}
use Rattle.std.proofs.lemmas.List.{drop-drop, drop-append-le, take_rest}
use Rattle.std.proofs.lemmas.Option.{slice_get_within}
use Rattle.std.proofs.Math.Seq.{drop-nil}
use Rattle.bk_num.proofs.ListLemmas.{drop-next}
use Rattle.boxes.specs.Tree.{Tree, IsTree}
use Rattle.boxes.specs.declared.leaf.Leaf.{Leaf as LeafData}
use Rattle.boxes.specs.declared.page.Placed.{Placed}
use Rattle.boxes.specs.declared.place.Event.{Event}
use Rattle.boxes.specs.declared.place.Event.TheVariants.{Opens, Closes, Leaf}
use Rattle.boxes.specs.declared.place.Position.{Position}
use Rattle.seams.specs.Runs.{solid_from, is_solid, is_solid_at}
use Rattle.cursor.proofs.RemLemmas.{Stands, place}
use Rattle.boxes.specs.declared.page.SolidKind.{SolidKind}
use Rattle.boxes.specs.declared.page.SolidKind.TheVariants.{OpenEdge, CloseEdge}
use Rattle.page_list.specs.Parted.{IsPart, IsPartOfLeaf, IsNextSolid, AreNextSolids, HoldsAll, HoldsText, HoldsEdges, edges_among, edge_by, text_of, text_by, text_at, text_on}
use Rattle.page_list.specs.Parted.IsPart.{line, upper, lower}
use Rattle.seams.proofs.RunLemmas.{after_solid}
use Rattle.page_list.proofs.NextLemmas.{start_stands}
use Rattle.page_list.proofs.LeafTexts.{texts, texts_found, texts_here, texts_none, tree_texts, offset_same, edge_begins, told_by}

-- ---- the text from a place on
-- the text of a leaf
abbrev leaf_text : LeafData → List ℕ
leaf_text leaf = leaf.text

abbrev text_from : Tree → Position → List ℕ
text_from t at = drop at.offset (texts leaf_text t.leaves (drop at.event t.events))

-- ---- the text of the next line
text_before : (t : Tree) (at : Position) (p : Placed) → Stands t at → IsNextSolid t at p → text_from t at ≡ text_from t p.at
text_before t at p st n =
    ap (drop at.offset) (texts_found leaf_text t at.event p.at.event n.found) ∙ ap (λ (o : ℕ). drop o (texts leaf_text t.leaves (drop p.at.event t.events))) (sym (offset_same t at p st n))

-- what a line takes of the text from its place on
record Takes (t : Tree) (p : Placed) : Type 0 where
  stands : Stands t p.end
  text : text_on t p ++ text_from t p.end ≡ text_from t p.at

line_takes : (t : Tree) (p : Placed) → IsPartOfLeaf t p → Takes t p
line_takes t p n = by (eqb_tells n.to (length n.leaf.text))
  where
    here : text_at t p.at.event ≡ n.leaf.text
    here = ap (text_by t.leaves) n.names ∙ ap text_of n.has

    left : text_from t p.at ≡ drop p.at.offset n.leaf.text ++ texts leaf_text t.leaves (drop (suc p.at.event) t.events)
    left = let a = n.after in let w = n.within in ap (drop p.at.offset) (texts_here leaf_text t p.at.event n.number n.leaf n.names n.has) ∙ drop-append-le p.at.offset n.leaf.text (texts leaf_text t.leaves (drop (suc p.at.event) t.events)) (omega arith)

    on : (stop : ℕ) → cond (eqb p.end.event p.at.event) p.end.offset (length (text_at t p.at.event)) ≡ stop → text_on t p ≡ slice_range n.leaf.text p.at.offset stop
    on stop e = ap (slice_range (text_at t p.at.event) p.at.offset) e ∙ ap (λ (text : List ℕ). slice_range text p.at.offset stop) here

    by : ((eqb n.to (length n.leaf.text) ≡ true) × (n.to ≡ length n.leaf.text)) ⊎ ((eqb n.to (length n.leaf.text) ≡ false) × (n.to ≢ length n.leaf.text)) → Takes t p
    by (inl e) =
        let end : p.end ≡ place (suc p.at.event) 0 = n.ends ∙ ap (λ (b : Bool). cond b (place (p.at.event + 1) 0) (place p.at.event n.to)) e.0 ∙ ap (λ (k : ℕ). place k 0) (add-one p.at.event) in
        let other : eqb (suc p.at.event) p.at.event ≡ false = grind arith in
        let stop : cond (eqb p.end.event p.at.event) p.end.offset (length (text_at t p.at.event)) ≡ length n.leaf.text =
        ap (λ (q : Position). cond (eqb q.event p.at.event) q.offset (length (text_at t p.at.event))) end ∙ ap (λ (b : Bool). cond b 0 (length (text_at t p.at.event))) other ∙ ap length here in
        let text : text_on t p ≡ drop p.at.offset n.leaf.text = on (length n.leaf.text) stop ∙ take_rest n.leaf.text p.at.offset in
        let low = slice_get_within t.events p.at.event (Leaf n.number) n.names in
        record {
          stands = subst (Stands t) (sym end) (record { within = omega arith; offset = λ o. absurd (omega arith) });
          text = ap (λ (prefix : List ℕ). prefix ++ text_from t p.end) text ∙ ap (λ (q : Position). drop p.at.offset n.leaf.text ++ text_from t q) end ∙ sym left;
        }
    by (inr e) =
        let end : p.end ≡ place p.at.event n.to = n.ends ∙ ap (λ (b : Bool). cond b (place (p.at.event + 1) 0) (place p.at.event n.to)) e.0 in
        let a = n.after in
        let w = n.within in
        let unlike = e.1 in
        let tells : eqb p.at.event p.at.event ≡ true = eq-eqb p.at.event p.at.event refl in
        let stop : cond (eqb p.end.event p.at.event) p.end.offset (length (text_at t p.at.event)) ≡ n.to =
        ap (λ (q : Position). cond (eqb q.event p.at.event) q.offset (length (text_at t p.at.event))) end ∙ ap (λ (b : Bool). cond b n.to (length (text_at t p.at.event))) tells in
        let more : text_from t (place p.at.event n.to) ≡ drop n.to n.leaf.text ++ texts leaf_text t.leaves (drop (suc p.at.event) t.events) =
        ap (drop n.to) (texts_here leaf_text t p.at.event n.number n.leaf n.names n.has) ∙ drop-append-le n.to n.leaf.text (texts leaf_text t.leaves (drop (suc p.at.event) t.events)) n.within in
        let to_is : p.at.offset + (n.to - p.at.offset) ≡ n.to = omega arith in
        let cut : drop n.to n.leaf.text ≡ drop (n.to - p.at.offset) (drop p.at.offset n.leaf.text) = sym (drop-drop (n.to - p.at.offset) p.at.offset n.leaf.text ∙ ap (λ (k : ℕ). drop k n.leaf.text) to_is) in
        let words : List ℕ = slice_range n.leaf.text p.at.offset n.to in
        let low = slice_get_within t.events p.at.event (Leaf n.number) n.names in
        record {
          stands = subst (Stands t) (sym end) (record { within = omega arith; offset = λ o. (n.number, n.leaf, n.names, n.has, omega arith) });
          text = ap (λ (prefix : List ℕ). prefix ++ text_from t p.end) (on n.to stop) ∙ ap (λ (q : Position). words ++ text_from t q) end ∙ ap (λ (rest : List ℕ). words ++ rest) more
              ∙ sym (append_assoc words (drop n.to n.leaf.text) (texts leaf_text t.leaves (drop (suc p.at.event) t.events)))
              ∙ ap (λ (prefix : List ℕ). prefix ++ texts leaf_text t.leaves (drop (suc p.at.event) t.events)) (ap (λ (rest : List ℕ). words ++ rest) cut ∙ take-append-drop (n.to - p.at.offset) (drop p.at.offset n.leaf.text))
              ∙ sym left;
        }

-- an edge takes none
edge_takes : (t : Tree) (p : Placed) (e : Event) → slice_get t.events p.at.event ≡ Some e → text_by t.leaves (Some e) ≡ [] → told_by leaf_text t.leaves (Some e) ≡ [] → p.at.offset ≡ 0 → p.end ≡ place (p.at.event + 1) 0 → Takes t p
edge_takes t p e at bare plain begins ends =
    let end : p.end ≡ place (suc p.at.event) 0 = ends ∙ ap (λ (k : ℕ). place k 0) (add-one p.at.event) in
    let none : text_at t p.at.event ≡ [] = ap (text_by t.leaves) at ∙ bare in
    let bare_on : text_on t p ≡ [] = ap (λ (text : List ℕ). slice_range text p.at.offset (cond (eqb p.end.event p.at.event) p.end.offset (length (text_at t p.at.event)))) none ∙ slice_none p.at.offset (cond (eqb p.end.event p.at.event) p.end.offset (length (text_at t p.at.event))) in
    let left : text_from t p.at ≡ texts leaf_text t.leaves (drop (suc p.at.event) t.events) =
    ap (λ (o : ℕ). drop o (texts leaf_text t.leaves (drop p.at.event t.events))) begins ∙ ap (texts leaf_text t.leaves) (drop-next t.events p.at.event e at) ∙ ap (λ (prefix : List ℕ). prefix ++ texts leaf_text t.leaves (drop (suc p.at.event) t.events)) plain in
    let low = slice_get_within t.events p.at.event e at in
    record {
      stands = subst (Stands t) (sym end) (record { within = omega arith; offset = λ o. absurd (omega arith) });
      text = ap (λ (prefix : List ℕ). prefix ++ text_from t p.end) bare_on ∙ ap (text_from t) end ∙ sym left;
    }
  where
    take-none : (n : ℕ) → take {A = ℕ} n [] ≡ []
    take-none zero = refl
    take-none (suc n) = refl

    slice_none : (from to : ℕ) → slice_range {X = ℕ} [] from to ≡ []
    slice_none from to = ap (take (to - from)) (drop-nil from) ∙ take-none (to - from)

takes : (t : Tree) (at : Position) (p : Placed) → Stands t at → IsNextSolid t at p → Takes t p
takes t at p st n = by n.part
  where
    none : ((l : ℕ) → slice_get t.events p.at.event ≡ Some (Leaf l) → ⊥) → p.at.offset ≡ 0
    none = edge_begins t at p st n

    by : IsPart t p → Takes t p
    by (line l) = line_takes t p l
    by (upper b e l) = edge_takes t p (Opens b) e refl refl (none (λ k f. let g = sym e ∙ f in cc)) l.ends
    by (lower b e l) = edge_takes t p (Closes b) e refl refl (none (λ k f. let g = sym e ∙ f in cc)) l.ends

lines_text : (t : Tree) (at : Position) (lines : List Placed) → Stands t at → AreNextSolids t at lines → flat_map (text_on t) lines ≡ text_from t at
lines_text t at [] st none = sym (ap (drop at.offset) (texts_none leaf_text t (drop at.event t.events) at.event none) ∙ drop-nil at.offset)
lines_text t at (p ∷ lines) st r =
    let n : IsNextSolid t at p = r.1.0 in
    let took = takes t at p st n in
    let rest = lines_text t r.0 lines (subst (Stands t) (sym r.1.1) took.stands) r.2 in
    ap (λ (more : List ℕ). text_on t p ++ more) (rest ∙ ap (text_from t) r.1.1) ∙ took.text ∙ sym (text_before t at p st n)

pub parted_text : (t : Tree) (lines : List Placed) → IsTree t → HoldsAll t lines → HoldsText t lines
parted_text t lines tree parted = lines_text t (place 0 0) lines (start_stands t) parted ∙ tree_texts leaf_text t tree

-- ---- the edges
edges_skip : (t : Tree) (es : List Event) (k n : ℕ) → solid_from t.boxes es k ≡ Some n → (m : ℕ) × (k + m ≡ n) × (edges_among t.boxes es ≡ edges_among t.boxes (drop m es))
edges_skip t [] k n e = absurd (cc)
edges_skip t (x ∷ es) k n e = by x (is_solid t.boxes x) refl e (edges_skip t es (suc k) n)
  where
    by : (y : Event) (b : Bool) → is_solid t.boxes y ≡ b → cond b (Some k) (solid_from t.boxes es (suc k)) ≡ Some n → (solid_from t.boxes es (suc k) ≡ Some n → (m : ℕ) × (suc k + m ≡ n) × (edges_among t.boxes es ≡ edges_among t.boxes (drop m es))) → (m : ℕ) × (k + m ≡ n) × (edges_among t.boxes (y ∷ es) ≡ edges_among t.boxes (drop m (y ∷ es)))
    by y true is at more = let same : k ≡ n = cc in (0, omega arith, refl)
    by (Opens b) false is at more = let f = more at in let n_is = f.1 in (suc f.0, omega arith, ap (λ (x : Bool). cond x (OpenEdge b ∷ edges_among t.boxes es) (edges_among t.boxes es)) is ∙ f.2)
    by (Closes b) false is at more = let f = more at in let n_is = f.1 in (suc f.0, omega arith, ap (λ (x : Bool). cond x (CloseEdge b ∷ edges_among t.boxes es) (edges_among t.boxes es)) is ∙ f.2)
    by (Leaf l) false is at more = absurd (let f : true ≡ false = is in cc)

edges_none : (t : Tree) (es : List Event) (k : ℕ) → solid_from t.boxes es k ≡ None → edges_among t.boxes es ≡ []
edges_none t [] k e = refl
edges_none t (x ∷ es) k e = by x (is_solid t.boxes x) refl e (edges_none t es (suc k))
  where
    by : (y : Event) (b : Bool) → is_solid t.boxes y ≡ b → cond b (Some k) (solid_from t.boxes es (suc k)) ≡ None → (solid_from t.boxes es (suc k) ≡ None → edges_among t.boxes es ≡ []) → edges_among t.boxes (y ∷ es) ≡ []
    by y true is at more = absurd (cc)
    by (Opens b) false is at more = ap (λ (x : Bool). cond x (OpenEdge b ∷ edges_among t.boxes es) (edges_among t.boxes es)) is ∙ more at
    by (Closes b) false is at more = ap (λ (x : Bool). cond x (CloseEdge b ∷ edges_among t.boxes es) (edges_among t.boxes es)) is ∙ more at
    by (Leaf l) false is at more = absurd (let f : true ≡ false = is in cc)

abbrev edges_from : Tree → ℕ → List SolidKind
edges_from t k = edges_among t.boxes (drop k t.events)

-- the edge of a solid, and those after it
edge_takes_own : (t : Tree) (p : Placed) → is_solid_at t.boxes (slice_get t.events p.at.event) ≡ true → IsPart t p → edge_by p.kind ++ edges_from t p.end.event ≡ edges_from t p.at.event
edge_takes_own t p is (line l) = ap (λ (k : SolidKind). edge_by k ++ edges_from t p.end.event) l.kind_is ∙ ap (λ (q : Position). edges_from t q.event) l.ends ∙ by (eqb l.to (length l.leaf.text))
  where
    next : edges_from t (suc p.at.event) ≡ edges_from t p.at.event
    next = sym (ap (edges_among t.boxes) (drop-next t.events p.at.event (Leaf l.number) l.names))

    by : (b : Bool) → edges_from t (cond b (place (p.at.event + 1) 0) (place p.at.event l.to)).event ≡ edges_from t p.at.event
    by true = ap (edges_from t) (add-one p.at.event) ∙ next
    by false = refl
edge_takes_own t p is (upper b e l) =
    let own : is_solid t.boxes (Opens b) ≡ true = sym (ap (is_solid_at t.boxes) e) ∙ is in
    ap (λ (k : SolidKind). edge_by k ++ edges_from t p.end.event) l.kind_is ∙ ap (λ (q : Position). OpenEdge b ∷ edges_from t q.event) l.ends ∙ ap (λ (k : ℕ). OpenEdge b ∷ edges_from t k) (add-one p.at.event)
    ∙ sym (ap (edges_among t.boxes) (drop-next t.events p.at.event (Opens b) e) ∙ ap (λ (x : Bool). cond x (OpenEdge b ∷ edges_from t (suc p.at.event)) (edges_from t (suc p.at.event))) own)
edge_takes_own t p is (lower b e l) =
    let own : is_solid t.boxes (Closes b) ≡ true = sym (ap (is_solid_at t.boxes) e) ∙ is in
    ap (λ (k : SolidKind). edge_by k ++ edges_from t p.end.event) l.kind_is ∙ ap (λ (q : Position). CloseEdge b ∷ edges_from t q.event) l.ends ∙ ap (λ (k : ℕ). CloseEdge b ∷ edges_from t k) (add-one p.at.event)
    ∙ sym (ap (edges_among t.boxes) (drop-next t.events p.at.event (Closes b) e) ∙ ap (λ (x : Bool). cond x (CloseEdge b ∷ edges_from t (suc p.at.event)) (edges_from t (suc p.at.event))) own)

solids_edges : (t : Tree) (at : Position) (solids : List Placed) → AreNextSolids t at solids → flat_map (λ p. edge_by p.kind) solids ≡ edges_from t at.event
solids_edges t at [] none = sym (edges_none t (drop at.event t.events) at.event none)
solids_edges t at (p ∷ solids) r =
    let n : IsNextSolid t at p = r.1.0 in
    let is = (after_solid t at.event p.at.event n.found).1 in
    let rest = solids_edges t r.0 solids r.2 in
    let skip = edges_skip t (drop at.event t.events) at.event p.at.event n.found in
    let there : drop skip.0 (drop at.event t.events) ≡ drop p.at.event t.events = drop-drop skip.0 at.event t.events ∙ ap (λ (k : ℕ). drop k t.events) skip.1 in
    ap (λ (more : List SolidKind). edge_by p.kind ++ more) (rest ∙ ap (λ (q : Position). edges_from t q.event) r.1.1) ∙ edge_takes_own t p is n.part ∙ sym (skip.2 ∙ ap (edges_among t.boxes) there)

pub parted_edges : (t : Tree) (solids : List Placed) → HoldsAll t solids → HoldsEdges t solids
parted_edges t solids all = solids_edges t (place 0 0) solids all
