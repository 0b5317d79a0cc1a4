-- What is told of the leaves of a tree stands in their order, and no leaf stands before the next solid.
use Rattle.std.proofs.Common.{◌≡◌, ◌∙◌, ◌<◌, ◌≤◌, ◌≢◌, ℕ, suc, ◌+◌, Bool, true, false, cond, eqb, List, [], ◌∷◌, ◌++◌, Option, None, Some, length, drop, slice_get, append-nil, refl, sym, ap, arith, ◌⊎◌, ⊎_elim, inl, inr}
use Rattle.std.specs.List.{flat_map}
use Rattle.std.proofs.lemmas.Bool.{cases_lt}
use Rattle.std.proofs.lemmas.Bool.Decides.{eqb_tells}
use Rattle.std.proofs.lemmas.Grind.{flat_map-append}
use Rattle.std.proofs.lemmas.List.{drop-drop}
use Rattle.bk_num.proofs.ListLemmas.{drop-next}
use Rattle.boxes.specs.Tree.{Tree, IsTree}
use Rattle.boxes.specs.Tree.IsTree.{empty, opened, filled, closed}
use Rattle.boxes.specs.declared.leaf.Leaf.{Leaf as LeafData}
use Rattle.boxes.specs.declared.page.Placed.{Placed}
use Rattle.boxes.specs.declared.place.Event.{Event}
use Rattle.boxes.specs.declared.place.Event.TheVariants.{Opens, Closes, Leaf}
use Rattle.boxes.specs.declared.place.Position.{Position}
use Rattle.boxes.proofs.ListLemmas.{get-before, get-end}
use Rattle.boxes.proofs.TreeFacts.{leaf_there}
use Rattle.seams.specs.Runs.{solid_from, is_solid, is_solid_at}
use Rattle.cursor.proofs.RemLemmas.{Stands}
use Rattle.cursor.proofs.PartLemmas.{solid_itself}
use Rattle.page_list.specs.Parted.{IsNextSolid}

-- what is told of a leaf, and nothing where none is
abbrev pub told : (LeafData → List ℕ) → Option LeafData → List ℕ
told f None = []
told f (Some leaf) = f leaf

-- what is told of the leaf that an event is
abbrev pub told_by : (LeafData → List ℕ) → List LeafData → Option Event → List ℕ
told_by f leaves None = []
told_by f leaves (Some (Opens b)) = []
told_by f leaves (Some (Closes b)) = []
told_by f leaves (Some (Leaf l)) = told f (slice_get leaves l)

-- what is told of the leaves among events
abbrev pub texts : (LeafData → List ℕ) → List LeafData → List Event → List ℕ
texts f leaves es = flat_map (λ e. told_by f leaves (Some e)) es

-- ---- the leaves of a tree stand in order
texts_more : (f : LeafData → List ℕ) (leaves : List LeafData) (leaf : LeafData) (es : List Event) → ((k l : ℕ) → slice_get es k ≡ Some (Leaf l) → l < length leaves) → texts f (leaves ++ leaf ∷ []) es ≡ texts f leaves es
texts_more f leaves leaf [] there = refl
texts_more f leaves leaf (Opens b ∷ es) there = texts_more f leaves leaf es (λ k. there (suc k))
texts_more f leaves leaf (Closes b ∷ es) there = texts_more f leaves leaf es (λ k. there (suc k))
texts_more f leaves leaf (Leaf l ∷ es) there =
    ap (λ (o : Option LeafData). told f o ++ texts f (leaves ++ leaf ∷ []) es) (get-before leaves leaf l (there 0 l refl))
    ∙ ap (λ (rest : List ℕ). told f (slice_get leaves l) ++ rest) (texts_more f leaves leaf es (λ k. there (suc k)))

texts_push : (f : LeafData → List ℕ) (leaves : List LeafData) (es : List Event) (e : Event) → texts f leaves (es ++ e ∷ []) ≡ texts f leaves es ++ told_by f leaves (Some e)
texts_push f leaves es e = flat_map-append (λ x. told_by f leaves (Some x)) es (e ∷ []) ∙ ap (λ (rest : List ℕ). texts f leaves es ++ rest) (append-nil (told_by f leaves (Some e)))

pub tree_texts : (f : LeafData → List ℕ) (t : Tree) → IsTree t → texts f t.leaves t.events ≡ flat_map f t.leaves
tree_texts f _ empty = refl
tree_texts f _ (opened t p tree few there good) = texts_push f t.leaves t.events (Opens (length t.boxes)) ∙ append-nil (texts f t.leaves t.events) ∙ tree_texts f t tree
tree_texts f _ (closed t b tree few at) = texts_push f t.leaves t.events (Closes b) ∙ append-nil (texts f t.leaves t.events) ∙ tree_texts f t tree
tree_texts f _ (filled t leaf tree few there good owners) =
    let more : List LeafData = t.leaves ++ leaf ∷ [] in
    texts_push f more t.events (Leaf (length t.leaves))
    ∙ ap (λ (o : Option LeafData). texts f more t.events ++ told f o) (get-end t.leaves leaf)
    ∙ ap (λ (prefix : List ℕ). prefix ++ f leaf) (texts_more f t.leaves leaf t.events (leaf_there t tree) ∙ tree_texts f t tree)
    ∙ sym (flat_map-append f t.leaves (leaf ∷ []) ∙ ap (λ (rest : List ℕ). flat_map f t.leaves ++ rest) (append-nil (f leaf)))

-- ---- from a place on
-- no leaf stands before the first solid
texts_skip : (f : LeafData → List ℕ) (t : Tree) (es : List Event) (k n : ℕ) → solid_from t.boxes es k ≡ Some n → (m : ℕ) × (k + m ≡ n) × (texts f t.leaves es ≡ texts f t.leaves (drop m es))
texts_skip f t [] k n e = absurd (cc)
texts_skip f t (x ∷ es) k n e = by x (is_solid t.boxes x) refl e (texts_skip f t es (suc k) n)
  where
    by : (y : Event) (b : Bool) → is_solid t.boxes y ≡ b → cond b (Some k) (solid_from t.boxes es (suc k)) ≡ Some n → (solid_from t.boxes es (suc k) ≡ Some n → (m : ℕ) × (suc k + m ≡ n) × (texts f t.leaves es ≡ texts f t.leaves (drop m es))) → (m : ℕ) × (k + m ≡ n) × (texts f t.leaves (y ∷ es) ≡ texts f t.leaves (drop m (y ∷ es)))
    by y true is at more = let same : k ≡ n = cc in (0, omega arith, refl)
    by (Opens b) false is at more = let f = more at in let n_is = f.1 in (suc f.0, omega arith, f.2)
    by (Closes b) false is at more = let f = more at in let n_is = f.1 in (suc f.0, omega arith, f.2)
    by (Leaf l) false is at more = absurd (let f : true ≡ false = is in cc)

pub texts_found : (f : LeafData → List ℕ) (t : Tree) (k n : ℕ) → solid_from t.boxes (drop k t.events) k ≡ Some n → texts f t.leaves (drop k t.events) ≡ texts f t.leaves (drop n t.events)
texts_found f t k n found =
    let skip = texts_skip f t (drop k t.events) k n found in
    let there : drop skip.0 (drop k t.events) ≡ drop n t.events = drop-drop skip.0 k t.events ∙ ap (λ (k : ℕ). drop k t.events) skip.1 in
    skip.2 ∙ ap (texts f t.leaves) there

pub texts_none : (f : LeafData → List ℕ) (t : Tree) (es : List Event) (k : ℕ) → solid_from t.boxes es k ≡ None → texts f t.leaves es ≡ []
texts_none f t [] k e = refl
texts_none f t (x ∷ es) k e = by x (is_solid t.boxes x) refl e (texts_none f t es (suc k))
  where
    by : (y : Event) (b : Bool) → is_solid t.boxes y ≡ b → cond b (Some k) (solid_from t.boxes es (suc k)) ≡ None → (solid_from t.boxes es (suc k) ≡ None → texts f t.leaves es ≡ []) → texts f t.leaves (y ∷ es) ≡ []
    by y true is at more = absurd (cc)
    by (Opens b) false is at more = more at
    by (Closes b) false is at more = more at
    by (Leaf l) false is at more = absurd (let f : true ≡ false = is in cc)

-- a leaf, and those after it
pub texts_here : (f : LeafData → List ℕ) (t : Tree) (k l : ℕ) (leaf : LeafData) → slice_get t.events k ≡ Some (Leaf l) → slice_get t.leaves l ≡ Some leaf → texts f t.leaves (drop k t.events) ≡ f leaf ++ texts f t.leaves (drop (suc k) t.events)
texts_here f t k l leaf at has =
    ap (texts f t.leaves) (drop-next t.events k (Leaf l) at) ∙ ap (λ (o : Option LeafData). told f o ++ texts f t.leaves (drop (suc k) t.events)) has

-- ---- the next solid
-- its offset is that of the place before it
pub offset_same : (t : Tree) (at : Position) (p : Placed) → Stands t at → IsNextSolid t at p → p.at.offset ≡ at.offset
offset_same t at p st n = by (eqb_tells p.at.event at.event)
  where
    by : ((eqb p.at.event at.event ≡ true) × (p.at.event ≡ at.event)) ⊎ ((eqb p.at.event at.event ≡ false) × (p.at.event ≢ at.event)) → p.at.offset ≡ at.offset
    by (inl e) = n.begins ∙ ap (λ (b : Bool). cond b at.offset 0) e.0
    by (inr e) =
        let begins : p.at.offset ≡ 0 = n.begins ∙ ap (λ (b : Bool). cond b at.offset 0) e.0 in
        ⊎_elim
        (λ (o : 0 < at.offset).
        let s = st.offset o in
        let here : Some at.event ≡ Some p.at.event = sym (solid_itself t at.event (ap (is_solid_at t.boxes) s.2)) ∙ n.found in
        absurd (e.1 (let same : p.at.event ≡ at.event = cc in same)))
        (λ (o : at.offset ≤ 0). omega arith)
        (cases_lt 0 at.offset)

-- an edge stands at the begin of its event
pub edge_begins : (t : Tree) (at : Position) (p : Placed) → Stands t at → IsNextSolid t at p → ((l : ℕ) → slice_get t.events p.at.event ≡ Some (Leaf l) → ⊥) → p.at.offset ≡ 0
edge_begins t at p st n other = offset_same t at p st n ∙ ⊎_elim
    (λ (o : 0 < at.offset).
    let s = st.offset o in
    let here : Some at.event ≡ Some p.at.event = sym (solid_itself t at.event (ap (is_solid_at t.boxes) s.2)) ∙ n.found in
    let same : at.event ≡ p.at.event = cc in
    absurd (other s.0 (ap (slice_get t.events) (sym same) ∙ s.2)))
    (λ (o : at.offset ≤ 0). omega arith)
    (cases_lt 0 at.offset)
