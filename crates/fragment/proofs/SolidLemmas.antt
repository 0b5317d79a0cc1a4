-- Solids by place, and how many they are.
use Rattle.std.proofs.Common.{◌≡◌, ◌≢◌, ◌<◌, ◌≤◌, ◌+◌, ◌-◌, ℕ, zero, suc, ℤ, Bool, true, false, cond, eqb, All, length, List, [], ◌∷◌, Option, None, Some, ◌^◌, Result, Ok, Err, IfOk, map, drop, slice_get, refl, sym, ap, ◌∙◌, subst, arith, get_or, ◌⊎◌, inl, inr, ⊎_elim, add-one}
use Rattle.std.proofs.lemmas.Bool.{cases_lt, eq-eqb}
use Rattle.std.proofs.lemmas.Bool.Decides.{eqb_tells}
use Rattle.std.proofs.lemmas.Option.{get_or_from_slice_get, slice_get_within}
use Rattle.std.proofs.Math.ListN.{get_or-map}
use Rattle.std.proofs.lemmas.List.{length-map, drop-drop}
use Rattle.boxes.proofs.TreeFacts.{few_events}
use Rattle.std.proofs.lemmas.List.Elements.{All-map}
use Rattle.bk_num.proofs.ListLemmas.{drop-next}
use Rattle.metrics.specs.Face.{FontFace}
use Rattle.boxes.specs.Tree.{Tree, IsTree, Holds}
use Rattle.boxes.specs.declared.leaf.Leaf.{Leaf as LeafData}
use Rattle.boxes.specs.declared.place.Event.{Event}
use Rattle.boxes.specs.declared.place.Event.TheVariants.{Opens, Closes, Leaf}
use Rattle.boxes.specs.declared.place.Position.{Position}
use Rattle.seams.specs.Runs.{solid_after, solid_from}
use Rattle.seams.proofs.RunLemmas.{after_solid}
use Rattle.line_fill.proofs.EndLemmas.{lines_go_on}
use Rattle.cursor.specs.declared.solid.Solid.{Solid}
use Rattle.cursor.specs.Fields.{solid_view}
use Rattle.cursor.specs.Remainder.{SolidView, IsSolid, IsContent, IsLineSolid, IsRemainder, IsSmallSolid, leaf_measure, end_of}
use Rattle.cursor.specs.Remainder.IsContent.{of_line, of_open, of_close}
use Rattle.cursor.proofs.RemLemmas.{Stands, solid_stands, begins_of, found_of, solid_within}
use Rattle.cuts.specs.Rows.{IsSmallRow}
use Rattle.note_list.specs.Conditions.{text_size, size_of}
use Rattle.page_list.specs.Cuts.{row_of, rows_of, place_after}

abbrev place : ℕ → ℕ → Position
place event offset = record { event = event; offset = offset }

pub view_at : (solids : List Solid) (k : ℕ) (s : Solid) → slice_get solids k ≡ Some s → slice_get (map solid_view solids) k ≡ Some (solid_view s)
view_at [] k s h = absurd (cc)
view_at (x ∷ xs) zero s h = let same : x ≡ s = cc in ap (λ (y : Solid). Some (solid_view y)) same
view_at (x ∷ xs) (suc k) s h = view_at xs k s h

pub small_rows : (t : Tree) (solids : List Solid) → All (λ s. IsSmallSolid (solid_view s)) solids → All IsSmallRow (rows_of t (map solid_view solids))
small_rows t solids small = All-map IsSmallRow (row_of t) (map solid_view solids) (All-map (λ v. IsSmallRow (row_of t v)) solid_view solids (λ k d h. let s = small k d h in record { kept = s.kept; whole = s.whole; head = s.head; tail = s.tail; height = s.height; some = s.some }))

-- where a cut ends is a place of the tree, where its solids stand at such places
pub holds_after : (t : Tree) (views : List SolidView) → All (λ (v : SolidView). Holds t v.placed_at) views → (k : ℕ) → Holds t (place_after t (slice_get views k))
holds_after t views all k = by (slice_get views k) refl
  where
    by : (o : Option SolidView) → slice_get views k ≡ o → Holds t (place_after t o)
    by None e = record { within = omega arith; offset = λ o. absurd (omega arith) }
    by (Some s) e =
        let low = slice_get_within views k s e in
        let same : get_or views k s ≡ s = get_or_from_slice_get views k s s e in
        subst (λ (v : SolidView). Holds t v.placed_at) same (all k s low)

-- later events have no more text
size_mono : (leaves : List LeafData) (es : List Event) (j : ℕ) → text_size leaves (drop j es) ≤ text_size leaves es
size_mono leaves es zero = omega arith
size_mono leaves [] (suc j) = omega arith
size_mono leaves (Opens b ∷ es) (suc j) = size_mono leaves es j
size_mono leaves (Closes b ∷ es) (suc j) = size_mono leaves es j
size_mono leaves (Leaf l ∷ es) (suc j) = let h = size_mono leaves es j in omega arith

pub size_later : (leaves : List LeafData) (es : List Event) (j k : ℕ) → j ≤ k → text_size leaves (drop k es) ≤ text_size leaves (drop j es)
size_later leaves es j k low =
    let n : j + (k - j) ≡ k = omega arith in
    let e : drop (k - j) (drop j es) ≡ drop k es = drop-drop (k - j) j es ∙ ap (λ (m : ℕ). drop m es) n in
    subst (λ (xs : List Event). text_size leaves xs ≤ text_size leaves (drop j es)) e (size_mono leaves (drop j es) (k - j))

pub size_here : (t : Tree) (k l : ℕ) (leaf : LeafData) → slice_get t.events k ≡ Some (Leaf l) → slice_get t.leaves l ≡ Some leaf → text_size t.leaves (drop k t.events) ≡ length leaf.text + text_size t.leaves (drop (suc k) t.events)
size_here t k l leaf at has = ap (text_size t.leaves) (drop-next t.events k (Leaf l) at) ∙ ap (λ (o : Option LeafData). size_of o + text_size t.leaves (drop (suc k) t.events)) has

-- bytes and events from a place on
abbrev room_at : Tree → Position → ℕ
room_at t at = text_size t.leaves (drop at.event t.events) + (length t.events - at.event)

-- each solid takes a byte of text or an event at least
pub solids_few : (faces : List FontFace) (t : Tree) (w : ℤ) → IsTree t → (from : Position) (xs : List SolidView) → Stands t from → IsRemainder faces t w from xs → length xs + from.offset ≤ room_at t from
solids_few faces t w tree from [] st r = ⊎_elim
    (λ (o : 0 < from.offset). let p = st.offset o in let size = size_here t from.event p.0 p.1 p.2 p.3 in let less = p.4 in omega arith)
    (λ (o : from.offset ≤ 0). omega arith)
    (cases_lt 0 from.offset)
solids_few faces t w tree from (s ∷ xs) st r =
    let next = subst (Stands t) (sym r.1.1) (solid_stands faces t w from s tree st r.1.0) in
    go (subst (λ (p : Position). length xs + p.offset ≤ room_at t p) r.1.1 (solids_few faces t w tree r.0 xs next r.2)) r.1.0.content
  where
    is : IsSolid faces t w from s
    is = r.1.0

    Rest : Type 0
    Rest = length xs + s.end.offset ≤ room_at t s.end

    after : from.event ≤ s.placed_at.event
    after = (after_solid t from.event s.placed_at.event is.found).0

    inside : s.placed_at.event < length t.events
    inside = solid_within t from.event s.placed_at.event is.found

    from_offset : from.offset ≤ s.placed_at.offset
    from_offset = ⊎_elim
        (λ (o : 0 < from.offset).
        let p = st.offset o in
        let here : solid_after t from.event ≡ Some from.event = ap (λ (es : List Event). solid_from t.boxes es from.event) (drop-next t.events from.event (Leaf p.0) p.2) in
        let same : s.placed_at.event ≡ from.event = (let q : Some s.placed_at.event ≡ Some from.event = sym is.found ∙ here in cc) in
        let tells : eqb s.placed_at.event from.event ≡ true = eq-eqb s.placed_at.event from.event same in
        let e : s.placed_at.offset ≡ from.offset = begins_of faces t w from s st is ∙ ap (λ (x : Bool). cond x from.offset 0) tells in
        omega arith)
        (λ (o : from.offset ≤ 0). omega arith)
        (cases_lt 0 from.offset)

    edge : Rest → s.end ≡ place (s.placed_at.event + 1) 0 → s.placed_at.offset ≡ 0 → length (s ∷ xs) + from.offset ≤ room_at t from
    edge rest ends begins =
        let r : length xs + 0 ≤ room_at t (place (s.placed_at.event + 1) 0) = subst (λ (p : Position). length xs + p.offset ≤ room_at t p) ends rest in
        let later = size_later t.leaves t.events from.event (s.placed_at.event + 1) (let a = after in omega arith) in
        let a = after in
        let b = inside in
        let c = from_offset in
        omega arith

    line : Rest → (l : IsLineSolid faces t w from s) → length (s ∷ xs) + from.offset ≤ room_at t from
    line rest l =
        let f = found_of faces t w from s tree st is.found l in
        let text = lines_go_on faces l.leaf s.placed_at.offset (leaf_measure t w s.placed_at.event) l.line_of f.inside l.fills in
        by (eqb_tells l.line_of.to (length l.leaf.text)) l.ends text.0 text.1 (size_here t s.placed_at.event l.number l.leaf l.names l.has) (size_later t.leaves t.events from.event s.placed_at.event f.after)
      where
        by : {to len : ℕ} → ((eqb to len ≡ true) × (to ≡ len)) ⊎ ((eqb to len ≡ false) × (to ≢ len)) → s.end ≡ end_of s.placed_at.event len to → s.placed_at.offset < to → to ≤ len →
            text_size t.leaves (drop s.placed_at.event t.events) ≡ len + text_size t.leaves (drop (suc s.placed_at.event) t.events) → text_size t.leaves (drop s.placed_at.event t.events) ≤ text_size t.leaves (drop from.event t.events) →
            length (s ∷ xs) + from.offset ≤ room_at t from
        by {to} {len} (inl h) ends a b size later =
            let e : s.end ≡ place (suc s.placed_at.event) 0 = ends ∙ ap (λ (x : Bool). cond x (record { event = s.placed_at.event + 1; offset = 0 }) (record { event = s.placed_at.event; offset = to })) h.0 ∙ ap (λ (n : ℕ). place n 0) (add-one s.placed_at.event) in
            let r : length xs + 0 ≤ room_at t (place (suc s.placed_at.event) 0) = subst (λ (p : Position). length xs + p.offset ≤ room_at t p) e rest in
            let f = from_offset in
            let g = after in
            let i = inside in
            omega arith
        by {to} {len} (inr h) ends a b size later =
            let e : s.end ≡ place s.placed_at.event to = ends ∙ ap (λ (x : Bool). cond x (record { event = s.placed_at.event + 1; offset = 0 }) (record { event = s.placed_at.event; offset = to })) h.0 in
            let r : length xs + to ≤ room_at t (place s.placed_at.event to) = subst (λ (p : Position). length xs + p.offset ≤ room_at t p) e rest in
            let f = from_offset in
            let g = after in
            let i = inside in
            omega arith

    go : Rest → IsContent faces t w from s → length (s ∷ xs) + from.offset ≤ room_at t from
    go rest (of_line l) = line rest l
    go rest (of_open b e l) = edge rest l.ends l.begins
    go rest (of_close b e l) = edge rest l.ends l.begins

-- what holds of each solid
pub all_views : (P : SolidView → Type 0) (xs : List Solid) → All P (map solid_view xs) → All (λ s. P (solid_view s)) xs
all_views P xs h k d less =
    let low : k < length (map solid_view xs) = rw length-map less in
    subst P (get_or-map solid_view xs k d) (h k (solid_view d) low)

module _ (faces : List FontFace) (t : Tree) (w : ℤ) (from : Position) (tree : IsTree t) (st : Stands t from) where
  -- the solids of a remainder are few
  pub rest_few : (xs : List SolidView) → IsRemainder faces t w from xs → text_size t.leaves t.events ≤ 2 ^ 25 → length xs ≤ 2 ^ 26
  rest_few xs r small =
      let few = solids_few faces t w tree from xs st r in
      let all : text_size t.leaves (drop from.event t.events) ≤ text_size t.leaves t.events = size_later t.leaves t.events 0 from.event (omega arith) in
      let events = few_events t tree in
      omega arith

pub both_ok : {A E : Type 0} (P Q : A → Type 0) (r : Result A E) → IfOk r P → IfOk r Q → IfOk r (λ x. P x × Q x)
both_ok P Q (Ok x) p q = (p, q)
both_ok P Q (Err e) p q = tt

pub if_ok : {A E : Type 0} (P Q : A → Type 0) (r : Result A E) → ((x : A) → P x → Q x) → IfOk r P → IfOk r Q
if_ok P Q (Ok x) h p = h x p
if_ok P Q (Err e) h p = tt
