-- The edges and characters of a tree from a place on, and how many of them a solid takes.
use Rattle.std.proofs.Common.{◌≡◌, ◌≢◌, ◌<◌, ◌≤◌, ◌+◌, ◌-◌, ◌==◌, ℕ, zero, suc, ℤ, Bool, true, false, cond, eqb, List, [], ◌∷◌, Option, Some, length, take, drop, get_or, slice_get, refl, sym, ap, ◌∙◌, subst, arith, add-one, ◌⊎◌, ⊎_elim, inl, inr}
use Rattle.std.specs.Prelude.{◌||◌, nat_lt, nat_le}
use Rattle.std.specs.Fmt.{char_count, is_char_start}
use Rattle.std.specs.Str.{IsCharBoundary}
use Rattle.std.proofs.lemmas.Str.{IsCharBoundary-start}
use Rattle.std.proofs.lemmas.Bool.{cases_lt, lt-ltb, le-leb}
use Rattle.std.proofs.lemmas.Bool.Decides.{eqb_tells}
use Rattle.std.proofs.lemmas.List.{drop-drop}
use Rattle.std.proofs.Math.Bool.{or-true}
use Rattle.bk_num.proofs.ListLemmas.{drop-next}
use Rattle.metrics.specs.Face.{FontFace}
use Rattle.boxes.specs.Tree.{Tree, IsTree}
use Rattle.boxes.specs.declared.leaf.Leaf.{Leaf as LeafData}
use Rattle.boxes.specs.declared.page.SolidKind.TheVariants.{OpenEdge, CloseEdge}
use Rattle.boxes.specs.declared.place.Event.{Event}
use Rattle.boxes.specs.declared.place.Event.TheVariants.{Opens, Closes, Leaf}
use Rattle.boxes.specs.declared.place.Position.{Position}
use Rattle.boxes.specs.declared.props.BoxProps.{BoxProps}
use Rattle.line_fill.proofs.EndLemmas.{lines_go_on, end_stands}
use Rattle.seams.specs.Runs.{solid_after, is_solid, is_solid_at}
use Rattle.seams.proofs.RunLemmas.{after_solid}
use Rattle.cursor.specs.Remainder.{SolidView, IsSolid, IsContent, IsLineSolid, IsRemainder, leaf_measure, end_of}
use Rattle.cursor.specs.Remainder.IsContent.{of_line, of_open, of_close}
use Rattle.cursor.proofs.RemLemmas.{Stands, solid_stands, begins_of, found_of}
use Rattle.cursor.proofs.PartLemmas.{solid_itself}
use Rattle.page_list.specs.Bounds.{HaveTexts, chars_among, chars_by}
use Rattle.page_list.specs.Parted.{edges_among, text_at, text_by, text_of}

abbrev pub place : ℕ → ℕ → Position
place event offset = record { event = event; offset = offset }

-- ---- the edges and characters from an event on
abbrev pub left : Tree → ℕ → ℕ
left t k = chars_among t.leaves (drop k t.events) + length (edges_among t.boxes (drop k t.events))

chars_mono : (leaves : List LeafData) (es : List Event) (j : ℕ) → chars_among leaves (drop j es) ≤ chars_among leaves es
chars_mono leaves es zero = omega arith
chars_mono leaves [] (suc j) = omega arith
chars_mono leaves (Opens b ∷ es) (suc j) = chars_mono leaves es j
chars_mono leaves (Closes b ∷ es) (suc j) = chars_mono leaves es j
chars_mono leaves (Leaf l ∷ es) (suc j) = let rest = chars_mono leaves es j in omega arith

chars_later : (leaves : List LeafData) (es : List Event) (j k : ℕ) → j ≤ k → chars_among leaves (drop k es) ≤ chars_among leaves (drop j es)
chars_later leaves es j k low =
    let n : j + (k - j) ≡ k = omega arith in
    let e : drop (k - j) (drop j es) ≡ drop k es = drop-drop (k - j) j es ∙ ap (λ (m : ℕ). drop m es) n in
    subst (λ (xs : List Event). chars_among leaves xs ≤ chars_among leaves (drop j es)) e (chars_mono leaves (drop j es) (k - j))

-- ---- the characters before an offset of a text
abbrev count_to : List ℕ → ℕ → ℕ
count_to text n = char_count (take n text)

count_none : (text : List ℕ) → count_to text 0 ≡ 0
unfolding char_count
count_none text = refl

count_within : (text : List ℕ) (n : ℕ) → count_to text n ≤ char_count text
unfolding char_count
count_within text zero = omega arith
count_within [] (suc n) = omega arith
count_within (b ∷ text) (suc n) = let rest = count_within text n in omega arith

count_all : (text : List ℕ) → count_to text (length text) ≡ char_count text
unfolding char_count
count_all [] = refl
count_all (b ∷ text) = ap (λ (n : ℕ). cond (is_char_start b) 1 0 + n) (count_all text)

-- a part of a text that begins at a character has one
count_more : (text : List ℕ) (a b : ℕ) → a < b → a < length text → is_char_start (get_or text a 0) ≡ true → suc (count_to text a) ≤ count_to text b
unfolding char_count
count_more [] a b less inside start = absurd (omega arith)
count_more (c ∷ text) a zero less inside start = absurd (omega arith)
count_more (c ∷ text) zero (suc b) less inside start = rw start (omega arith)
count_more (c ∷ text) (suc a) (suc b) less inside start = let rest = count_more text a b (omega arith) (omega arith) start in omega arith

starts_char : (text : List ℕ) (a : ℕ) → IsCharBoundary text a → a < length text → is_char_start (get_or text a 0) ≡ true
starts_char text a stands inside = by (cases_lt (get_or text a 0) 128)
  where
    by : (get_or text a 0 < 128) ⊎ (128 ≤ get_or text a 0) → is_char_start (get_or text a 0) ≡ true
    by (inl h) = ap (λ (b : Bool). b || nat_le 192 (get_or text a 0)) (lt-ltb (get_or text a 0) 128 h)
    by (inr h) = ap (λ (b : Bool). nat_lt (get_or text a 0) 128 || b) (le-leb 192 (get_or text a 0) (stands.1 inside h)) ∙ or-true (nat_lt (get_or text a 0) 128)

-- the characters of the leaf of a place that stand before it
abbrev pub passed : Tree → Position → ℕ
passed t at = count_to (text_at t at.event) at.offset

text_here : (t : Tree) (event l : ℕ) (leaf : LeafData) → slice_get t.events event ≡ Some (Leaf l) → slice_get t.leaves l ≡ Some leaf → text_at t event ≡ leaf.text
text_here t event l leaf names has = ap (λ (o : Option Event). text_by t.leaves o) names ∙ ap text_of has

-- a place that stands at a character
abbrev pub IsAtChar : Tree → Position → Type 0
IsAtChar t at = (l : ℕ) (leaf : LeafData) → slice_get t.events at.event ≡ Some (Leaf l) → slice_get t.leaves l ≡ Some leaf → IsCharBoundary leaf.text at.offset

pub begin_at_char : (t : Tree) (event : ℕ) → HaveTexts t → IsAtChar t (record { event = event; offset = 0 })
begin_at_char t event texts l leaf names has = IsCharBoundary-start leaf.text (texts event l leaf names has)

edges_mono : (boxes : List BoxProps) (es : List Event) (j : ℕ) → length (edges_among boxes (drop j es)) ≤ length (edges_among boxes es)
edges_mono boxes es zero = omega arith
edges_mono boxes [] (suc j) = omega arith
edges_mono boxes (Opens b ∷ es) (suc j) = by (is_solid boxes (Opens b)) (edges_mono boxes es j)
  where
    by : (c : Bool) → length (edges_among boxes (drop j es)) ≤ length (edges_among boxes es) → length (edges_among boxes (drop j es)) ≤ length (cond c (OpenEdge b ∷ edges_among boxes es) (edges_among boxes es))
    by true h = omega arith
    by false h = h
edges_mono boxes (Closes b ∷ es) (suc j) = by (is_solid boxes (Closes b)) (edges_mono boxes es j)
  where
    by : (c : Bool) → length (edges_among boxes (drop j es)) ≤ length (edges_among boxes es) → length (edges_among boxes (drop j es)) ≤ length (cond c (CloseEdge b ∷ edges_among boxes es) (edges_among boxes es))
    by true h = omega arith
    by false h = h
edges_mono boxes (Leaf l ∷ es) (suc j) = edges_mono boxes es j

pub left_later : (t : Tree) (j k : ℕ) → j ≤ k → left t k ≤ left t j
left_later t j k low =
    let n : j + (k - j) ≡ k = omega arith in
    let e : drop (k - j) (drop j t.events) ≡ drop k t.events = drop-drop (k - j) j t.events ∙ ap (λ (m : ℕ). drop m t.events) n in
    let edges = subst (λ (xs : List Event). length (edges_among t.boxes xs) ≤ length (edges_among t.boxes (drop j t.events))) e (edges_mono t.boxes (drop j t.events) (k - j)) in
    let text = chars_later t.leaves t.events j k low in
    omega arith

edge_here : (t : Tree) (n : ℕ) (e : Event) → slice_get t.events n ≡ Some e → is_solid t.boxes e ≡ true → ((l : ℕ) → e ≡ Leaf l → ⊥) → suc (left t (n + 1)) ≡ left t n
edge_here t n (Opens b) at is other =
    let next : left t (n + 1) ≡ left t (suc n) = ap (left t) (add-one n) in
    let size : chars_among t.leaves (drop n t.events) ≡ chars_among t.leaves (drop (suc n) t.events) = ap (chars_among t.leaves) (drop-next t.events n (Opens b) at) in
    let edges : length (edges_among t.boxes (drop n t.events)) ≡ suc (length (edges_among t.boxes (drop (suc n) t.events))) =
    ap (λ (es : List Event). length (edges_among t.boxes es)) (drop-next t.events n (Opens b) at) ∙ ap (λ (c : Bool). length (cond c (OpenEdge b ∷ edges_among t.boxes (drop (suc n) t.events)) (edges_among t.boxes (drop (suc n) t.events)))) is in
    omega arith
edge_here t n (Closes b) at is other =
    let next : left t (n + 1) ≡ left t (suc n) = ap (left t) (add-one n) in
    let size : chars_among t.leaves (drop n t.events) ≡ chars_among t.leaves (drop (suc n) t.events) = ap (chars_among t.leaves) (drop-next t.events n (Closes b) at) in
    let edges : length (edges_among t.boxes (drop n t.events)) ≡ suc (length (edges_among t.boxes (drop (suc n) t.events))) =
    ap (λ (es : List Event). length (edges_among t.boxes es)) (drop-next t.events n (Closes b) at) ∙ ap (λ (c : Bool). length (cond c (CloseEdge b ∷ edges_among t.boxes (drop (suc n) t.events)) (edges_among t.boxes (drop (suc n) t.events)))) is in
    omega arith
edge_here t n (Leaf l) at is other = absurd (other l refl)

line_here : (t : Tree) (n l : ℕ) (leaf : LeafData) → slice_get t.events n ≡ Some (Leaf l) → slice_get t.leaves l ≡ Some leaf → left t n ≡ char_count leaf.text + left t (suc n)
line_here t n l leaf at has =
    let size : chars_among t.leaves (drop n t.events) ≡ char_count leaf.text + chars_among t.leaves (drop (suc n) t.events) = ap (chars_among t.leaves) (drop-next t.events n (Leaf l) at) ∙ ap (λ (o : Option LeafData). chars_by o + chars_among t.leaves (drop (suc n) t.events)) has in
    let edges : length (edges_among t.boxes (drop n t.events)) ≡ length (edges_among t.boxes (drop (suc n) t.events)) = ap (λ (es : List Event). length (edges_among t.boxes es)) (drop-next t.events n (Leaf l) at) in
    omega arith

pub passed_none : (t : Tree) (at : Position) → at.offset ≡ 0 → passed t at ≡ 0
passed_none t at e = ap (count_to (text_at t at.event)) e ∙ count_none (text_at t at.event)

pub passed_low : (t : Tree) (at : Position) → Stands t at → passed t at ≤ left t at.event
passed_low t at st = ⊎_elim
    (λ (o : 0 < at.offset).
    let p = st.offset o in
    let size = line_here t at.event p.0 p.1 p.2 p.3 in
    let text = ap (λ (bs : List ℕ). count_to bs at.offset) (text_here t at.event p.0 p.1 p.2 p.3) in
    let low = count_within p.1.text at.offset in
    omega arith)
    (λ (o : at.offset ≤ 0). let e = passed_none t at (omega arith) in omega arith)
    (cases_lt 0 at.offset)

-- ---- the event after the seam at a place
abbrev pub beyond : Position → ℕ
beyond at = cond (at.offset == 0) at.event (suc at.event)

pub beyond_low : (at : Position) → (at.event ≤ beyond at) × (beyond at ≤ suc at.event)
beyond_low at = by (at.offset == 0)
  where
    by : (b : Bool) → (at.event ≤ cond b at.event (suc at.event)) × (cond b at.event (suc at.event) ≤ suc at.event)
    by true = (omega arith, omega arith)
    by false = (omega arith, omega arith)

pub beyond_in : (at : Position) → 0 < at.offset → beyond at ≡ suc at.event
beyond_in at some = by (eqb_tells at.offset 0)
  where
    by : ((eqb at.offset 0 ≡ true) × (at.offset ≡ 0)) ⊎ ((eqb at.offset 0 ≡ false) × (at.offset ≢ 0)) → beyond at ≡ suc at.event
    by (inl h) = absurd (let e = h.1 in omega arith)
    by (inr h) = ap (λ (b : Bool). cond b at.event (suc at.event)) h.0

-- what one solid takes
pub record Takes (t : Tree) (from : Position) (s : SolidView) : Type 0 where
  pub later : left t s.placed_at.event + passed t from ≤ left t from.event + passed t s.placed_at
  pub takes : suc (left t s.end.event) + passed t s.placed_at ≤ left t s.placed_at.event + passed t s.end
  pub placed : IsAtChar t s.placed_at
  pub at_char : IsAtChar t s.end
  pub grows : beyond from ≤ beyond s.placed_at
  pub ends : suc s.placed_at.event ≤ beyond s.end
  pub solid : is_solid_at t.boxes (slice_get t.events s.placed_at.event) ≡ true

pub solid_takes : (faces : List FontFace) (t : Tree) (w : ℤ) (from : Position) (s : SolidView) → IsTree t → HaveTexts t → Stands t from → IsAtChar t from → IsSolid faces t w from s → Takes t from s
solid_takes faces t w from s tree texts st char is = record { later = (place_by (eqb_tells s.placed_at.event from.event)).0; grows = (place_by (eqb_tells s.placed_at.event from.event)).1; placed = placed; takes = (by is.content).0; at_char = (by is.content).2; ends = (by is.content).1; solid = here }
  where
    here : is_solid_at t.boxes (slice_get t.events s.placed_at.event) ≡ true
    here = (after_solid t from.event s.placed_at.event is.found).1

    after : from.event ≤ s.placed_at.event
    after = (after_solid t from.event s.placed_at.event is.found).0

    place_by : ((eqb s.placed_at.event from.event ≡ true) × (s.placed_at.event ≡ from.event)) ⊎ ((eqb s.placed_at.event from.event ≡ false) × (s.placed_at.event ≢ from.event)) → (left t s.placed_at.event + passed t from ≤ left t from.event + passed t s.placed_at) × (beyond from ≤ beyond s.placed_at)
    place_by (inl e) =
        let offset : s.placed_at.offset ≡ from.offset = begins_of faces t w from s st is ∙ ap (λ (b : Bool). cond b from.offset 0) e.0 in
        let same : s.placed_at ≡ from = ap (λ (n : ℕ). place n s.placed_at.offset) e.1 ∙ ap (place from.event) offset in
        subst (λ (p : Position). (left t p.event + passed t from ≤ left t from.event + passed t p) × (beyond from ≤ beyond p)) (sym same) (omega arith, omega arith)
    place_by (inr e) = ⊎_elim
        (λ (o : 0 < from.offset).
        let p = st.offset o in
        let at : solid_after t from.event ≡ Some from.event = solid_itself t from.event (ap (λ o. is_solid_at t.boxes o) p.2) in
        let same : Some from.event ≡ Some s.placed_at.event = sym at ∙ is.found in
        absurd (e.1 (let n : from.event ≡ s.placed_at.event = cc in sym n)))
        (λ (o : from.offset ≤ 0).
        let l = left_later t from.event s.placed_at.event after in
        let none = passed_none t from (omega arith) in
        let a = after in
        let n = e.1 in
        let more : suc from.event ≤ s.placed_at.event = less from.event s.placed_at.event a (λ g. n (sym g)) in
        let f = (beyond_low from).1 in
        let g = (beyond_low s.placed_at).0 in
        (omega arith, omega arith))
        (cases_lt 0 from.offset)
      where
        less : (x y : ℕ) → x ≤ y → x ≢ y → suc x ≤ y
        less x y low other = ⊎_elim (λ (h : x < y). omega arith) (λ (h : y ≤ x). absurd (other (omega arith))) (cases_lt x y)

    -- the solid begins where the run does, or where an event does
    placed : IsAtChar t s.placed_at
    placed = go (eqb_tells s.placed_at.event from.event)
      where
        go : ((eqb s.placed_at.event from.event ≡ true) × (s.placed_at.event ≡ from.event)) ⊎ ((eqb s.placed_at.event from.event ≡ false) × (s.placed_at.event ≢ from.event)) → IsAtChar t s.placed_at
        go (inl e) =
            let offset : s.placed_at.offset ≡ from.offset = begins_of faces t w from s st is ∙ ap (λ (b : Bool). cond b from.offset 0) e.0 in
            let same : s.placed_at ≡ from = ap (λ (n : ℕ). place n s.placed_at.offset) e.1 ∙ ap (place from.event) offset in
            subst (IsAtChar t) (sym same) char
        go (inr e) =
            let offset : s.placed_at.offset ≡ 0 = begins_of faces t w from s st is ∙ ap (λ (b : Bool). cond b from.offset 0) e.0 in
            let same : s.placed_at ≡ place s.placed_at.event 0 = ap (place s.placed_at.event) offset in
            subst (IsAtChar t) (sym same) (begin_at_char t s.placed_at.event texts)

    Taken : Position → Type 0
    Taken p = (suc (left t p.event) + passed t s.placed_at ≤ left t s.placed_at.event + passed t p) × (suc s.placed_at.event ≤ beyond p) × IsAtChar t p

    edge : (e : Event) → slice_get t.events s.placed_at.event ≡ Some e → ((l : ℕ) → e ≡ Leaf l → ⊥) → s.placed_at.offset ≡ 0 → s.end ≡ place (s.placed_at.event + 1) 0 → Taken s.end
    edge e at other begins ends =
        let h = edge_here t s.placed_at.event e at (sym (ap (λ o. is_solid_at t.boxes o) at) ∙ here) other in
        let none = passed_none t s.placed_at begins in
        let next = passed_none t (place (s.placed_at.event + 1) 0) refl in
        subst Taken (sym ends) (omega arith, omega arith, begin_at_char t (s.placed_at.event + 1) texts)

    line : (l : IsLineSolid faces t w from s) → Taken s.end
    line l =
        let f = found_of faces t w from s tree st is.found l in
        let text = lines_go_on faces l.leaf s.placed_at.offset (leaf_measure t w s.placed_at.event) l.line_of f.inside l.fills in
        let stands = end_stands l.leaf f.good (texts s.placed_at.event l.number l.leaf l.names l.has) s.placed_at.offset l.line_of.to f.inside l.fills.ends in
        to_by (eqb_tells l.line_of.to (length l.leaf.text)) l.ends text.0 text.1 f.inside stands
      where
        size : left t s.placed_at.event ≡ char_count l.leaf.text + left t (suc s.placed_at.event)
        size = line_here t s.placed_at.event l.number l.leaf l.names l.has

        same_text : text_at t s.placed_at.event ≡ l.leaf.text
        same_text = text_here t s.placed_at.event l.number l.leaf l.names l.has

        begins : passed t s.placed_at ≡ count_to l.leaf.text s.placed_at.offset
        begins = ap (λ (bs : List ℕ). count_to bs s.placed_at.offset) same_text

        more : (to : ℕ) → s.placed_at.offset < to → s.placed_at.offset < length l.leaf.text → suc (passed t s.placed_at) ≤ count_to l.leaf.text to
        more to less inside =
            let start = starts_char l.leaf.text s.placed_at.offset (placed l.number l.leaf l.names l.has) inside in
            let count = count_more l.leaf.text s.placed_at.offset to less inside start in
            let b = begins in
            omega arith

        to_by : {to : ℕ} → ((eqb to (length l.leaf.text) ≡ true) × (to ≡ length l.leaf.text)) ⊎ ((eqb to (length l.leaf.text) ≡ false) × (to ≢ length l.leaf.text)) → s.end ≡ end_of s.placed_at.event (length l.leaf.text) to → s.placed_at.offset < to → to ≤ length l.leaf.text → s.placed_at.offset < length l.leaf.text → IsCharBoundary l.leaf.text to → Taken s.end
        to_by {to} (inl h) ends a b inside stands =
            let e : s.end ≡ place (suc s.placed_at.event) 0 = ends ∙ ap (λ (x : Bool). cond x (record { event = s.placed_at.event + 1; offset = 0 }) (record { event = s.placed_at.event; offset = to })) h.0 ∙ ap (λ (n : ℕ). place n 0) (add-one s.placed_at.event) in
            let one = more (length l.leaf.text) inside inside in
            let all = count_all l.leaf.text in
            let next = passed_none t (place (suc s.placed_at.event) 0) refl in
            let z = size in
            subst Taken (sym e) (omega arith, omega arith, begin_at_char t (suc s.placed_at.event) texts)
        to_by {to} (inr h) ends a b inside stands =
            let e : s.end ≡ place s.placed_at.event to = ends ∙ ap (λ (x : Bool). cond x (record { event = s.placed_at.event + 1; offset = 0 }) (record { event = s.placed_at.event; offset = to })) h.0 in
            let far = beyond_in (place s.placed_at.event to) (omega arith) in
            let one = more to a inside in
            let there : passed t (place s.placed_at.event to) ≡ count_to l.leaf.text to = ap (λ (bs : List ℕ). count_to bs to) same_text in
            subst Taken (sym e) (omega arith, omega arith, λ n leaf names has. subst (λ (x : LeafData). IsCharBoundary x.text to) (one_leaf n leaf names has) stands)
          where
            one_leaf : (n : ℕ) (leaf : LeafData) → slice_get t.events s.placed_at.event ≡ Some (Leaf n) → slice_get t.leaves n ≡ Some leaf → l.leaf ≡ leaf
            one_leaf n leaf names has =
                let named : Some (Leaf l.number) ≡ Some (Leaf n) = sym l.names ∙ names in
                let number : l.number ≡ n = cc in
                let same : Some l.leaf ≡ Some leaf = sym l.has ∙ ap (slice_get t.leaves) number ∙ has in
                cc

    by : IsContent faces t w from s → Taken s.end
    by (of_line l) = line l
    by (of_open b e l) = edge (Opens b) e (λ n g. cc) l.begins l.ends
    by (of_close b e l) = edge (Closes b) e (λ n g. cc) l.begins l.ends

-- what a number of solids take before one of them
pub record Reached (t : Tree) (from : Position) (n : ℕ) (v : SolidView) : Type 0 where
  pub taken : n + left t v.placed_at.event + passed t from ≤ left t from.event + passed t v.placed_at
  pub some : suc (passed t v.placed_at) ≤ left t v.placed_at.event
  pub at_char : IsAtChar t v.placed_at
  pub grows : beyond from ≤ beyond v.placed_at
  pub solid : is_solid_at t.boxes (slice_get t.events v.placed_at.event) ≡ true

pub reached : (faces : List FontFace) (t : Tree) (w : ℤ) → IsTree t → HaveTexts t → (from : Position) (solids : List SolidView) (n : ℕ) (v : SolidView) → Stands t from → IsAtChar t from → IsRemainder faces t w from solids → slice_get solids n ≡ Some v → Reached t from n v
reached faces t w tree texts from [] n v st char r e = absurd (cc)
reached faces t w tree texts from (x ∷ xs) zero v st char r e =
    let same : x ≡ v = cc in
    let a = solid_takes faces t w from x tree texts st char r.1.0 in
    let low = passed_low t x.end (solid_stands faces t w from x tree st r.1.0) in
    let b = a.takes in
    let c = a.later in
    subst (Reached t from 0) same (record { taken = omega arith; some = omega arith; at_char = a.placed; grows = a.grows; solid = a.solid })
reached faces t w tree texts from (x ∷ xs) (suc n) v st char r e =
    let a = solid_takes faces t w from x tree texts st char r.1.0 in
    let there = subst (Stands t) (sym r.1.1) (solid_stands faces t w from x tree st r.1.0) in
    let char_there = subst (IsAtChar t) (sym r.1.1) a.at_char in
    let more = subst (λ (p : Position). Reached t p n v) r.1.1 (reached faces t w tree texts r.0 xs n v there char_there r.2 e) in
    let b = a.takes in
    let c = a.later in
    let d = more.taken in
    let far = a.ends in
    let on = more.grows in
    let up = a.grows in
    let near = (beyond_low x.placed_at).1 in
    record { taken = omega arith; some = more.some; at_char = more.at_char; grows = omega arith; solid = more.solid }

-- a later solid stands beyond the first one
pub past_first : (faces : List FontFace) (t : Tree) (w : ℤ) → IsTree t → HaveTexts t → (from : Position) (x : SolidView) (xs : List SolidView) (n : ℕ) (v : SolidView) → Stands t from → IsAtChar t from → IsRemainder faces t w from (x ∷ xs) → slice_get (x ∷ xs) (suc n) ≡ Some v → suc x.placed_at.event ≤ beyond v.placed_at
past_first faces t w tree texts from x xs n v st char r e =
    let a = solid_takes faces t w from x tree texts st char r.1.0 in
    let there = subst (Stands t) (sym r.1.1) (solid_stands faces t w from x tree st r.1.0) in
    let char_there = subst (IsAtChar t) (sym r.1.1) a.at_char in
    let more = subst (λ (p : Position). Reached t p n v) r.1.1 (reached faces t w tree texts r.0 xs n v there char_there r.2 e) in
    let far = a.ends in
    let on = more.grows in
    omega arith

-- the edges and characters from a place on
abbrev pub rest_at : Tree → Position → ℕ
rest_at t at = left t at.event - passed t at
