-- How many notes are called before the places of a tree, and before its cuts.
use Rattle.std.proofs.Common.{◌≡◌, ◌≢◌, ◌<◌, ◌≤◌, ◌+◌, ◌-◌, ◌==◌, ◌||◌, ℕ, zero, suc, ℤ, Bool, true, false, cond, eqb, All, List, [], ◌∷◌, Option, Some, None, option_map, length, map, take, get_or, slice_get, refl, sym, ap, ◌∙◌, subst, arith, add-one, ◌⊎◌, ⊎_elim, inl, inr}
use Rattle.std.proofs.lemmas.Bool.{cases_lt, eq-eqb, ne_eqb}
use Rattle.std.proofs.lemmas.Bool.Decides.{eqb_tells, nat_tests}
use Rattle.std.proofs.lemmas.List.Elements.{All-nil, All-cons}
use Rattle.std.proofs.lemmas.List.Sums.{prefix_len-le-length, prefix_len_passes, prefix_len_stops}
use Rattle.std.proofs.lemmas.Option.{get_or_from_slice_get, slice_get-get_or, slice_get_within, slice_get-map}
use Rattle.std.specs.List.{list_any, prefix_len}
use Rattle.std.specs.Prelude.{nat_lt}
use Rattle.metrics.specs.Face.{FontFace}
use Rattle.boxes.specs.Tree.{Tree, IsTree}
use Rattle.boxes.specs.declared.flow.Note.{Note}
use Rattle.boxes.specs.declared.place.Position.{Position}
use Rattle.line_fill.proofs.EndLemmas.{lines_go_on}
use Rattle.seams.specs.Runs.{solid_before, is_solid_at}
use Rattle.seams.proofs.RunLemmas.{after_solid, before_solid}
use Rattle.cursor.specs.Remainder.{SolidView, IsSolid, IsContent, IsRemainder, leaf_measure}
use Rattle.cursor.specs.Remainder.IsContent.{of_line, of_open, of_close}
use Rattle.cursor.proofs.RemLemmas.{Stands, begins_of, found_of, place, solid_stands, solid_within}
use Rattle.cursor.proofs.PartLemmas.{before_next, solid_itself}
use Rattle.page_seq.specs.Places.{NeverFall, anchor_of, is_before}
use Rattle.page_seq.proofs.PlaceLemmas.{anchor_lower, before_lower}
use Rattle.page_seq.proofs.FinderLemmas.{before_later, before_self, before_trans}
use Rattle.note_list.specs.Calls.{called_before, end_after, end_before, start_place}
use Rattle.page_list.specs.Cuts.{place_after}
use Rattle.note_list.proofs.CallLemmas.{never_fall}

-- ---- prefixes
prefix_step : (b c : Bool) (m n : ℕ) → (b ≡ true → c ≡ true) → m ≤ n → cond b (1 + m) 0 ≤ cond c (1 + n) 0
prefix_step true true m n f h = omega arith
prefix_step true false m n f h = absurd (let e = f refl in cc)
prefix_step false true m n f h = omega arith
prefix_step false false m n f h = omega arith

pub prefix_more : {X : Type 0} (p q : X → Bool) (xs : List X) → ((x : X) → p x ≡ true → q x ≡ true) → prefix_len p xs ≤ prefix_len q xs
prefix_more p q [] f = omega arith
prefix_more p q (x ∷ xs) f = prefix_step (p x) (q x) (prefix_len p xs) (prefix_len q xs) (f x) (prefix_more p q xs f)

prefix_none : {X : Type 0} (p : X → Bool) (xs : List X) → ((x : X) → p x ≡ false) → prefix_len p xs ≡ 0
prefix_none p [] f = refl
prefix_none p (x ∷ xs) f = ap (λ (b : Bool). cond b (1 + prefix_len p xs) 0) (f x)

prefix_has : {X : Type 0} (p : X → Bool) (xs : List X) (n : ℕ) (x : X) → slice_get xs n ≡ Some x → n < prefix_len p xs → p x ≡ true
prefix_has p xs n x e h = ap p (sym (get_or_from_slice_get xs n x x e)) ∙ prefix_len_passes p xs n x h

prefix_lacks : {X : Type 0} (p : X → Bool) (xs : List X) (n : ℕ) (x : X) → slice_get xs n ≡ Some x → prefix_len p xs ≤ n → ((i : ℕ) (y : X) → i ≤ n → slice_get xs i ≡ Some y → p x ≡ true → p y ≡ true) → p x ≡ false
prefix_lacks p xs n x e h lower = by (p x) refl
  where
    inside : prefix_len p xs < length xs
    inside = let w = slice_get_within xs n x e in omega arith

    by : (b : Bool) → p x ≡ b → p x ≡ false
    by false is = is
    by true is =
        let stops = prefix_len_stops p xs x inside in
        let passes = lower (prefix_len p xs) (get_or xs (prefix_len p xs) x) h (slice_get-get_or xs (prefix_len p xs) x inside) is in
        absurd (let f : true ≡ false = sym passes ∙ stops in cc)

-- ---- the order of places

pub before_not : (a b c : Position) → is_before c b ≡ false → is_before a c ≡ false → is_before a b ≡ false
before_not a b c f g = grind (arith, nat_tests)

before_weak : (a b : Position) → is_before a b ≡ true → is_before b a ≡ false
before_weak a b f = grind (arith, nat_tests)

-- a note's anchor is no earlier than that of a note before it
anchors_order : (t : Tree) (notes : List Note) → NeverFall (map (λ n. n.call) notes) → (i n : ℕ) (x y : Note) → i ≤ n → slice_get notes i ≡ Some y → slice_get notes n ≡ Some x → is_before (anchor_of t x.call) (anchor_of t y.call) ≡ false
anchors_order t notes order i n x y h e f =
    let first : slice_get (map (λ m. m.call) notes) i ≡ Some y.call = slice_get-map (λ (m : Note). m.call) notes i ∙ ap (option_map (λ (m : Note). m.call)) e in
    let later : slice_get (map (λ m. m.call) notes) n ≡ Some x.call = slice_get-map (λ (m : Note). m.call) notes n ∙ ap (option_map (λ (m : Note). m.call)) f in
    anchor_lower t y.call x.call (never_fall (map (λ m. m.call) notes) order (n - i) i n y.call x.call (omega arith) first later)

-- ---- where the solid before a place ends

is_inside : (offset : ℕ) → 0 < offset → nat_lt 0 offset ≡ true
is_inside offset h = grind (arith, nat_tests)

end_by : (t : Tree) (event offset : ℕ) → 0 < offset → end_before t (place event offset) ≡ place event offset
end_by t event offset h = ap (λ (b : Bool). cond b (place event offset) (end_after (solid_before t event))) (is_inside offset h)

-- it is no later than the place
end_low : (t : Tree) (at : Position) → is_before at (end_before t at) ≡ false
end_low t at = by at.event at.offset
  where
    start : (event : ℕ) (o : Option ℕ) → ((p : ℕ) → o ≡ Some p → p < event) → is_before (place event 0) (end_after o) ≡ false
    start event None h = grind (arith, nat_tests)
    start event (Some p) h = let l = h p refl in grind (arith, nat_tests)

    by : (event offset : ℕ) → is_before (place event offset) (end_before t (place event offset)) ≡ false
    by event zero = start event (solid_before t event) (λ p e. (before_solid t event p e).0)
    by event (suc offset) = subst (λ (p : Position). is_before (place event (suc offset)) p ≡ false) (sym (end_by t event (suc offset) (omega arith))) (before_self (place event (suc offset)))

module _ (faces : List FontFace) (t : Tree) (w : ℤ) (tree : IsTree t) where
  -- a solid ends after it begins
  begins_before : (from : Position) (s : SolidView) → Stands t from → IsSolid faces t w from s → is_before s.placed_at s.end ≡ true
  begins_before from s st is = by is.content
    where
      edge : s.end ≡ place (s.placed_at.event + 1) 0 → is_before s.placed_at s.end ≡ true
      edge e = subst (λ (p : Position). is_before s.placed_at p ≡ true) (sym e) (grind (arith, nat_tests))

      by : IsContent faces t w from s → is_before s.placed_at s.end ≡ true
      by (of_open b e l) = edge l.ends
      by (of_close b e l) = edge l.ends
      by (of_line l) =
          let f = found_of faces t w from s tree st is.found l in
          let text = lines_go_on faces l.leaf s.placed_at.offset (leaf_measure t w s.placed_at.event) l.line_of f.inside l.fills in
          subst (λ (p : Position). is_before s.placed_at p ≡ true) (sym l.ends) (line l.line_of.to (length l.leaf.text) text.0 (l.line_of.to == length l.leaf.text))
        where
          line : (to len : ℕ) → s.placed_at.offset < to → (b : Bool) → is_before s.placed_at (cond b (record { event = s.placed_at.event + 1; offset = 0 }) (record { event = s.placed_at.event; offset = to })) ≡ true
          line to len h true = grind (arith, nat_tests)
          line to len h false = grind (arith, nat_tests)

  -- at the end of a solid it is that end
  pub end_here : (from : Position) (s : SolidView) → Stands t from → IsSolid faces t w from s → end_before t s.end ≡ s.end
  end_here from s st is = by is.content
    where
      solid : is_solid_at t.boxes (slice_get t.events s.placed_at.event) ≡ true
      solid = (after_solid t from.event s.placed_at.event is.found).1

      whole : (event : ℕ) → event ≡ s.placed_at.event + 1 → end_before t (place event 0) ≡ place event 0
      whole event e =
          let one : event ≡ suc s.placed_at.event = e ∙ add-one s.placed_at.event in
          subst (λ (k : ℕ). end_before t (place k 0) ≡ place k 0) (sym one)
          (ap (λ (b : Bool). end_after (cond b (Some s.placed_at.event) (solid_before t s.placed_at.event))) solid)

      edge : s.end ≡ place (s.placed_at.event + 1) 0 → end_before t s.end ≡ s.end
      edge e = subst (λ (p : Position). end_before t p ≡ p) (sym e) (whole (s.placed_at.event + 1) refl)

      by : IsContent faces t w from s → end_before t s.end ≡ s.end
      by (of_open b e l) = edge l.ends
      by (of_close b e l) = edge l.ends
      by (of_line l) =
          let f = found_of faces t w from s tree st is.found l in
          let text = lines_go_on faces l.leaf s.placed_at.offset (leaf_measure t w s.placed_at.event) l.line_of f.inside l.fills in
          subst (λ (p : Position). end_before t p ≡ p) (sym l.ends) (line l.line_of.to text.0 (l.line_of.to == length l.leaf.text))
        where
          line : (to : ℕ) → s.placed_at.offset < to → (b : Bool) → end_before t (cond b (record { event = s.placed_at.event + 1; offset = 0 }) (record { event = s.placed_at.event; offset = to })) ≡ cond b (record { event = s.placed_at.event + 1; offset = 0 }) (record { event = s.placed_at.event; offset = to })
          line to h true = whole (s.placed_at.event + 1) refl
          line to h false = end_by t s.placed_at.event to (omega arith)

  -- and before the next solid it is what it is at any place before that
  pub end_next : (from : Position) (s : SolidView) → Stands t from → IsSolid faces t w from s → end_before t s.placed_at ≡ end_before t from
  end_next from s st is = by (eqb_tells s.placed_at.event from.event)
    where
      after : from.event ≤ s.placed_at.event
      after = (after_solid t from.event s.placed_at.event is.found).0

      by : ((eqb s.placed_at.event from.event ≡ true) × (s.placed_at.event ≡ from.event)) ⊎ ((eqb s.placed_at.event from.event ≡ false) × (s.placed_at.event ≢ from.event)) → end_before t s.placed_at ≡ end_before t from
      by (inl e) =
          let offset : s.placed_at.offset ≡ from.offset = begins_of faces t w from s st is ∙ ap (λ (b : Bool). cond b from.offset 0) e.0 in
          ap (end_before t) (ap (λ (n : ℕ). place n s.placed_at.offset) e.1 ∙ ap (place from.event) offset)
      by (inr e) = ⊎_elim
          (λ (o : 0 < from.offset).
          let p = st.offset o in
          let leaf : is_solid_at t.boxes (slice_get t.events from.event) ≡ true = ap (is_solid_at t.boxes) p.2 in
          let same : Some s.placed_at.event ≡ Some from.event = sym is.found ∙ solid_itself t from.event leaf in
          absurd (e.1 (cc)))
          (λ (o : from.offset ≤ 0).
          let low = after in
          let offset : s.placed_at.offset ≡ 0 = begins_of faces t w from s st is ∙ ap (λ (b : Bool). cond b from.offset 0) e.0 in
          let none : 0 ≡ from.offset = omega arith in
          ap (λ (n : ℕ). end_before t (place s.placed_at.event n)) offset
          ∙ ap end_after (before_next t (s.placed_at.event - from.event) from.event s.placed_at.event (omega arith) is.found)
          ∙ ap (λ (n : ℕ). end_before t (place from.event n)) none)
          (cases_lt 0 from.offset)

  end_after_place : (from : Position) (s : SolidView) → Stands t from → IsSolid faces t w from s → is_before s.end (end_before t from) ≡ false
  end_after_place from s st is =
      let low : is_before s.placed_at (end_before t from) ≡ false = subst (λ (p : Position). is_before s.placed_at p ≡ false) (end_next from s st is) (end_low t s.placed_at) in
      before_trans (end_before t from) s.placed_at s.end low (before_weak s.placed_at s.end (begins_before from s st is))

  -- ---- the ends of some solids, where the solid before a cut ends
  pub record EndBy (from : Position) (solids : List SolidView) (end : Position) : Type 0 where
    pub low : is_before end (end_before t from) ≡ false
    pub ends : All (λ (s : SolidView). is_before end s.end ≡ false) solids
    pub none : length solids ≡ 0 → end ≡ end_before t from
    pub last : 0 < length solids → (a : Position) → is_before a end ≡ true → list_any (λ (s : SolidView). is_before a s.end) solids ≡ true

  one_more : (from : Position) (x : SolidView) (to : Position) (xs : List SolidView) (end : Position) → Stands t from → IsSolid faces t w from x → to ≡ x.end → EndBy to xs end → EndBy from (x ∷ xs) end
  one_more from x to xs end st is next more = record {
    low = before_trans (end_before t from) x.end end (end_after_place from x st is) here;
    ends = All-cons (λ (v : SolidView). is_before end v.end ≡ false) x xs here more.ends;
    none = λ h. absurd (omega arith);
    last = λ h a b. by xs a more.none (λ l. more.last l a b) b;
  }
    where
      at_end : end_before t to ≡ x.end
      at_end = ap (end_before t) next ∙ end_here from x st is

      here : is_before end x.end ≡ false
      here = subst (λ (p : Position). is_before end p ≡ false) at_end more.low

      either : (b : Bool) → (b || true) ≡ true
      either true = refl
      either false = refl

      by : (ys : List SolidView) (a : Position) → (length ys ≡ 0 → end ≡ end_before t to) → (0 < length ys → list_any (λ (v : SolidView). is_before a v.end) ys ≡ true) → is_before a end ≡ true → (is_before a x.end || list_any (λ (v : SolidView). is_before a v.end) ys) ≡ true
      by [] a none last b = ap (λ (c : Bool). c || false) (subst (λ (p : Position). is_before a p ≡ true) (none refl ∙ at_end) b)
      by (v ∷ ys) a none last b = ap (λ (c : Bool). is_before a x.end || c) (last (omega arith)) ∙ either (is_before a x.end)

  pub cut_ends : (from : Position) (solids : List SolidView) (count : ℕ) (s : SolidView) → Stands t from → IsRemainder faces t w from solids → slice_get solids count ≡ Some s → EndBy from (take count solids) (end_before t s.placed_at)
  cut_ends from [] count s st r e = absurd (cc)
  cut_ends from (x ∷ solids) zero s st r e =
      let same : x ≡ s = cc in
      let end : end_before t s.placed_at ≡ end_before t from = subst (λ (v : SolidView). end_before t v.placed_at ≡ end_before t from) same (end_next from x st r.1.0) in
      record {
        low = subst (λ (p : Position). is_before p (end_before t from) ≡ false) (sym end) (before_self (end_before t from));
        ends = All-nil (λ (v : SolidView). is_before (end_before t s.placed_at) v.end ≡ false);
        none = λ h. end;
        last = λ h. absurd (omega arith);
      }
  cut_ends from (x ∷ solids) (suc n) s st r e =
      one_more from x r.0 (take n solids) (end_before t s.placed_at) st r.1.0 r.1.1
      (cut_ends r.0 solids n s (subst (Stands t) (sym r.1.1) (solid_stands faces t w from x tree st r.1.0)) r.2 e)

-- ---- how many notes are called
module _ (t : Tree) (notes : List Note) where
  pub called_at : (at : Position) → at.event < length t.events → called_before t notes at ≡ prefix_len (λ n. is_before (anchor_of t n.call) (end_before t at)) notes
  called_at at h = ap (λ (b : Bool). cond b (length notes) (prefix_len (λ (n : Note). is_before (anchor_of t n.call) (end_before t at)) notes)) (ne_eqb at.event (length t.events) (λ e. omega arith))

  -- all, before the tree's end
  pub called_end : called_before t notes (place_after t None) ≡ length notes
  called_end = ap (λ (b : Bool). cond b (length notes) (prefix_len (λ (n : Note). is_before (anchor_of t n.call) (end_before t (place_after t None))) notes)) (eq-eqb (length t.events) (length t.events) refl)

  pub called_within : (at : Position) → called_before t notes at ≤ length notes
  called_within at = by (at.event == length t.events)
    where
      by : (b : Bool) → cond b (length notes) (prefix_len (λ (n : Note). is_before (anchor_of t n.call) (end_before t at)) notes) ≤ length notes
      by true = omega arith
      by false = prefix_len-le-length (λ (n : Note). is_before (anchor_of t n.call) (end_before t at)) notes

  -- none, before its start
  pub called_start : 0 < length t.events → called_before t notes start_place ≡ 0
  called_start some = called_at start_place some ∙ prefix_none (λ (n : Note). is_before (anchor_of t n.call) (end_before t start_place)) notes (λ n. none (anchor_of t n.call))
    where
      none : (a : Position) → is_before a start_place ≡ false
      none a = grind (arith, nat_tests)

  -- more before a later place
  pub called_later : (a b : Position) → a.event < length t.events → b.event < length t.events → is_before (end_before t b) (end_before t a) ≡ false → called_before t notes a ≤ called_before t notes b
  called_later a b f g low =
      let p = prefix_more (λ (n : Note). is_before (anchor_of t n.call) (end_before t a)) (λ (n : Note). is_before (anchor_of t n.call) (end_before t b)) notes (λ n is. before_later (anchor_of t n.call) (end_before t a) (end_before t b) low is) in
      rw (called_at a f, called_at b g) p

  -- a note is called before a place, if the solid before the place ends after its anchor
  module _ (n : ℕ) (note : Note) (has : slice_get notes n ≡ Some note) (at : Position) (inside : at.event < length t.events) where
    pub called_yes : n < called_before t notes at → is_before (anchor_of t note.call) (end_before t at) ≡ true
    called_yes h = prefix_has (λ (m : Note). is_before (anchor_of t m.call) (end_before t at)) notes n note has (rw (called_at at inside) at h)

    pub called_no : NeverFall (map (λ m. m.call) notes) → called_before t notes at ≤ n → is_before (anchor_of t note.call) (end_before t at) ≡ false
    called_no order h = prefix_lacks (λ (m : Note). is_before (anchor_of t m.call) (end_before t at)) notes n note has (rw (called_at at inside) at h)
        (λ i y low e is. before_lower (anchor_of t y.call) (anchor_of t note.call) (end_before t at) (anchors_order t notes order i n note y low e has) is)

-- ---- at the cut of a page
pub inside_rest : (faces : List FontFace) (t : Tree) (w : ℤ) (from : Position) (solids : List SolidView) (k : ℕ) (s : SolidView) → IsRemainder faces t w from solids → slice_get solids k ≡ Some s → (from.event < length t.events) × (s.placed_at.event < length t.events)
inside_rest faces t w from [] k s r e = absurd (cc)
inside_rest faces t w from (x ∷ solids) zero s r e =
    let same : x ≡ s = cc in
    let low = (after_solid t from.event x.placed_at.event r.1.0.found).0 in
    let in_tree = solid_within t from.event x.placed_at.event r.1.0.found in
    (omega arith, subst (λ (v : SolidView). v.placed_at.event < length t.events) same in_tree)
inside_rest faces t w from (x ∷ solids) (suc k) s r e =
    let low = (after_solid t from.event x.placed_at.event r.1.0.found).0 in
    let in_tree = solid_within t from.event x.placed_at.event r.1.0.found in
    (omega arith, (inside_rest faces t w r.0 solids k s r.2 e).1)

-- the notes that are called before a cut are those before its page, and more
pub called_more : (faces : List FontFace) (t : Tree) (w : ℤ) (notes : List Note) (from : Position) (solids : List SolidView) (count : ℕ) → IsTree t → Stands t from → IsRemainder faces t w from solids → called_before t notes from ≤ called_before t notes (place_after t (slice_get solids count))
called_more faces t w notes from solids count tree st r = by (slice_get solids count) refl
  where
    by : (o : Option SolidView) → slice_get solids count ≡ o → called_before t notes from ≤ called_before t notes (place_after t o)
    by None e = rw (called_end t notes) (called_within t notes from)
    by (Some s) e =
        let inside = inside_rest faces t w from solids count s r e in
        called_later t notes from s.placed_at inside.0 inside.1 (cut_ends faces t w tree from solids count s st r e).low
