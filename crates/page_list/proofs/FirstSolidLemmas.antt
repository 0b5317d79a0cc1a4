-- Which of a page's notes have their first solids on it, and which have none.
use Rattle.std.proofs.Common.{◌≡◌, ◌≢◌, ◌<◌, ◌≤◌, ◌+◌, ◌-◌, ◌==◌, ◌||◌, ℕ, zero, suc, ℤ, ◌+ℤ◌, Bool, true, false, not, cond, eqb, All, is_some, List, [], ◌∷◌, ◌++◌, Option, Some, None, map, take, slice_get, refl, sym, ap, ◌∙◌, subst, arith, ◌⊎◌, ⊎_elim, inl, inr}
use Rattle.std.proofs.lemmas.Bool.{cases_lt, eq-eqb}
use Rattle.std.proofs.lemmas.Bool.Decides.{eqb_tells}
use Rattle.std.proofs.lemmas.List.Elements.{All-nil, All-append, All-map}
use Rattle.std.specs.List.{list_any, range_with_len}
use Rattle.std.specs.Prelude.{◌&&◌}
use Rattle.std.proofs.Math.Bool.{or-true}
use Rattle.metrics.specs.Face.{FontFace}
use Rattle.boxes.specs.Tree.{Tree}
use Rattle.boxes.specs.declared.flow.Note.{Note}
use Rattle.boxes.specs.declared.page.Placed.{Placed}
use Rattle.boxes.specs.declared.place.Event.{Event}
use Rattle.boxes.specs.declared.props.BoxProps.{BoxProps}
use Rattle.seams.specs.Runs.{is_solid, is_solid_at, solid_after, solid_before, solid_from}
use Rattle.seams.proofs.RunLemmas.{after_solid}
use Rattle.cursor.specs.Remainder.{SolidView, IsRemainder, IsSolid}
use Rattle.cursor.proofs.RemLemmas.{begins_of}
use Rattle.cursor.proofs.PartLemmas.{before_next}
use Rattle.notes.specs.Notes.{last_begin}
use Rattle.note_list.specs.Calls.{start_place}
use Rattle.note_list.specs.Lists.{NotePart, AreNoted, called_parts, is_first, noted, placed_notes, note_rows}
use Rattle.note_list.specs.declared.solid.NotedSolid.{NotedSolid}
use Rattle.page_list.proofs.CarriedLemmas.{called_part}
use Rattle.page_list.proofs.NextLemmas.{start_stands}

-- ---- a tree without solids
none_at : (boxes : List BoxProps) (es : List Event) (k : ℕ) → solid_from boxes es k ≡ None → (i : ℕ) → is_solid_at boxes (slice_get es i) ≡ false
none_at boxes [] k e i = refl
none_at boxes (x ∷ es) k e i = by (is_solid boxes x) refl e i (none_at boxes es (suc k))
  where
    by : (b : Bool) → is_solid boxes x ≡ b → cond b (Some k) (solid_from boxes es (suc k)) ≡ None → (j : ℕ) → (solid_from boxes es (suc k) ≡ None → (l : ℕ) → is_solid_at boxes (slice_get es l) ≡ false) → is_solid_at boxes (slice_get (x ∷ es) j) ≡ false
    by true is f j more = absurd (cc)
    by false is f zero more = is
    by false is f (suc j) more = more f j

pub none_later : (t : Tree) → solid_after t 0 ≡ None → (k : ℕ) → solid_after t k ≡ None
none_later t none k = go (solid_after t k) refl
  where
    go : (o : Option ℕ) → solid_after t k ≡ o → solid_after t k ≡ None
    go None e = e
    go (Some m) e = absurd (let f : true ≡ false = sym (after_solid t k m e).1 ∙ none_at t.boxes t.events 0 none m in cc)

-- ---- the notes of a page, by their list
pub placed_any : (n : ℕ) (bottom : ℤ) (list : List NotedSolid) → list_any (λ (s : ℕ × Placed). s.0 == n) (placed_notes bottom list) ≡ list_any (λ (s : NotedSolid). s.note == n) list
placed_any n bottom [] = refl
placed_any n bottom (s ∷ list) = ap (λ (b : Bool). (s.note == n) || b) (placed_any n ((bottom +ℤ s.row.gap) +ℤ s.row.height) list)

-- ---- a note's first solid, which begins it
-- so many solids of a list that all notes begin that begin there, with a note among them
abbrev pub PlacesNote : ℕ → ℕ → List NotedSolid → Type 0
PlacesNote n m list = (number : ℕ) → last_begin m (note_rows list) ≤ m + number → list_any (λ (s : NotedSolid). s.note == n) (take number list) ≡ true

places_later : (n m : ℕ) (x : NotedSolid) (xs : List NotedSolid) → PlacesNote n (suc m) xs → PlacesNote n m (x ∷ xs)
places_later n m x xs more zero h = more zero (omega arith)
places_later n m x xs more (suc k) h = ap (λ (b : Bool). (x.note == n) || b) (more k (omega arith)) ∙ or-true (x.note == n)

places_here : (n m : ℕ) (x : NotedSolid) (xs : List NotedSolid) → (x.note == n) ≡ true → x.row.begins ≡ true → PlacesNote n m (x ∷ xs)
places_here n m x xs is begins zero h = absurd (let e : cond x.row.begins (suc m) 0 ≡ suc m = ap (λ (b : Bool). cond b (suc m) 0) begins in omega arith)
places_here n m x xs is begins (suc k) h = ap (λ (b : Bool). b || list_any (λ (s : NotedSolid). s.note == n) (take k xs)) is

places_before : (n : ℕ) (xs ys : List NotedSolid) → ((m : ℕ) → PlacesNote n m ys) → (m : ℕ) → PlacesNote n m (xs ++ ys)
places_before n [] ys more m = more m
places_before n (x ∷ xs) ys more m = places_later n m x (xs ++ ys) (places_before n xs ys more (suc m))

module _ (faces : List FontFace) (notes : List Note) (w : ℤ) (n : ℕ) where
  -- a note begins in a list, or its body has no solids
  abbrev pub Starts : List NotedSolid → Type 0
  Starts list = ((m : ℕ) → PlacesNote n m list) ⊎ ((note : Note) × (slice_get notes n ≡ Some note) × (solid_after note.body 0 ≡ None))

  starts_before : (xs ys list : List NotedSolid) → list ≡ xs ++ ys → Starts ys → Starts list
  starts_before xs ys list is (inl more) = inl (λ m. subst (PlacesNote n m) (sym is) (places_before n xs ys more m))
  starts_before xs ys list is (inr none) = inr none

  -- the first solid of a body is one
  first_here : (body : Tree) (s : SolidView) → IsSolid faces body w start_place s → is_first body s.placed_at ≡ true
  first_here body s is =
      let before : solid_before body s.placed_at.event ≡ None = before_next body s.placed_at.event 0 s.placed_at.event (omega arith) is.found in
      let offset : s.placed_at.offset ≡ 0 = begins_of faces body w start_place s (start_stands body) is ∙ same (eqb s.placed_at.event 0) in
      ap (λ (b : Bool). b && not (is_some (solid_before body s.placed_at.event))) (eq-eqb s.placed_at.offset 0 offset) ∙ ap (λ (o : Option ℕ). not (is_some o)) before
    where
      same : (b : Bool) → ◌≡◌ {A = ℕ} (cond b 0 0) 0
      same true = refl
      same false = refl

  starts_part : (note : Note) (solids : List SolidView) (rest list : List NotedSolid) → slice_get notes n ≡ Some note → IsRemainder faces note.body w start_place solids → list ≡ map (noted note.body (called_part n)) solids ++ rest → Starts list
  starts_part note [] rest list has r is = inr (note, has, r)
  starts_part note (s ∷ solids) rest list has r is = inl (λ m. subst (PlacesNote n m) (sym is)
      (places_here n m (noted note.body (called_part n) s) (map (noted note.body (called_part n)) solids ++ rest) (eq-eqb n n refl) (first_here note.body s r.1.0)))

  starts_range : (k from : ℕ) (list : List NotedSolid) → from ≤ n → n < from + k → AreNoted faces notes w (map called_part (range_with_len from k)) list → Starts list
  starts_range zero from list low high are = absurd (omega arith)
  starts_range (suc k) from list low high (note, has, solids, rem, rest, more, is) = ⊎_elim
      (λ (l : from < n).
      let one : from + 1 ≡ suc from = omega arith in
      starts_before (map (noted note.body (called_part from)) solids) rest list is
      (starts_range k (suc from) rest (omega arith) (omega arith) (subst (λ (i : ℕ). AreNoted faces notes w (map called_part (range_with_len i k)) rest) one more)))
      (λ (l : n ≤ from).
      let same : from ≡ n = omega arith in
      starts_part note solids rest list (ap (slice_get notes) (sym same) ∙ has) rem (is ∙ ap (λ (i : ℕ). map (noted note.body (called_part i)) solids ++ rest) same))
      (cases_lt from n)

  pub starts_called : (parts : List NotePart) (from to : ℕ) (list : List NotedSolid) → from ≤ n → n < to → AreNoted faces notes w (parts ++ called_parts from to) list → Starts list
  starts_called [] from to list low high are = starts_range (to - from) from list low (omega arith) are
  starts_called (p ∷ parts) from to list low high (note, has, solids, rem, rest, more, is) =
      starts_before (map (noted note.body p) solids) rest list is (starts_called parts from to rest low high more)

  -- a body without solids has none in any list
  pub none_noted : (note : Note) → slice_get notes n ≡ Some note → solid_after note.body 0 ≡ None → (parts : List NotePart) (list : List NotedSolid) → AreNoted faces notes w parts list → All (λ (s : NotedSolid). (s.note == n) ≡ false) list
  none_noted note has none [] list are = subst (All (λ (s : NotedSolid). (s.note == n) ≡ false)) (sym are) (All-nil (λ (s : NotedSolid). (s.note == n) ≡ false))
  none_noted note has none (p ∷ parts) list (x, has', solids, rem, rest, more, is) =
      subst (All (λ (s : NotedSolid). (s.note == n) ≡ false)) (sym is)
      (All-append (λ (s : NotedSolid). (s.note == n) ≡ false) (map (noted x.body p) solids) rest (own (eqb_tells p.note n) solids rem) (none_noted note has none parts rest more))
    where
      own : ((eqb p.note n ≡ true) × (p.note ≡ n)) ⊎ ((eqb p.note n ≡ false) × (p.note ≢ n)) → (ss : List SolidView) → IsRemainder faces x.body w p.at ss → All (λ (s : NotedSolid). (s.note == n) ≡ false) (map (noted x.body p) ss)
      own (inl e) [] r = All-nil (λ (s : NotedSolid). (s.note == n) ≡ false)
      own (inl e) (s ∷ ss) r = absurd (
          let same : Some x ≡ Some note = sym has' ∙ ap (slice_get notes) e.1 ∙ has in
          let body : x ≡ note = cc in
          let f : Some s.placed_at.event ≡ None = sym r.1.0.found ∙ ap (λ (y : Note). solid_after y.body p.at.event) body ∙ none_later note.body none p.at.event in
          cc)
      own (inr e) ss r = All-map (λ (s : NotedSolid). (s.note == n) ≡ false) (noted x.body p) ss (λ k d h. e.0)
