-- What is read of a page's own list, what of it is placed, and what is left.
use Rattle.std.proofs.Common.{◌≡◌, ℕ, zero, suc, ◌+◌, ◌-◌, ◌<◌, ◌≤◌, ◌==◌, ◌⊎◌, inl, inr, ⊎_elim, ℤ, pos, neg_ℤ, ◌*◌, ◌^◌, ◌+ℤ◌, ◌≤ℤ◌, ◌<ℤ◌, nat_le, nat_lt, min, max, Bool, true, false, cond, List, [], ◌∷◌, ◌++◌, Option, Some, None, All, IfSome, length, map, take, drop, get_or, slice_get, refl, sym, ap, ◌∙◌, subst, arith}
use Rattle.std.specs.List.{flat_map, range_with_len}
use Rattle.std.proofs.lemmas.Bool.{cases_lt, ne_eqb}
use Rattle.std.proofs.lemmas.Bool.Decides.{nat_tests}
use Rattle.std.proofs.lemmas.Int.{ints}
use Rattle.std.proofs.lemmas.List.{append-nil, append_assoc, length-map, map-append}
use Rattle.std.proofs.lemmas.List.Elements.{All-append, All-cons, All-nil}
use Rattle.std.proofs.lemmas.List.FromFn.{map-range_with_len_more}
use Rattle.bk_num.proofs.ListLemmas.{slice_get_at, all-get, head-same, tail-same, get-taken}
use Rattle.metrics.specs.Face.{FontFace}
use Rattle.boxes.specs.declared.flow.Note.{Note}
use Rattle.boxes.specs.declared.page.Placed.{Placed}
use Rattle.boxes.specs.declared.place.Position.{Position}
use Rattle.cursor.specs.Remainder.{SolidView}
use Rattle.notes.specs.declared.solid.NoteSolid.{NoteSolid}
use Rattle.bk_num.specs.Limits.{separator}
use Rattle.notes.specs.Notes.{IsCarryCount, IsPlaced, IsSmallNote, area_of, must_of}
use Rattle.cursor.proofs.RemLemmas.{holds_next, solid_within}
use Rattle.cursor.proofs.PartLemmas.{solid_itself}
use Rattle.seams.specs.Runs.{solid_after}
use Rattle.seams.proofs.RunLemmas.{after_solid}
use Rattle.notes.specs.Near.{IsNearSolid}
use Rattle.note_list.specs.Calls.{start_place}
use Rattle.note_list.specs.Conditions.{NotesAscend, IsAtSolid, IsHeld}
use Rattle.note_list.specs.Left.{left_after_last, left_at, left_from, left_in, left_of_last, left_part, next_of, whole_notes}
use Rattle.note_list.specs.Lists.{AreNoted, NotePart, called_parts, carried_parts, left_of, noted, placed_notes, note_rows}
use Rattle.note_list.specs.Places.{IsPlacing, least_of}
use Rattle.note_list.specs.Reads.{IsReadFor, IsReady}
use Rattle.note_list.specs.declared.carried.Carried.{Carried}
use Rattle.note_list.specs.declared.list.NoteList.{NoteList}
use Rattle.note_list.specs.declared.list.PlacedList.{PlacedList}
use Rattle.note_list.specs.declared.solid.NotedSolid.{NotedSolid}
use Rattle.note_list.proofs.LeftLemmas.{Rise, left_none, left_some, start_of}
use Rattle.note_list.proofs.NotedLemmas.{called_held, called_of, carried_held, noted_split, noted_unique, start_held}
use Rattle.note_list.proofs.PlaceLemmas.{must_prefix, placed_prefix}

abbrev pub IsBelow : ℕ → NotedSolid → Type 0
IsBelow to s = s.note < to

abbrev pub IsFrom : ℕ → NotedSolid → Type 0
IsFrom to s = to ≤ s.note

-- of a list that is followed by later notes, all is read or a prefix
pub record IsCut (list solids more : List NotedSolid) (read : ℕ) : Type 0 where
  pub rest : List NotedSolid
  pub all : take read solids ≡ solids
  pub is : list ≡ solids ++ rest
  pub later : List NotedSolid
  pub more_is : more ≡ rest ++ later

pub parted : (to : ℕ) (list later solids more : List NotedSolid) (read : ℕ) → list ++ later ≡ solids ++ more → All (IsBelow to) list → All (IsFrom to) later → read ≤ length solids → All (IsBelow to) (take read solids) → ((s : NotedSolid) → slice_get solids read ≡ Some s → to ≤ s.note) → (list ≡ take read solids) ⊎ IsCut list solids more read
parted to [] later [] more zero e below from within low stops = inl refl
parted to [] later [] more (suc read) e below from within low stops = absurd (omega arith)
parted to [] later (s ∷ solids) more zero e below from within low stops = inl refl
parted to [] later (s ∷ solids) more (suc read) e below from within low stops =
    let first : All (IsFrom to) (s ∷ (solids ++ more)) = subst (All (IsFrom to)) e from in
    let high : to ≤ s.note = first 0 s (omega arith) in
    let less : s.note < to = low 0 s (omega arith) in
    absurd (omega arith)
parted to (x ∷ list) later [] more zero e below from within low stops = inr (record { rest = x ∷ list; all = refl; is = refl; later = later; more_is = sym e })
parted to (x ∷ list) later [] more (suc read) e below from within low stops = absurd (omega arith)
parted to (x ∷ list) later (s ∷ solids) more zero e below from within low stops =
    let high : to ≤ s.note = stops s refl in
    let less : x.note < to = below 0 x (omega arith) in
    let same : x ≡ s = head-same e in
    let number : x.note ≡ s.note = ap (λ (y : NotedSolid). y.note) same in
    absurd (omega arith)
parted to (x ∷ list) later (s ∷ solids) more (suc read) e below from within low stops =
    ⊎_elim
    (λ (h : list ≡ take read solids). inl (ap (λ (xs : List NotedSolid). x ∷ xs) h ∙ ap (λ (y : NotedSolid). y ∷ take read solids) (head-same e)))
    (λ (h : IsCut list solids more read). inr (record {
      rest = h.rest;
      all = ap (λ (xs : List NotedSolid). s ∷ xs) h.all;
      is = ap (λ (xs : List NotedSolid). x ∷ xs) h.is ∙ ap (λ (y : NotedSolid). y ∷ (solids ++ h.rest)) (head-same e);
      later = h.later;
      more_is = h.more_is;
    }))
    (parted to list later solids more read (tail-same e) (λ k d l. below (suc k) d (omega arith)) from (omega arith) (λ k d l. low (suc k) d (omega arith)) stops)

-- ---- numbers

-- the notes of a list are those of its parts
pub noted_high : (faces : List FontFace) (notes : List Note) (width : ℤ) (to : ℕ) (parts : List NotePart) (list : List NotedSolid) → All (λ p. p.note < to) parts → AreNoted faces notes width parts list → All (IsBelow to) list
noted_high faces notes width to [] list high are = subst (All (IsBelow to)) (sym are) (All-nil (IsBelow to))
noted_high faces notes width to (p ∷ parts) list high (note, has, solids, rem, rest, more, is) =
    subst (All (IsBelow to)) (sym is) (All-append (IsBelow to) (map (noted note.body p) solids) rest (own solids) (noted_high faces notes width to parts rest (λ k d l. high (suc k) d (omega arith)) more))
  where
    own : (ss : List SolidView) → All (IsBelow to) (map (noted note.body p) ss)
    own [] = All-nil (IsBelow to)
    own (s ∷ ss) = All-cons (IsBelow to) (noted note.body p s) (map (noted note.body p) ss) (high 0 p (omega arith)) (own ss)

-- notes whose numbers ascend from one on, below another
abbrev pub RiseBy : ℕ → ℕ → List Carried → Type 0
RiseBy low high [] = low ≤ high
RiseBy low high (c ∷ cs) = (low ≤ c.note) × RiseBy (suc c.note) high cs

pub rise_within : (low high : ℕ) (cs : List Carried) → RiseBy low high cs → low ≤ high
rise_within low high [] r = r
rise_within low high (c ∷ cs) r = let l = r.0 in let w = rise_within (suc c.note) high cs r.1 in omega arith

pub rise_lower : (less low high : ℕ) (cs : List Carried) → less ≤ low → RiseBy low high cs → RiseBy less high cs
rise_lower less low high [] h r = omega arith
rise_lower less low high (c ∷ cs) h r = (let l = r.0 in omega arith, r.1)

rise_append : (low mid high : ℕ) (cs ds : List Carried) → RiseBy low mid cs → RiseBy mid high ds → RiseBy low high (cs ++ ds)
rise_append low mid high [] ds r q = rise_lower low mid high ds r q
rise_append low mid high (c ∷ cs) ds r q = (r.0, rise_append (suc c.note) mid high cs ds r.1 q)

pub rise_carried : (low high : ℕ) (cs : List Carried) → low ≤ high → ((c : Carried) → slice_get cs 0 ≡ Some c → low ≤ c.note) → NotesAscend cs → All (λ c. c.note < high) cs → RiseBy low high cs
rise_carried low high [] h first up below = h
rise_carried low high (c ∷ cs) h first up below =
    let own : c.note < high = below 0 c (omega arith) in
    (first c refl, rise_carried (suc c.note) high cs (omega arith) (λ d e. up 0 c d refl e) (λ k a b e f. up (suc k) a b e f) (λ k d l. below (suc k) d (omega arith)))

rise_range : (from count : ℕ) → RiseBy from (from + count) (map (λ n. record { note = n; at = start_place }) (range_with_len from count))
rise_range from zero = omega arith
rise_range from (suc count) =
    let next : from + 1 ≡ suc from = omega arith in
    let end : (from + 1) + count ≡ from + suc count = omega arith in
    (omega arith, subst (λ (k : ℕ). RiseBy k (from + suc count) (map (λ n. record { note = n; at = start_place }) (range_with_len (from + 1) count))) next (subst (λ (k : ℕ). RiseBy (from + 1) k (map (λ n. record { note = n; at = start_place }) (range_with_len (from + 1) count))) end (rise_range (from + 1) count)))

-- the notes of a page ascend
pub rise_all : (carried : List Carried) (from to : ℕ) → from ≤ to → NotesAscend carried → All (λ c. c.note < from) carried → RiseBy 0 to (carried ++ whole_notes from to)
rise_all carried from to low up below =
    let end : from + (to - from) ≡ to = omega arith in
    rise_append 0 from to carried (whole_notes from to) (rise_carried 0 from carried (omega arith) (λ c e. omega arith) up below) (subst (λ (k : ℕ). RiseBy from k (whole_notes from to)) end (rise_range from (to - from)))

starts_carried : (carried : List Carried) → map start_of (carried_parts carried) ≡ carried
starts_carried [] = refl
starts_carried (c ∷ cs) = ap (λ (xs : List Carried). c ∷ xs) (starts_carried cs)

starts_range : (from count : ℕ) → map start_of (map called_of (range_with_len from count)) ≡ map (λ n. record { note = n; at = start_place }) (range_with_len from count)
starts_range from zero = refl
starts_range from (suc count) = ap (λ (xs : List Carried). record { note = from; at = start_place } ∷ xs) (starts_range (from + 1) count)

pub starts_are : (carried : List Carried) (from to : ℕ) → map start_of (carried_parts carried ++ called_parts from to) ≡ carried ++ whole_notes from to
starts_are carried from to = map-append start_of (carried_parts carried) (called_parts from to) ∙ ap (λ (xs : List Carried). xs ++ map start_of (called_parts from to)) (starts_carried carried) ∙ ap (λ (xs : List Carried). carried ++ xs) (starts_range from (to - from))

rise_parts : (low high : ℕ) (parts : List NotePart) → RiseBy low high (map start_of parts) → Rise low parts
rise_parts low high [] r = tt
rise_parts low high (p ∷ parts) r = (r.0, rise_parts (suc p.note) high parts r.1)

below_parts : (low high : ℕ) (parts : List NotePart) → RiseBy low high (map start_of parts) → All (λ p. p.note < high) parts
below_parts low high [] r = All-nil (λ (p : NotePart). p.note < high)
below_parts low high (p ∷ parts) r = let w = rise_within (suc p.note) high (map start_of parts) r.1 in All-cons (λ (q : NotePart). q.note < high) p parts (omega arith) (below_parts (suc p.note) high parts r.1)

-- ---- what is placed

least_same : (level must own carried : ℕ) → (own ≡ 0 → carried ≡ 0) → (carried ≡ 0 → own ≡ 0) → least_of level must own own ≡ least_of level must own carried
least_same level must own carried f g = ap (λ (b : Bool). cond (nat_lt level 3) must (cond (level == 3) own (cond b 0 1))) (by own carried f g)
  where
    by : (m n : ℕ) → (m ≡ 0 → n ≡ 0) → (n ≡ 0 → m ≡ 0) → (m == 0) ≡ (n == 0)
    by zero zero f g = refl
    by zero (suc n) f g = absurd (let e = f refl in omega arith)
    by (suc m) zero f g = absurd (let e = g refl in omega arith)
    by (suc m) (suc n) f g = ne_eqb (suc m) 0 (λ e. omega arith) ∙ sym (ne_eqb (suc n) 0 (λ e. omega arith))

least_level : (level must other own carried : ℕ) → (level ≤ 2 → must ≡ other) → least_of level must own carried ≡ least_of level other own carried
least_level level must other own carried f = by (cases_lt level 3)
  where
    by : (level < 3) ⊎ (3 ≤ level) → least_of level must own carried ≡ least_of level other own carried
    by (inl h) = ap (λ (m : ℕ). least_of level m own carried) (f (omega arith))
    by (inr h) = let off : nat_lt level 3 ≡ false = grind (arith, nat_tests) in ap (λ (b : Bool). cond b must (cond (level == 3) own (cond (carried == 0) 0 1))) off ∙ sym (ap (λ (b : Bool). cond b other (cond (level == 3) own (cond (carried == 0) 0 1))) off)

-- how many are placed of the list is told by what is read of it
module _ (l : NoteList) (list later own : List NotedSolid) (level : ℕ) (height room : ℤ) (ready : IsReady l) (of : IsReadFor room (list ++ later) l) (counts : IsCarryCount (note_rows own) (length own) height l.own) (longer : (more : List NotedSolid) × (list ≡ own ++ more))
    (fits : level ≤ 2 → area_of (note_rows list) (must_of (note_rows list) l.own) ≤ℤ room) where
  abbrev PlacesOf : List NotedSolid → ℕ → ℕ → Type 0
  PlacesOf read c number = IsPlaced (note_rows read) (least_of level (must_of (note_rows read) c) c c) room number

  abbrev Wanted : ℕ → Type 0
  Wanted number = IsPlaced (note_rows list) (least_of level (must_of (note_rows list) l.own) l.own (length own)) room number

  carried_least : (must : ℕ) → least_of level must l.own l.own ≡ least_of level must l.own (length own)
  carried_least must = least_same level must l.own (length own)
      (λ e. ⊎_elim (λ (h : 0 < length own). absurd (let s = counts.some h in omega arith)) (λ (h : length own ≤ 0). let z : length own ≡ 0 = omega arith in z) (cases_lt 0 (length own)))
      counts.none

  length_append : (xs ys : List NotedSolid) → length (xs ++ ys) ≡ length xs + length ys
  length_append [] ys = omega arith
  length_append (x ∷ xs) ys = let r = length_append xs ys in omega arith

  own_within : l.own ≤ length list
  own_within = let w = counts.within in let n = ap (λ (xs : List NotedSolid). length xs) longer.1 in let m = length_append own longer.0 in omega arith

  -- where all of it is read
  whole_placed : (number : ℕ) → PlacesOf list l.own number → Wanted number
  whole_placed number p = subst (λ (k : ℕ). IsPlaced (note_rows list) k room number) (carried_least (must_of (note_rows list) l.own)) p

  -- where a prefix is that takes more room than there is
  prefix_placed : (rest : List NotedSolid) (number : ℕ) → list ≡ l.solids.items ++ rest → room <ℤ area_of (note_rows l.solids.items) (length l.solids.items) → PlacesOf l.solids.items l.own number → Wanted number
  prefix_placed rest number is past p =
      let rows : List NoteSolid = note_rows l.solids.items in
      let more : List NoteSolid = note_rows rest in
      let rows_are : note_rows list ≡ rows ++ more = ap (λ (xs : List NotedSolid). note_rows xs) is ∙ map-append (λ (s : NotedSolid). s.row) l.solids.items rest in
      let over : room <ℤ area_of rows (length rows) = subst (λ (n : ℕ). room <ℤ area_of rows n) (sym (length-map l.solids.items (λ s. s.row))) past in
      let placed : IsPlaced (rows ++ more) (least_of level (must_of rows l.own) l.own l.own) room number = placed_prefix rows more room room (least_of level (must_of rows l.own) l.own l.own) number (omega (arith, ints)) over p in
      let must : level ≤ 2 → must_of rows l.own ≡ must_of (rows ++ more) l.own = λ h. sym (must_prefix rows more room l.own over (subst (λ (rs : List NoteSolid). area_of rs (must_of rs l.own) ≤ℤ room) rows_are (fits h))) in
      let least : least_of level (must_of rows l.own) l.own l.own ≡ least_of level (must_of (rows ++ more) l.own) l.own (length own) = least_level level (must_of rows l.own) (must_of (rows ++ more) l.own) l.own l.own must ∙ carried_least (must_of (rows ++ more) l.own) in
      subst (λ (rs : List NoteSolid). IsPlaced rs (least_of level (must_of rs l.own) l.own (length own)) room number) (sym rows_are) (subst (λ (k : ℕ). IsPlaced (rows ++ more) k room number) least placed)

  min_low : (n : ℕ) → l.own ≤ n → min l.own n ≡ l.own
  min_low n h = omega arith

  -- and so the same solids are
  pub number_told : (read number : ℕ) → (list ≡ take read l.solids.items) ⊎ IsCut list l.solids.items of.more read → PlacesOf (take read l.solids.items) (min l.own (length (take read l.solids.items))) number → Wanted number
  number_told read number (inl e) p =
      let within : l.own ≤ length (take read l.solids.items) = subst (λ (xs : List NotedSolid). l.own ≤ length xs) e own_within in
      let q : PlacesOf (take read l.solids.items) l.own number = subst (λ (c : ℕ). PlacesOf (take read l.solids.items) c number) (min_low (length (take read l.solids.items)) within) p in
      whole_placed number (subst (λ (xs : List NotedSolid). PlacesOf xs l.own number) (sym e) q)
  number_told read number (inr c) p = by of.enough
    where
      within : l.own ≤ length (take read l.solids.items)
      within = subst (λ (xs : List NotedSolid). l.own ≤ length xs) (sym c.all) ready.within

      q : PlacesOf l.solids.items l.own number
      q = subst (λ (xs : List NotedSolid). PlacesOf xs l.own number) c.all (subst (λ (k : ℕ). PlacesOf (take read l.solids.items) k number) (min_low (length (take read l.solids.items)) within) p)

      none_of : (xs ys : List NotedSolid) → xs ++ ys ≡ [] → xs ≡ []
      none_of [] ys e = refl
      none_of (x ∷ xs) ys e = absurd (cc)

      by : (of.more ≡ []) ⊎ (room <ℤ area_of (note_rows l.solids.items) (length l.solids.items)) → Wanted number
      by (inr past) = prefix_placed c.rest number c.is past q
      by (inl all) =
          let none : c.rest ≡ [] = none_of c.rest c.later (sym c.more_is ∙ all) in
          let same : list ≡ l.solids.items = c.is ∙ ap (λ (xs : List NotedSolid). l.solids.items ++ xs) none ∙ append-nil l.solids.items in
          whole_placed number (subst (λ (xs : List NotedSolid). PlacesOf xs l.own number) (sym same) q)

-- the first of what is read are the first of the list
take_prefix : (xs ys : List NotedSolid) (n : ℕ) → n ≤ length xs → take n (xs ++ ys) ≡ take n xs
take_prefix xs ys zero h = refl
take_prefix [] ys (suc n) h = absurd (omega arith)
take_prefix (x ∷ xs) ys (suc n) h = ap (λ (zs : List NotedSolid). x ∷ zs) (take_prefix xs ys n (omega arith))

pub read_taken : (list solids more : List NotedSolid) (read number : ℕ) → (list ≡ take read solids) ⊎ IsCut list solids more read → number ≤ length (take read solids) → take number list ≡ take number (take read solids)
read_taken list solids more read number (inl e) h = ap (take number) e
read_taken list solids more read number (inr c) h =
    let low : number ≤ length solids = subst (λ (xs : List NotedSolid). number ≤ length xs) c.all h in
    ap (take number) c.is ∙ take_prefix solids c.rest number low ∙ ap (take number) (sym c.all)

-- ---- what is left, note after note

pub push_next : {A B : Type 0} (f : A → List B) (start old new : List B) (xs : List A) (x : A) → new ≡ old ++ f x → old ≡ start ++ flat_map f xs → new ≡ start ++ flat_map f (xs ++ x ∷ [])
push_next {A} {B} f start old new xs x e h = e ∙ ap (λ (ys : List B). ys ++ f x) h ∙ append_assoc start (flat_map f xs) (f x) ∙ ap (λ (ys : List B). start ++ ys) (sym (flat_next xs))
  where
    flat_next : (ys : List A) → flat_map f (ys ++ x ∷ []) ≡ flat_map f ys ++ f x
    flat_next [] = append-nil (f x)
    flat_next (y ∷ ys) = ap (λ (zs : List B). f y ++ zs) (flat_next ys) ∙ sym (append_assoc (f y) (flat_map f ys) (f x))

pub whole_next : (from to : ℕ) → from ≤ to → whole_notes from (to + 1) ≡ whole_notes from to ++ record { note = to; at = start_place } ∷ []
whole_next from to low =
    let count : (to + 1) - from ≡ (to - from) + 1 = omega arith in
    ap (λ (k : ℕ). map (λ n. record { note = n; at = start_place }) (range_with_len from k)) count
    ∙ map-range_with_len_more (λ n. record { note = n; at = start_place }) from (to - from) to (omega arith)

pub whole_none : (from to : ℕ) → to ≤ from → whole_notes from to ≡ []
whole_none from to low = let none : to - from ≡ 0 = omega arith in ap (λ (k : ℕ). map (λ n. record { note = n; at = start_place }) (range_with_len from k)) none

-- ---- bounds

pub small_at : (xs : List NotedSolid) (k : ℕ) (d : NotedSolid) → k < length xs → All IsSmallNote (note_rows xs) → IsSmallNote (get_or xs k d).row
small_at [] k d low all = absurd (omega arith)
small_at (x ∷ xs) zero d low all = all 0 x.row (omega arith)
small_at (x ∷ xs) (suc k) d low all = small_at xs k d (omega arith) (λ i e l. all (suc i) e (omega arith))

-- the tops of what is placed are near
pub near_notes : (k : ℕ) (bottom : ℤ) (list : List NotedSolid) → k + length list ≤ 2 ^ 26 → neg_ℤ (pos (2 ^ 33 * k)) ≤ℤ bottom → bottom ≤ℤ pos (2 ^ 33 * k + 512) → All IsSmallNote (note_rows list) → All (λ n. IsNearSolid n.1) (placed_notes bottom list)
near_notes k bottom [] few low high small = All-nil (λ (n : ℕ × Placed). IsNearSolid n.1)
near_notes k bottom (s ∷ list) few low high small =
    let own : IsSmallNote s.row = small 0 s.row (omega arith) in
    let gap = own.gap in
    let height = own.height in
    let some = own.some in
    All-cons (λ (n : ℕ × Placed). IsNearSolid n.1) _ _ (record { top = omega (arith, ints); height = omega (arith, ints); some = omega (arith, ints) })
    (near_notes (suc k) ((bottom +ℤ s.row.gap) +ℤ s.row.height) list (omega arith) (omega (arith, ints)) (omega (arith, ints)) (λ i d less. small (suc i) d (omega arith)))

-- ---- a page's list

length_taken : (xs : List NotedSolid) (n : ℕ) → n ≤ length xs → length (take n xs) ≡ n
length_taken xs zero h = refl
length_taken [] (suc n) h = absurd (omega arith)
length_taken (x ∷ xs) (suc n) h = ap suc (length_taken xs n (omega arith))

-- the last of those that are placed
pub last_taken : (xs : List NotedSolid) (k : ℕ) → k < length xs → slice_get (take (suc k) xs) (length (take (suc k) xs) - 1) ≡ slice_get xs k
last_taken xs k low =
    let size : length (take (suc k) xs) - 1 ≡ k = (let n = length_taken xs (suc k) (omega arith) in omega arith) in
    ap (λ (n : ℕ). slice_get (take (suc k) xs) n) size ∙ get-taken xs (suc k) k (omega arith)

parts_held : (notes : List Note) (carried : List Carried) (from to : ℕ) → All (IsHeld notes) carried → to ≤ length notes → All (λ p. IsHeld notes (start_of p)) (carried_parts carried ++ called_parts from to)
parts_held notes carried from to held within = All-append (λ (p : NotePart). IsHeld notes (start_of p)) (carried_parts carried) (called_parts from to) (carried_held notes carried held) (called_held notes from to within)

-- what is left of a page's list
pub left_told : (faces : List FontFace) (notes : List Note) (width : ℤ) (carried : List Carried) (from to : ℕ) (list read : List NotedSolid) (number : ℕ) → All (IsHeld notes) carried → NotesAscend carried → All (λ c. c.note < from) carried → from ≤ to → to ≤ length notes → AreNoted faces notes width (carried_parts carried ++ called_parts from to) list →
    All (λ s. IsHeld notes (record { note = s.note; at = s.end })) read → number ≤ length read → take number list ≡ take number read → left_after_last notes carried from to (slice_get (take number read) (length (take number read) - 1)) ≡ left_of (drop number list)
left_told faces notes width carried from to list read number held up below order within are ends low same = by number low same
  where
    parts : List NotePart
    parts = carried_parts carried ++ called_parts from to

    starts : map start_of parts ≡ carried ++ whole_notes from to
    starts = starts_are carried from to

    rise : Rise 0 parts
    rise = rise_parts 0 to parts (subst (RiseBy 0 to) (sym starts) (rise_all carried from to order up below))

    all : All (λ p. IsHeld notes (start_of p)) parts
    all = parts_held notes carried from to held within

    by : (n : ℕ) → n ≤ length read → take n list ≡ take n read → left_after_last notes carried from to (slice_get (take n read) (length (take n read) - 1)) ≡ left_of (drop n list)
    by zero l e = ap (flat_map (left_from notes 0)) (sym starts) ∙ sym (left_none faces notes width 0 0 None parts list (omega arith) tt rise all are)
    by (suc k) l e =
        let there = slice_get_at read k (omega arith) in
        let s : NotedSolid = there.0 in
        let last : slice_get (take (suc k) read) (length (take (suc k) read) - 1) ≡ Some s = last_taken read k (omega arith) ∙ there.1 in
        let at : slice_get list k ≡ Some s = sym (get-taken list (suc k) k (omega arith)) ∙ ap (λ (xs : List NotedSolid). slice_get xs k) e ∙ get-taken read (suc k) k (omega arith) ∙ there.1 in
        let end : IsHeld notes (record { note = s.note; at = s.end }) = all-get (λ (x : NotedSolid). IsHeld notes (record { note = x.note; at = x.end })) read k s ends there.1 in
        ap (left_after_last notes carried from to) last
        ∙ ap (λ (cs : List Carried). left_part notes (record { note = s.note; at = s.end }) ++ flat_map (left_from notes (suc s.note)) cs) (sym starts)
        ∙ sym (left_some faces notes width 0 parts list k s rise all are at end)

-- the notes of a page's list are below the first one that is called after it
pub list_below : (faces : List FontFace) (notes : List Note) (width : ℤ) (carried : List Carried) (from to : ℕ) (list : List NotedSolid) → NotesAscend carried → All (λ c. c.note < from) carried → from ≤ to → AreNoted faces notes width (carried_parts carried ++ called_parts from to) list → All (IsBelow to) list
list_below faces notes width carried from to list up below order are =
    noted_high faces notes width to (carried_parts carried ++ called_parts from to) list (below_parts 0 to (carried_parts carried ++ called_parts from to) (subst (RiseBy 0 to) (sym (starts_are carried from to)) (rise_all carried from to order up below))) are

-- it goes on from the list of what is carried
pub own_first : (faces : List FontFace) (notes : List Note) (width : ℤ) (carried : List Carried) (from to : ℕ) (own list : List NotedSolid) → AreNoted faces notes width (carried_parts carried) own → AreNoted faces notes width (carried_parts carried ++ called_parts from to) list → (more : List NotedSolid) × (list ≡ own ++ more)
own_first faces notes width carried from to own list o l =
    let s = noted_split faces notes width (carried_parts carried) (called_parts from to) list l in
    (s.1, s.4 ∙ ap (λ (xs : List NotedSolid). xs ++ s.1) (noted_unique faces notes width (carried_parts carried) s.0 own s.2 o))

-- ---- what is carried on

-- what is left of some notes keeps their order, from a number on
pub rise_part : (notes : List Note) (c : Carried) (low high : ℕ) (rest : List Carried) → low ≤ c.note → RiseBy (suc c.note) high rest → RiseBy low high (left_part notes c ++ rest)
rise_part notes c low high rest h r = in_note (slice_get notes c.note)
  where
    at_event : (o : Option ℕ) → RiseBy low high (left_at c o ++ rest)
    at_event None = rise_lower low (suc c.note) high rest (omega arith) r
    at_event (Some e) = (h, r)

    in_note : (o : Option Note) → RiseBy low high (left_in c o ++ rest)
    in_note None = rise_lower low (suc c.note) high rest (omega arith) r
    in_note (Some n) = at_event (solid_after n.body c.at.event)

rise_from : (notes : List Note) (next low high : ℕ) (cs : List Carried) → next ≤ high → RiseBy low high cs → RiseBy (max low next) high (flat_map (left_from notes next) cs)
rise_from notes next low high [] h r = let w = r in omega arith
rise_from notes next low high (c ∷ cs) h r = by (cases_lt c.note next) (rise_from notes next (suc c.note) high cs h r.1)
  where
    by : (c.note < next) ⊎ (next ≤ c.note) → RiseBy (max (suc c.note) next) high (flat_map (left_from notes next) cs) → RiseBy (max low next) high (left_from notes next c ++ flat_map (left_from notes next) cs)
    by (inl l) more =
        let none : nat_le next c.note ≡ false = grind (arith, nat_tests) in
        let own : low ≤ c.note = r.0 in
        subst (λ (b : Bool). RiseBy (max low next) high (cond b (left_part notes c) [] ++ flat_map (left_from notes next) cs)) (sym none) (rise_lower (max low next) (max (suc c.note) next) high (flat_map (left_from notes next) cs) (omega arith) more)
    by (inr l) more =
        let some : nat_le next c.note ≡ true = grind (arith, nat_tests) in
        let own : low ≤ c.note = r.0 in
        subst (λ (b : Bool). RiseBy (max low next) high (cond b (left_part notes c) [] ++ flat_map (left_from notes next) cs)) (sym some)
        (rise_part notes c (max low next) high (flat_map (left_from notes next) cs) (omega arith) (rise_lower (suc c.note) (max (suc c.note) next) high (flat_map (left_from notes next) cs) (omega arith) more))

pub rise_left : (notes : List Note) (carried : List Carried) (from to : ℕ) (last : Option NotedSolid) → from ≤ to → NotesAscend carried → All (λ c. c.note < from) carried → next_of last ≤ to → RiseBy 0 to (left_after_last notes carried from to last)
rise_left notes carried from to None order up below low = rise_lower 0 (max 0 0) to (flat_map (left_from notes 0) (carried ++ whole_notes from to)) (omega arith) (rise_from notes 0 0 to (carried ++ whole_notes from to) (omega arith) (rise_all carried from to order up below))
rise_left notes carried from to (Some s) order up below low =
    let rest = flat_map (left_from notes (suc s.note)) (carried ++ whole_notes from to) in
    rise_lower 0 s.note to (left_part notes (record { note = s.note; at = s.end }) ++ rest) (omega arith) (rise_part notes (record { note = s.note; at = s.end }) s.note to rest (omega arith)
    (rise_lower (suc s.note) (max 0 (suc s.note)) to rest (omega arith) (rise_from notes (suc s.note) 0 to (carried ++ whole_notes from to) low (rise_all carried from to order up below))))

pub rise_ascends : (low high : ℕ) (cs : List Carried) → RiseBy low high cs → NotesAscend cs
rise_ascends low high [] r k a b e f = absurd (cc)
rise_ascends low high (c ∷ []) r k a b e f = absurd (cc)
rise_ascends low high (c ∷ d ∷ cs) r zero a b e f =
    let x : c ≡ a = cc in
    let y : d ≡ b = cc in
    subst (λ (z : Carried). z.note < b.note) x (subst (λ (z : Carried). c.note < z.note) y r.1.0)
rise_ascends low high (c ∷ d ∷ cs) r (suc k) a b e f = rise_ascends (suc c.note) high (d ∷ cs) r.1 k a b e f

pub rise_below : (low high : ℕ) (cs : List Carried) → RiseBy low high cs → All (λ c. c.note < high) cs
rise_below low high [] r = All-nil (λ (c : Carried). c.note < high)
rise_below low high (c ∷ cs) r = let w = rise_within (suc c.note) high cs r.1 in All-cons (λ (d : Carried). d.note < high) c cs (omega arith) (rise_below (suc c.note) high cs r.1)

-- what is carried on is of a note, and goes on at a solid of it
abbrev pub GoesOn : List Note → Carried → Type 0
GoesOn notes c = IsHeld notes c × IsAtSolid notes c

pub part_goes : (notes : List Note) (c : Carried) → IsHeld notes c → All (GoesOn notes) (left_part notes c)
part_goes notes c held = subst (λ (o : Option Note). All (GoesOn notes) (left_in c o)) (sym held.has) (by (solid_after held.note.body c.at.event) refl)
  where
    by : (o : Option ℕ) → solid_after held.note.body c.at.event ≡ o → All (GoesOn notes) (left_at c o)
    by None e = All-nil (GoesOn notes)
    by (Some event) e =
        let within = solid_within held.note.body c.at.event event e in
        let at : Position = record { event = event; offset = cond (event == c.at.event) c.at.offset 0 } in
        All-cons (GoesOn notes) (record { note = c.note; at = at }) []
        (record { note = held.note; has = held.has; holds = holds_next held.note.body c.at at event (omega arith) held.holds refl refl }, record { note = held.note; has = held.has; solid = solid_itself held.note.body event (after_solid held.note.body c.at.event event e).1 }) (All-nil (GoesOn notes))

from_goes : (notes : List Note) (next : ℕ) (cs : List Carried) → All (IsHeld notes) cs → All (GoesOn notes) (flat_map (left_from notes next) cs)
from_goes notes next [] held = All-nil (GoesOn notes)
from_goes notes next (c ∷ cs) held = by (nat_le next c.note) (from_goes notes next cs (λ k d l. held (suc k) d (omega arith)))
  where
    by : (b : Bool) → All (GoesOn notes) (flat_map (left_from notes next) cs) → All (GoesOn notes) (cond b (left_part notes c) [] ++ flat_map (left_from notes next) cs)
    by true more = All-append (GoesOn notes) (left_part notes c) (flat_map (left_from notes next) cs) (part_goes notes c (held 0 c (omega arith))) more
    by false more = more

whole_held : (notes : List Note) (from count : ℕ) → from + count ≤ length notes → All (IsHeld notes) (map (λ n. record { note = n; at = start_place }) (range_with_len from count))
whole_held notes from zero low = All-nil (IsHeld notes)
whole_held notes from (suc count) low = All-cons (IsHeld notes) (record { note = from; at = start_place }) (map (λ n. record { note = n; at = start_place }) (range_with_len (from + 1) count)) (start_held notes from (omega arith)) (whole_held notes (from + 1) count (omega arith))

pub left_goes : (notes : List Note) (carried : List Carried) (from to : ℕ) (last : Option NotedSolid) → All (IsHeld notes) carried → from ≤ to → to ≤ length notes → IfSome last (λ s. IsHeld notes (record { note = s.note; at = s.end })) → All (GoesOn notes) (left_after_last notes carried from to last)
left_goes notes carried from to last held order within end =
    All-append (GoesOn notes) (left_of_last notes last) (flat_map (left_from notes (next_of last)) (carried ++ whole_notes from to)) (by last end)
    (from_goes notes (next_of last) (carried ++ whole_notes from to) (All-append (IsHeld notes) carried (whole_notes from to) held (whole_held notes from (to - from) (omega arith))))
  where
    by : (o : Option NotedSolid) → IfSome o (λ s. IsHeld notes (record { note = s.note; at = s.end })) → All (GoesOn notes) (left_of_last notes o)
    by None h = All-nil (GoesOn notes)
    by (Some s) h = part_goes notes (record { note = s.note; at = s.end }) h

pub left_held : (notes : List Note) (cs : List Carried) → All (GoesOn notes) cs → All (IsHeld notes) cs
left_held notes cs all k d l = (all k d l).0

pub left_stands : (notes : List Note) (cs : List Carried) → All (GoesOn notes) cs → All (IsAtSolid notes) cs
left_stands notes cs all k d l = (all k d l).1

-- one of some solids
pub some_of : {A : Type 0} (P : A → Type 0) (xs : List A) (n : ℕ) → All P xs → IfSome (slice_get xs n) P
some_of P [] n all = tt
some_of P (x ∷ xs) zero all = all 0 x (omega arith)
some_of P (x ∷ xs) (suc n) all = some_of P xs n (λ k d l. all (suc k) d (omega arith))

pub next_low : (o : Option NotedSolid) (to : ℕ) → IfSome o (λ s. s.note < to) → next_of o ≤ to
next_low None to h = omega arith
next_low (Some s) to h = h

-- a page's list, placed
pub placing : (faces : List FontFace) (notes : List Note) (width height : ℤ) (l : NoteList) (carried : List Carried) (from to level : ℕ) (room : ℤ) (own list later : List NotedSolid) (read number : ℕ) (p : PlacedList) →
    IsReady l → All (λ s. IsHeld notes (record { note = s.note; at = s.end })) (take read l.solids.items) → All (IsHeld notes) carried → NotesAscend carried → All (λ c. c.note < from) carried → from ≤ to → to ≤ length notes →
    read ≤ length l.solids.items → All (IsBelow to) (take read l.solids.items) → ((s : NotedSolid) → slice_get l.solids.items read ≡ Some s → to ≤ s.note) →
    IsPlaced (note_rows (take read l.solids.items)) (least_of level (must_of (note_rows (take read l.solids.items)) (min l.own (length (take read l.solids.items)))) (min l.own (length (take read l.solids.items))) (min l.own (length (take read l.solids.items)))) room number →
    p.notes ≡ placed_notes separator (take number (take read l.solids.items)) → p.left ≡ left_after_last notes carried from to (slice_get (take number (take read l.solids.items)) (length (take number (take read l.solids.items)) - 1)) →
    AreNoted faces notes width (carried_parts carried) own → AreNoted faces notes width (carried_parts carried ++ called_parts from to) list → All (IsFrom to) later → IsReadFor room (list ++ later) l → IsCarryCount (note_rows own) (length own) height l.own →
    (level ≤ 2 → area_of (note_rows list) (must_of (note_rows list) l.own) ≤ℤ room) → IsPlacing list level l.own (length own) room p
placing faces notes width height l carried from to level room own list later read number p ready ends held up below order within few under stops placed notes_is left_is owned listed after of counts fits =
    let cut = parted to list later l.solids.items of.more read of.is (list_below faces notes width carried from to list up below order listed) after few under stops in
    let most = placed.within in
    let size : length (note_rows (take read l.solids.items)) ≡ length (take read l.solids.items) = length-map (take read l.solids.items) (λ s. s.row) in
    let number_low : number ≤ length (take read l.solids.items) = omega arith in
    let same = read_taken list l.solids.items of.more read number cut number_low in
    record {
      number = number;
      places = number_told l list later own level height room ready of counts (own_first faces notes width carried from to own list owned listed) fits read number cut placed;
      notes_is = notes_is ∙ ap (placed_notes separator) (sym same);
      left_is = left_is ∙ left_told faces notes width carried from to list (take read l.solids.items) number held up below order within listed ends number_low same;
    }

pub small_taken : (xs : List NotedSolid) (n : ℕ) → All IsSmallNote (note_rows xs) → All IsSmallNote (note_rows (take n xs))
small_taken xs zero all = All-nil IsSmallNote
small_taken [] (suc n) all = All-nil IsSmallNote
small_taken (x ∷ xs) (suc n) all = All-cons IsSmallNote x.row (note_rows (take n xs)) (all 0 x.row (omega arith)) (small_taken xs n (λ k d l. all (suc k) d (omega arith)))

take_low : (xs : List NotedSolid) (n : ℕ) → length (take n xs) ≤ length xs
take_low xs zero = omega arith
take_low [] (suc n) = omega arith
take_low (x ∷ xs) (suc n) = let r = take_low xs n in omega arith

pub taken_low : (xs : List NotedSolid) (n m : ℕ) → length (take m (take n xs)) ≤ length xs
taken_low xs n m = let a = take_low xs n in let b = take_low (take n xs) m in omega arith
