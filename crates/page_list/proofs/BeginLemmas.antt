-- Each note begins on the page on which it is called, or on a later one.
use Rattle.std.proofs.Common.{◌≡◌, ◌<◌, ◌≤◌, ◌+◌, ◌==◌, ◌||◌, ℕ, zero, suc, ℤ, ◌+ℤ◌, pos, Bool, true, false, not, cond, eqb, All, List, [], ◌∷◌, ◌++◌, Option, Some, None, option_map, unwrap_or, length, take, get_or, slice_get, refl, sym, ap, ◌∙◌, subst, arith, ◌⊎◌, ⊎_elim, inl, inr}
use Rattle.std.proofs.lemmas.Bool.{cases_lt, eq-eqb, ne_eqb}
use Rattle.std.proofs.lemmas.Bool.Decides.{nat_tests}
use Rattle.std.proofs.lemmas.List.{length-take-le}
use Rattle.std.proofs.lemmas.List.Elements.{All-nil, All-cons, All-take}
use Rattle.std.proofs.lemmas.List.Folds.{list_any_none}
use Rattle.std.proofs.lemmas.Option.{slice_get_within}
use Rattle.std.proofs.Math.Seq.{take-nil}
use Rattle.std.specs.List.{list_any}
use Rattle.std.specs.Prelude.{nat_lt}
use Rattle.metrics.specs.Face.{FontFace}
use Rattle.boxes.specs.Steps.{IsRun}
use Rattle.boxes.specs.Tree.{Tree, IsTree}
use Rattle.boxes.specs.declared.flow.Flow.{Flow}
use Rattle.boxes.specs.declared.flow.Note.{Note}
use Rattle.boxes.specs.declared.frames.Frame.{Frame}
use Rattle.boxes.specs.declared.frames.PageKind.TheVariants as kind
use Rattle.boxes.specs.declared.page.Page.{Page}
use Rattle.boxes.specs.declared.page.Placed.{Placed}
use Rattle.boxes.specs.declared.place.Position.{Position}
use Rattle.boxes.proofs.ListLemmas.{slice_get_at}
use Rattle.seams.specs.Runs.{solid_after}
use Rattle.seams.specs.Seams.{seam_between, solid_behind}
use Rattle.cursor.specs.Remainder.{SolidView, IsRemainder}
use Rattle.cuts.specs.Cuts.{IsCut}
use Rattle.cuts.specs.Cuts.IsCut.{at_level, at_loose, at_first}
use Rattle.cuts.specs.declared.row.SolidRow.{SolidRow}
use Rattle.bk_num.specs.Limits.{separator}
use Rattle.notes.specs.Notes.{last_begin, must_of}
use Rattle.page_seq.specs.Places.{anchor_of, ends_after, first_place, has_end_after, has_solid, is_before, last_or_here, last_page, last_place, page_of}
use Rattle.note_list.specs.Calls.{called_before, end_before, start_place}
use Rattle.note_list.specs.Conditions.{CanBePaged}
use Rattle.note_list.specs.Lists.{AreNoted, carried_parts, called_parts, placed_notes, note_rows}
use Rattle.note_list.specs.Places.{least_of}
use Rattle.note_list.specs.declared.solid.NotedSolid.{NotedSolid}
use Rattle.page_list.specs.Cuts.{IsFlowCut, IsPagePoint, first_gap, parts_after, place_after, placed_below, placed_from, row_of, rows_of}
use Rattle.page_list.specs.Noted.{BeginInTime}
use Rattle.page_seq.specs.Noted.{begins_on, has_note}
use Rattle.boxes.specs.Frames.{PageFrames}
use Rattle.page_list.specs.Pages.{IsEnded, IsPaged, IsStep, State, meets_at, name_at, start_of}
use Rattle.page_list.specs.Pages.IsStep.{blank, flows, noted}
use Rattle.page_list.specs.declared.cut.Cut.{Cut}
use Rattle.page_list.proofs.CallLemmas.{before_not, called_end, called_no, called_start, called_yes, cut_ends, inside_rest}
use Rattle.page_list.proofs.CarriedLemmas.{noted_within}
use Rattle.page_list.proofs.FirstSolidLemmas.{Starts, none_noted, placed_any, starts_called}
use Rattle.page_list.proofs.NextLemmas.{here}
use Rattle.page_list.proofs.StateLemmas.{Stays, cut_rise, stays_start, stays_step}

-- ---- lists of which none passes
first_none : {X : Type 0} (p : X → Bool) (xs : List X) → All (λ x. p x ≡ false) xs → first_place p xs ≡ None
first_none p [] all = refl
first_none p (x ∷ xs) all = ap (λ (b : Bool). cond b (Some 0) (option_map suc (first_place p xs))) (all 0 x (omega arith)) ∙ ap (option_map suc) (first_none p xs (λ k d h. all (suc k) d (omega arith)))

last_none : {X : Type 0} (p : X → Bool) (xs : List X) → All (λ x. p x ≡ false) xs → last_place p xs ≡ None
last_none p [] all = refl
last_none p (x ∷ xs) all = ap (last_or_here (p x)) (last_none p xs (λ k d h. all (suc k) d (omega arith))) ∙ ap (λ (b : Bool). cond b (Some 0) None) (all 0 x (omega arith))

-- ---- the page of a place, and the page on which a note begins
-- the first page that ends after a place, else the last one that holds a solid
abbrev OwnsAt : Position → List Page → ℕ → Type 0
OwnsAt a pages k = (first_place (has_end_after a) pages ≡ Some k) ⊎ ((first_place (has_end_after a) pages ≡ None) × (last_place has_solid pages ≡ Some k))

-- a note begins no earlier than on a page, and on it at levels 0 to 2
record BeginsFrom (n : ℕ) (pages : List Page) (k : ℕ) : Type 0 where
  late : (j : ℕ) → begins_on pages n ≡ Some j → k ≤ j
  here : (p : Page) → slice_get pages k ≡ Some p → p.level ≤ 2 → (j : ℕ) → begins_on pages n ≡ Some j → j ≡ k

abbrev Begins : ℕ → Position → List Page → Type 0
Begins n a pages = (k : ℕ) × OwnsAt a pages k × BeginsFrom n pages k

-- one page before them, on which nothing of it stands
before_all : {X : Type 0} (p : X → Bool) (x : X) (xs : List X) → p x ≡ false → first_place p (x ∷ xs) ≡ option_map suc (first_place p xs)
before_all p x xs isnt = ap (λ (b : Bool). cond b (Some 0) (option_map suc (first_place p xs))) isnt

suc_of : (o : Option ℕ) (j : ℕ) → option_map suc o ≡ Some j → (i : ℕ) × (o ≡ Some i) × (j ≡ suc i)
suc_of None j e = absurd (cc)
suc_of (Some i) j e = (i, refl, cc)

begins_later : (n : ℕ) (a : Position) (p : Page) (pages : List Page) → has_end_after a p ≡ false → has_note n p ≡ false → Begins n a pages → Begins n a (p ∷ pages)
begins_later n a p pages ends none (k, owns, begins) = (
  suc k,
  by owns,
  record {
    late = λ j e. let f = suc_of (begins_on pages n) j (sym (before_all (has_note n) p pages none) ∙ e) in let l = begins.late f.0 f.1 in let g = f.2 in omega arith;
    here = λ q at low j e. let f = suc_of (begins_on pages n) j (sym (before_all (has_note n) p pages none) ∙ e) in f.2 ∙ ap suc (begins.here q at low f.0 f.1);
  },
)
  where
    by : OwnsAt a pages k → OwnsAt a (p ∷ pages) (suc k)
    by (inl e) = inl (before_all (has_end_after a) p pages ends ∙ ap (option_map suc) e)
    by (inr e) = inr (before_all (has_end_after a) p pages ends ∙ ap (option_map suc) e.0, ap (last_or_here (has_solid p)) e.1)

-- ---- what a page holds, by its cut
below_any : (a : Position) (bottom : ℤ) (solids : List SolidView) → list_any (ends_after a) (placed_below bottom solids) ≡ list_any (λ (s : SolidView). is_before a s.end) solids
below_any a bottom [] = refl
below_any a bottom (s ∷ solids) = ap (λ (b : Bool). is_before a s.end || b) (below_any a ((bottom +ℤ s.seam.whole_gap) +ℤ s.height) solids)

from_any : (a : Position) (first : ℤ) (solids : List SolidView) → list_any (ends_after a) (placed_from first solids) ≡ list_any (λ (s : SolidView). is_before a s.end) solids
from_any a first [] = refl
from_any a first (s ∷ solids) = ap (λ (b : Bool). is_before a s.end || b) (below_any a (first +ℤ s.height) solids)

from_some : (first : ℤ) (solids : List SolidView) → 0 < length solids → not (length (placed_from first solids) == 0) ≡ true
from_some first [] h = absurd (omega arith)
from_some first (s ∷ solids) h = grind (arith, nat_tests)

cut_some : (r : SolidRow) (rows : List SolidRow) {fits loose : ℕ → Type 0} (level j : ℕ) → IsCut (IsPagePoint (r ∷ rows)) fits loose level j → 0 < j
cut_some r rows level j (at_level low n p f g) = p.some
cut_some r rows level j (at_loose e n own o p q g) = p.some
cut_some r rows level j (at_first e n n2 own o p g) = p.some

rest_solid : (faces : List FontFace) (t : Tree) (w : ℤ) → IsTree t → (from : Position) (solids : List SolidView) (k : ℕ) (s : SolidView) → IsRemainder faces t w from solids → slice_get solids k ≡ Some s → solid_after t s.placed_at.event ≡ Some s.placed_at.event
rest_solid faces t w tree from [] k s r e = absurd (cc)
rest_solid faces t w tree from (x ∷ solids) zero s r e = let same : x ≡ s = cc in subst (λ (v : SolidView). solid_after t v.placed_at.event ≡ Some v.placed_at.event) same (here faces t w tree from x r.1.0)
rest_solid faces t w tree from (x ∷ solids) (suc k) s r e = rest_solid faces t w tree r.0 solids k s r.2 e

module _ (faces : List FontFace) (flow : Flow) (frames : PageFrames) (can : CanBePaged faces flow) where
  -- after the flow no page holds a solid of it
  after_done : (s : State) (pages : List Page) → s.done ≡ true → IsRun (IsStep faces flow frames) IsEnded s pages → All (λ (p : Page). p.solids ≡ []) pages
  after_done s [] done r = All-nil (λ (p : Page). p.solids ≡ [])
  after_done s (p ∷ pages) done r = by r.0 r.1 (λ e. after_done r.0 pages e r.2)
    where
      by : (u : State) → IsStep faces flow frames s p u → (u.done ≡ true → All (λ (q : Page). q.solids ≡ []) pages) → All (λ (q : Page). q.solids ≡ []) (p ∷ pages)
      by u (blank going misses p_is u_is) more = absurd (let e : true ≡ false = sym done ∙ going in cc)
      by u (flows going meets cut is p_is u_is) more = absurd (let e : true ≡ false = sym done ∙ going in cc)
      by u (noted over some notes left is p_is u_is) more = All-cons (λ (q : Page). q.solids ≡ []) p pages (ap (λ (q : Page). q.solids) p_is) (more (ap (λ (v : State). v.done) u_is ∙ done))

  module _ (n : ℕ) (note : Note) (has : slice_get flow.notes n ≡ Some note) where
    abbrev anchor : Position
    anchor = anchor_of flow.main note.call

    abbrev called : Position → ℕ
    called at = called_before flow.main flow.notes at

    -- a page's list with none of the note's solids
    lacks : (p : Page) (bottom : ℤ) (number : ℕ) (list : List NotedSolid) → p.notes ≡ placed_notes bottom (take number list) → All (λ (s : NotedSolid). (s.note == n) ≡ false) list → has_note n p ≡ false
    lacks p bottom number list are none = ap (list_any (λ (s : ℕ × Placed). s.0 == n)) are ∙ placed_any n bottom (take number list) ∙ list_any_none (λ (s : NotedSolid). s.note == n) (take number list) (All-take (λ (s : NotedSolid). (s.note == n) ≡ false) number list none)

    -- a body without solids has none on any page
    none_on : solid_after note.body 0 ≡ None → (s : State) (pages : List Page) → IsRun (IsStep faces flow frames) IsEnded s pages → All (λ (p : Page). has_note n p ≡ false) pages
    none_on none s [] r = All-nil (λ (p : Page). has_note n p ≡ false)
    none_on none s (p ∷ pages) r = All-cons (λ (q : Page). has_note n q ≡ false) p pages (by r.0 r.1) (none_on none r.0 pages r.2)
      where
        by : (u : State) → IsStep faces flow frames s p u → has_note n p ≡ false
        by u (blank going misses p_is u_is) = ap (has_note n) p_is
        by u (flows going meets cut is p_is u_is) = lacks p separator is.number (is.list is.count) (ap (λ (q : Page). q.notes) p_is ∙ is.notes_is)
            (none_noted faces flow.notes (frames.frame_of s.index (name_at flow.main s.at) kind.Flow).width n note has none (parts_after flow s.at s.carried is.solids is.count) (is.list is.count) (is.listed is.count is.within))
        by u (noted over some notes left is p_is u_is) = lacks p separator is.number is.list (ap (λ (q : Page). q.notes) p_is ∙ is.notes_is)
            (none_noted faces flow.notes (frames.frame_of s.index s.name kind.Notes).width n note has none (carried_parts s.carried) is.list is.listed)

    -- ---- a page of the flow
    module _ (f : Frame) (s : State) (cut : Cut) (st : Stays flow s) (is : IsFlowCut faces flow f (record { at = s.at; kept = s.kept }) s.carried cut) (p : Page) (solids_are : p.solids ≡ cut.solids) (notes_are : p.notes ≡ cut.notes) (level_is : p.level ≡ cut.level) where
      ends_is : has_end_after anchor p ≡ list_any (λ (v : SolidView). is_before anchor v.end) (take is.count is.solids)
      ends_is = ap (list_any (ends_after anchor)) (solids_are ∙ is.solids_is) ∙ from_any anchor (first_gap s.kept is.solids) (take is.count is.solids)

      note_is : has_note n p ≡ list_any (λ (x : NotedSolid). x.note == n) (take is.number (is.list is.count))
      note_is = ap (list_any (λ (x : ℕ × Placed). x.0 == n)) (notes_are ∙ is.notes_is) ∙ placed_any n separator (take is.number (is.list is.count))

      some_placed : 0 < length is.solids → 0 < length (take is.count is.solids)
      some_placed some =
          let size : length (take is.count is.solids) ≡ is.count = length-take-le is.count is.solids is.within in
          let least = by is.solids is.best some in
          omega arith
        where
          by : (solids : List SolidView) {fits loose : ℕ → Type 0} → IsCut (IsPagePoint (rows_of flow.main solids)) fits loose cut.level is.count → 0 < length solids → 0 < is.count
          by [] best h = absurd (omega arith)
          by (v ∷ solids) best h = cut_some (row_of flow.main v) (rows_of flow.main solids) cut.level is.count best

      has_some_solid : 0 < length is.solids → has_solid p ≡ true
      has_some_solid some = ap (λ (ps : List Placed). not (length ps == 0)) (solids_are ∙ is.solids_is) ∙ from_some (first_gap s.kept is.solids) (take is.count is.solids) (some_placed some)

      -- no later note stands on it
      none_later : called cut.to ≤ n → has_note n p ≡ false
      none_later low = lacks p separator is.number (is.list is.count) (notes_are ∙ is.notes_is)
          (λ k d h. let x = noted_within faces flow.notes f.width 0 (called cut.to) (parts_after flow s.at s.carried is.solids is.count) (is.list is.count) (cut_rise faces flow can f s.kept s cut st is) (is.listed is.count is.within) k d h in let y = x.1 in ne_eqb (get_or (is.list is.count) k d).note n (λ e. omega arith))

      -- a note that is called on it begins on it, at levels 0 to 2
      begins_here : called s.at ≤ n → n < called cut.to → (u : State) (pages : List Page) → IsRun (IsStep faces flow frames) IsEnded u pages → BeginsFrom n (p ∷ pages) 0
      begins_here low high u pages run = record { late = λ j e. omega arith; here = λ q at l j e. by starts (let same : p ≡ q = cc in subst (λ (x : Page). x.level ≤ 2) (sym same) l) j e }
        where
          starts : Starts faces flow.notes f.width n (is.list is.count)
          starts = starts_called faces flow.notes f.width n (carried_parts s.carried) (called s.at) (called cut.to) (is.list is.count) low high
              (subst (λ (at : Position). AreNoted faces flow.notes f.width (carried_parts s.carried ++ called_parts (called s.at) (called at)) (is.list is.count)) (sym is.to_is) (is.listed is.count is.within))

          must_stand : cut.level ≤ 2 → last_begin 0 (note_rows (is.list is.count)) ≤ 0 + is.number
          must_stand l =
              let low_level : nat_lt cut.level 3 ≡ true = grind (arith, nat_tests) in
              let least : least_of cut.level (must_of (note_rows (is.list is.count)) is.c) is.c (length is.own) ≡ must_of (note_rows (is.list is.count)) is.c =
              ap (λ (b : Bool). cond b (must_of (note_rows (is.list is.count)) is.c) (cond (eqb cut.level 3) is.c (cond (eqb (length is.own) 0) 0 1))) low_level in
              let placed = is.places.low in
              omega arith

          by : Starts faces flow.notes f.width n (is.list is.count) → p.level ≤ 2 → (j : ℕ) → begins_on (p ∷ pages) n ≡ Some j → j ≡ 0
          by (inl places) l j e =
              let stands : has_note n p ≡ true = note_is ∙ places 0 is.number (must_stand (subst (λ (k : ℕ). k ≤ 2) level_is l)) in
              let first : begins_on (p ∷ pages) n ≡ Some 0 = ap (λ (b : Bool). cond b (Some 0) (option_map suc (begins_on pages n))) stands in
              let g : Some 0 ≡ Some j = sym first ∙ e in
              cc
          by (inr none) l j e =
              let same : none.0 ≡ note = (let g : Some none.0 ≡ Some note = sym none.1 ∙ has in cc) in
              let body : solid_after note.body 0 ≡ None = subst (λ (x : Note). solid_after x.body 0 ≡ None) same none.2 in
              let own = lacks p separator is.number (is.list is.count) (notes_are ∙ is.notes_is) (none_noted faces flow.notes f.width n note has body (parts_after flow s.at s.carried is.solids is.count) (is.list is.count) (is.listed is.count is.within)) in
              let g : None ≡ Some j = sym (first_none (has_note n) (p ∷ pages) (All-cons (λ (q : Page). has_note n q ≡ false) p pages own (none_on body u pages run))) ∙ e in
              absurd (cc)

      -- where solids are left after it, its last one ends after all notes that are called on it, and before the others
      module _ (x : SolidView) (next : slice_get is.solids is.count ≡ Some x) where
        to_next : cut.to ≡ x.placed_at
        to_next = is.to_is ∙ ap (place_after flow.main) next

        inside : cut.to.event < length flow.main.events
        inside = subst (λ (at : Position). at.event < length flow.main.events) (sym to_next) (inside_rest faces flow.main f.width s.at is.solids is.count x is.rest next).1

        ends_here : n < called cut.to → has_end_after anchor p ≡ true
        ends_here high =
            let e = cut_ends faces flow.main f.width can.main.is s.at is.solids is.count x st.stands is.rest next in
            let w = slice_get_within is.solids is.count x next in
            ends_is ∙ e.last (some_placed (omega arith)) anchor (subst (λ (at : Position). is_before anchor (end_before flow.main at) ≡ true) to_next (called_yes flow.main flow.notes n note has cut.to inside high))

        ends_before : called cut.to ≤ n → has_end_after anchor p ≡ false
        ends_before low =
            let e = cut_ends faces flow.main f.width can.main.is s.at is.solids is.count x st.stands is.rest next in
            let isnt : is_before anchor (end_before flow.main x.placed_at) ≡ false = subst (λ (at : Position). is_before anchor (end_before flow.main at) ≡ false) to_next (called_no flow.main flow.notes n note has cut.to inside can.calls low) in
            ends_is ∙ list_any_none (λ (v : SolidView). is_before anchor v.end) (take is.count is.solids) (λ k d h. before_not anchor (get_or (take is.count is.solids) k d).end (end_before flow.main x.placed_at) (e.ends k d h) isnt)

        goes_on : cut.ended ≡ false
        goes_on = let w = slice_get_within is.solids is.count x next in is.ended_is ∙ ne_eqb is.count (length is.solids) (λ e. omega arith)

        at_solid : solid_after flow.main cut.to.event ≡ Some cut.to.event
        at_solid = subst (λ (at : Position). solid_after flow.main at.event ≡ Some at.event) (sym to_next) (rest_solid faces flow.main f.width can.main.is s.at is.solids is.count x is.rest next)

      -- where none is left, the flow has ended
      all_called : slice_get is.solids is.count ≡ None → called cut.to ≡ length flow.notes
      all_called e = ap (λ (at : Position). called at) (is.to_is ∙ ap (place_after flow.main) e) ∙ called_end flow.main flow.notes

      ends_all : slice_get is.solids is.count ≡ None → cut.ended ≡ true
      ends_all e = is.ended_is ∙ ⊎_elim
          (λ (l : is.count < length is.solids). let x = slice_get_at is.solids is.count l in let g : None ≡ Some x.0 = sym e ∙ x.1 in absurd (cc))
          (λ (l : length is.solids ≤ is.count). let w = is.within in eq-eqb is.count (length is.solids) (omega arith))
          (cases_lt is.count (length is.solids))

      owns_last : 0 < length is.solids → (pages : List Page) → All (λ (q : Page). q.solids ≡ []) pages → OwnsAt anchor (p ∷ pages) 0
      owns_last some pages none = by (has_end_after anchor p) refl
        where
          no_end : All (λ (q : Page). has_end_after anchor q ≡ false) pages
          no_end = λ k d h. ap (list_any (ends_after anchor)) (none k d h)

          no_solid : All (λ (q : Page). has_solid q ≡ false) pages
          no_solid = λ k d h. ap (λ (ps : List Placed). not (length ps == 0)) (none k d h)

          by : (b : Bool) → has_end_after anchor p ≡ b → OwnsAt anchor (p ∷ pages) 0
          by true e = inl (ap (λ (b : Bool). cond b (Some 0) (option_map suc (first_place (has_end_after anchor) pages))) e)
          by false e = inr (
            before_all (has_end_after anchor) p pages e ∙ ap (option_map suc) (first_none (has_end_after anchor) pages no_end),
            ap (last_or_here (has_solid p)) (last_none has_solid pages no_solid) ∙ ap (λ (b : Bool). cond b (Some 0) None) (has_some_solid some),
          )

    -- ---- the pages from a state on
    rest_some : (w : ℤ) (from : Position) (solids : List SolidView) (e : ℕ) → solid_after flow.main from.event ≡ Some e → IsRemainder faces flow.main w from solids → 0 < length solids
    rest_some w from [] e some r = absurd (let f : None ≡ Some e = sym r ∙ some in cc)
    rest_some w from (x ∷ solids) e some r = omega arith

    begins_on_pages : (s : State) (pages : List Page) (e : ℕ) → Stays flow s → s.done ≡ false → called s.at ≤ n → solid_after flow.main s.at.event ≡ Some e → IsRun (IsStep faces flow frames) IsEnded s pages → Begins n anchor pages
    begins_on_pages s [] e st going low some r = absurd (let f : true ≡ false = sym r.done ∙ going in cc)
    begins_on_pages s (p ∷ pages) e st going low some r = by r.0 r.1 r.2 (stays_step faces flow can frames s p r.0 st r.1) (λ d st' going' low' some'. begins_on_pages r.0 pages d st' going' low' some' r.2)
      where
        by : (u : State) → IsStep faces flow frames s p u → IsRun (IsStep faces flow frames) IsEnded u pages → Stays flow u → ((d : ℕ) → Stays flow u → u.done ≡ false → called u.at ≤ n → solid_after flow.main u.at.event ≡ Some d → Begins n anchor pages) → Begins n anchor (p ∷ pages)
        by u (blank on misses p_is u_is) run su more =
            begins_later n anchor p pages (ap (has_end_after anchor) p_is) (ap (has_note n) p_is)
            (more e su (ap (λ (v : State). v.done) u_is ∙ going) (subst (λ (v : State). called v.at ≤ n) (sym u_is) low) (ap (λ (v : State). solid_after flow.main v.at.event) u_is ∙ some))
        by u (noted over left_some notes left is p_is u_is) run su more = absurd (let f : true ≡ false = sym over ∙ going in cc)
        by u (flows on meets cut is p_is u_is) run su more = cases (slice_get is.solids is.count) refl (cases_lt n (called cut.to))
          where
            f : Frame
            f = frames.frame_of s.index (name_at flow.main s.at) kind.Flow

            solids_are : p.solids ≡ cut.solids
            solids_are = ap (λ (q : Page). q.solids) p_is

            notes_are : p.notes ≡ cut.notes
            notes_are = ap (λ (q : Page). q.notes) p_is

            level_is : p.level ≡ cut.level
            level_is = ap (λ (q : Page). q.level) p_is

            cases : (o : Option SolidView) → slice_get is.solids is.count ≡ o → (n < called cut.to) ⊎ (called cut.to ≤ n) → Begins n anchor (p ∷ pages)
            cases (Some x) next (inl high) =
                let ends = ends_here f s cut st is p solids_are notes_are level_is x next high in
                (0, inl (ap (λ (b : Bool). cond b (Some 0) (option_map suc (first_place (has_end_after anchor) pages))) ends), begins_here f s cut st is p solids_are notes_are level_is low high u pages run)
            cases (Some x) next (inr less) =
                begins_later n anchor p pages (ends_before f s cut st is p solids_are notes_are level_is x next less) (none_later f s cut st is p solids_are notes_are level_is less)
                (more cut.to.event su (ap (λ (v : State). v.done) u_is ∙ goes_on f s cut st is p solids_are notes_are level_is x next) (subst (λ (v : State). called v.at ≤ n) (sym u_is) less)
                (ap (λ (v : State). solid_after flow.main v.at.event) u_is ∙ at_solid f s cut st is p solids_are notes_are level_is x next))
            cases None next high =
                let all = all_called f s cut st is p solids_are notes_are level_is next in
                let w = slice_get_within flow.notes n note has in
                let over : u.done ≡ true = ap (λ (v : State). v.done) u_is ∙ ends_all f s cut st is p solids_are notes_are level_is next in
                (0, owns_last f s cut st is p solids_are notes_are level_is (rest_some f.width s.at is.solids e some is.rest) pages (after_done u pages over run), begins_here f s cut st is p solids_are notes_are level_is low (omega arith) u pages run)

    -- ---- a flow without solids: its only page is the first one
    abbrev Found : List Page → Type 0
    Found pages = (k : ℕ) × (page_of flow.main pages note.call ≡ k) × BeginsFrom n pages k

    found_on : (pages : List Page) → Begins n anchor pages → Found pages
    found_on pages (k, owns, begins) = (k, by owns, begins)
      where
        by : OwnsAt anchor pages k → page_of flow.main pages note.call ≡ k
        by (inl e) = ap (λ (o : Option ℕ). unwrap_or o (last_page pages)) e
        by (inr e) = ap (λ (o : Option ℕ). unwrap_or o (last_page pages)) e.0 ∙ ap (λ (o : Option ℕ). unwrap_or o 0) e.1

    no_solids : (w : ℤ) (from : Position) (solids : List SolidView) → solid_after flow.main from.event ≡ None → IsRemainder faces flow.main w from solids → solids ≡ []
    no_solids w from [] none r = refl
    no_solids w from (x ∷ solids) none r = absurd (let f : None ≡ Some x.placed_at.event = sym none ∙ r.1.0.found in cc)

    no_demand : solid_after flow.main 0 ≡ None → (start_of flow.main).demand ≡ None
    no_demand none = ap (λ (o : Option ℕ). (seam_between flow.main (pos 0) (solid_behind flow.main o) o).forced) none

    first_page : (pages : List Page) → All (λ (q : Page). q.solids ≡ []) pages → page_of flow.main pages note.call ≡ 0
    first_page pages none =
        ap (λ (o : Option ℕ). unwrap_or o (last_page pages)) (first_none (has_end_after anchor) pages (λ k d h. ap (list_any (ends_after anchor)) (none k d h)))
        ∙ ap (λ (o : Option ℕ). unwrap_or o 0) (last_none has_solid pages (λ k d h. ap (λ (ps : List Placed). not (length ps == 0)) (none k d h)))

    empty_flow : solid_after flow.main 0 ≡ None → (pages : List Page) → IsPaged faces flow frames pages → Found pages
    empty_flow none [] paged = absurd (let f : true ≡ false = sym paged.done in cc)
    empty_flow none (p ∷ pages) paged = by paged.0 paged.1 paged.2
      where
        s : State
        s = start_of flow.main

        by : (u : State) → IsStep faces flow frames s p u → IsRun (IsStep faces flow frames) IsEnded u pages → Found (p ∷ pages)
        by u (blank on misses p_is u_is) run = absurd (let f : true ≡ false = sym (ap (meets_at frames 1) (no_demand none)) ∙ misses in cc)
        by u (noted over some notes left is p_is u_is) run = absurd (let f : true ≡ false = sym over in cc)
        by u (flows on meets cut is p_is u_is) run =
            let f : Frame = frames.frame_of s.index (name_at flow.main s.at) kind.Flow in
            let solids_are : p.solids ≡ cut.solids = ap (λ (q : Page). q.solids) p_is in
            let notes_are : p.notes ≡ cut.notes = ap (λ (q : Page). q.notes) p_is in
            let level_is : p.level ≡ cut.level = ap (λ (q : Page). q.level) p_is in
            let empty : is.solids ≡ [] = no_solids f.width s.at is.solids none is.rest in
            let next : slice_get is.solids is.count ≡ None = ap (λ (vs : List SolidView). slice_get vs is.count) empty in
            let st = stays_start flow in
            let all = all_called f s cut st is p solids_are notes_are level_is next in
            let w = slice_get_within flow.notes n note has in
            let start : called s.at ≡ 0 = called_start flow.main flow.notes can.main.tree.whole.some in
            let over : u.done ≡ true = ap (λ (v : State). v.done) u_is ∙ ends_all f s cut st is p solids_are notes_are level_is next in
            let own : p.solids ≡ [] = solids_are ∙ is.solids_is ∙ ap (λ (vs : List SolidView). placed_from (first_gap s.kept is.solids) (take is.count vs)) empty ∙ ap (placed_from (first_gap s.kept is.solids)) (take-nil is.count) in
            (0, first_page (p ∷ pages) (All-cons (λ (q : Page). q.solids ≡ []) p pages own (after_done u pages over run)), begins_here f s cut st is p solids_are notes_are level_is (omega arith) (omega arith) u pages run)

    found : (pages : List Page) → IsPaged faces flow frames pages → Found pages
    found pages paged = by (solid_after flow.main 0) refl
      where
        by : (o : Option ℕ) → solid_after flow.main 0 ≡ o → Found pages
        by None none = empty_flow none pages paged
        by (Some e) some =
            let start : called start_place ≡ 0 = called_start flow.main flow.notes can.main.tree.whole.some in
            found_on pages (begins_on_pages (start_of flow.main) pages e (stays_start flow) refl (omega arith) some paged)

  pub paged_begins : (pages : List Page) → IsPaged faces flow frames pages → BeginInTime flow pages
  paged_begins pages paged n k note has e =
      let f = found n note has pages paged in
      record {
        later = subst (λ (i : ℕ). i ≤ k) (sym f.1) (f.2.late k e);
        here = λ p at low. f.2.here p (ap (slice_get pages) (sym f.1) ∙ at) low k e ∙ sym f.1;
      }
