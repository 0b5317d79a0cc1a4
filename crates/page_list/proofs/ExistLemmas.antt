-- A page has a cut, and a flow a page list.
use Rattle.std.proofs.Common.{◌≡◌, ◌≢◌, ◌<◌, ◌≤◌, ◌+◌, ◌-◌, ◌==◌, ◌≤ℤ◌, ◌+ℤ◌, ◌-ℤ◌, ℕ, zero, suc, ℤ, pos, Bool, true, false, cond, eqb, ltb, List, [], ◌∷◌, ◌++◌, Option, None, Some, length, map, take, drop, max, slice_get, refl, sym, ap, ◌∙◌, subst, arith, ◌⊎◌, ⊎_elim, inl, inr, add-one, length-append}
use Rattle.std.specs.List.{range_with_len, prefix_len}
use Rattle.std.proofs.lemmas.Bool.Decides.{eqb_tells}
use Rattle.std.proofs.lemmas.Int.{ints, by_lt_z}
use Rattle.std.proofs.lemmas.List.{length-map}
use Rattle.std.proofs.lemmas.List.Sums.{prefix_len-le-length}
use Rattle.metrics.specs.Face.{FontFace}
use Rattle.boxes.specs.Steps.{IsRun}
use Rattle.boxes.specs.Tree.{Tree, IsTree}
use Rattle.boxes.specs.declared.flow.Flow.{Flow}
use Rattle.boxes.specs.declared.flow.Note.{Note}
use Rattle.boxes.specs.declared.frames.Demand.{Demand}
use Rattle.boxes.specs.declared.frames.Frame.{Frame}
use Rattle.boxes.specs.declared.frames.PageKind.TheVariants as kind
use Rattle.bk_num.specs.declared.ids.NameId.{NameId}
use Rattle.boxes.specs.declared.page.Page.{Page}
use Rattle.boxes.specs.declared.page.Placed.{Placed}
use Rattle.boxes.specs.declared.place.Position.{Position}
use Rattle.boxes.proofs.ListLemmas.{slice_get_at}
use Rattle.seams.specs.Runs.{solid_after}
use Rattle.seams.specs.Seams.{seam_of}
use Rattle.cursor.specs.Remainder.{SolidView, IsRemainder}
use Rattle.cursor.proofs.RemLemmas.{Stands, left_from, remainder_from, solid_stands, place_stands}
use Rattle.cuts.specs.declared.row.SolidRow.{SolidRow}
use Rattle.cuts.specs.Cuts.{NoteLists, Fits, FitsLoosely}
use Rattle.cuts.specs.Cuts.IsCut.{at_level, at_loose, at_first}
use Rattle.cuts.specs.Rows.{AreForcedBetween, rows_reach}
use Rattle.cuts.proofs.CutLemmas.{cut_exists, cut_within}
use Rattle.notes.specs.declared.solid.NoteSolid.{NoteSolid}
use Rattle.bk_num.specs.Limits.{separator}
use Rattle.notes.specs.Notes.{IsCarryCount, IsPlaced, area_of, must_of}
use Rattle.notes.proofs.NoteLemmas.{IsGreatest, greatest_none, greatest_step, carried_by, placed_by, must_within}
use Rattle.page_seq.specs.Places.{anchor_of, is_before}
use Rattle.note_list.specs.Calls.{called_before, end_before, start_place}
use Rattle.note_list.specs.Lists.{NotePart, AreNoted, noted, carried_parts, called_parts, placed_notes, left_of, note_rows}
use Rattle.note_list.specs.Places.{least_of}
use Rattle.note_list.specs.declared.carried.Carried.{Carried}
use Rattle.note_list.specs.declared.solid.NotedSolid.{NotedSolid}
use Rattle.note_list.proofs.NotedLemmas.{noted_join}
use Rattle.page_list.specs.declared.cut.Cut.{Cut}
use Rattle.page_list.specs.declared.cut.CutFrom.{CutFrom}
use Rattle.page_list.specs.Cuts.{IsBestCut, IsFlowCut, IsNotesCut, IsPagePoint, rows_of, first_gap, placed_from, place_after, forced_after, parts_after}
use Rattle.boxes.specs.Frames.{PageFrames}
use Rattle.page_list.specs.Pages.{State, IsStep, IsEnded, HasSomePageList, MeetAll, meets_at, blank_page, name_at, flow_page, notes_page, after_flow, is_forced}
use Rattle.page_list.specs.Pages.IsStep.{blank, flows, noted as notes_step}
use Rattle.page_list.proofs.BetweenLemmas.{rest_between}
use Rattle.page_list.proofs.CarriedLemmas.{AreTrees, are_trees}
use Rattle.page_list.proofs.FallLemmas.{GoOn, HaveNotes, have_append, have_carried, weight, carried_weight, list_low, list_falls, place_falls}
use Rattle.page_list.proofs.NextLemmas.{start_stands}
use Rattle.page_list.proofs.OneLemmas.{rows_length}

-- ---- numbers
-- whether a number is at most another is told
told_by : (P : Type 0) (a b : ℤ) → (a ≤ℤ b → P) → (P → a ≤ℤ b) → P ⊎ (P → ⊥)
told_by P a b there back = by_lt_z {P = P ⊎ (P → ⊥)} b a (λ over. inr (λ p. let low = back p in omega (arith, ints))) (λ low. inl (there low))

greatest_exists : (fits : ℕ → Type 0) → ((k : ℕ) → fits k ⊎ (fits k → ⊥)) → (at : ℕ) → (number : ℕ) × IsGreatest fits at number
greatest_exists fits known zero = (0, greatest_none fits)
greatest_exists fits known (suc at) = by (known (at + 1)) (greatest_exists fits known at)
  where
    by : fits (at + 1) ⊎ (fits (at + 1) → ⊥) → (number : ℕ) × IsGreatest fits at number → (number : ℕ) × IsGreatest fits (suc at) number
    by (inl f) (number, g) = (at + 1, subst (λ (k : ℕ). IsGreatest fits k (at + 1)) (add-one at) (greatest_step fits at number (at + 1) g (inl refl) (λ h. f) (λ h. refl)))
    by (inr n) (number, g) = (number, subst (λ (k : ℕ). IsGreatest fits k number) (add-one at) (greatest_step fits at number number g (inr refl) (λ h. absurd (omega arith)) (λ f. absurd (n f))))

pub carry_exists : (list : List NoteSolid) (carried : ℕ) (height : ℤ) → (c : ℕ) × IsCarryCount list carried height c
carry_exists list zero height = (0, record { none = λ z. refl; some = λ z. absurd (omega arith); within = omega arith; half = λ h. absurd (omega arith); greatest = λ k low f. low })
carry_exists list (suc carried) height =
    let g = greatest_exists (λ k. (area_of list k +ℤ area_of list k) ≤ℤ height) (λ k. told_by ((area_of list k +ℤ area_of list k) ≤ℤ height) (area_of list k +ℤ area_of list k) height (λ f. f) (λ f. f)) (suc carried) in
    (max g.0 1, carried_by list (suc carried) height g.0 (omega arith) g.1)

pub places_exist : (list : List NoteSolid) (least : ℕ) (room : ℤ) → least ≤ length list → (n : ℕ) × IsPlaced list least room n
places_exist list least room low =
    let g = greatest_exists (λ k. area_of list k ≤ℤ room) (λ k. told_by (area_of list k ≤ℤ room) (area_of list k) room (λ f. f) (λ f. f)) (length list) in
    (max g.0 least, placed_by list least room g.0 low g.1)

pub least_within : (level must c carried n : ℕ) → must ≤ n → c ≤ n → carried ≤ n → least_of level must c carried ≤ n
least_within level must c carried n m l h = by (ltb level 3) (eqb level 3) (eqb_tells carried 0)
  where
    by : (x y : Bool) → ((eqb carried 0 ≡ true) × (carried ≡ 0)) ⊎ ((eqb carried 0 ≡ false) × (carried ≢ 0)) → cond x must (cond y c (cond (eqb carried 0) 0 1)) ≤ n
    by true y e = m
    by false true e = l
    by false false (inl e) = rw e.0 (omega arith)
    by false false (inr e) = rw e.0 (let d = e.1 in omega arith)

-- ---- cuts
pub record HasBest (kept : Bool) (rows : List SolidRow) (height : ℤ) (list : NoteLists) (c level j : ℕ) : Type 0 where
  pub best : IsBestCut kept rows height list c level j
  pub within : j ≤ length rows
  pub some : 0 < length rows → 0 < j

none_best : (kept : Bool) (height : ℤ) (list : NoteLists) (c : ℕ) → (level : ℕ) × HasBest kept [] height list c level 0
none_best kept height list c = by
    (told_by (Fits kept [] height list c 0) (rows_reach kept [] 0 +ℤ area_of (list 0) (must_of (list 0) c)) height (λ f. f) (λ f. f))
    (told_by (FitsLoosely kept [] height list c 0) (rows_reach kept [] 0 +ℤ area_of (list 0) c) height (λ f. f) (λ f. f))
  where
    at_zero : (P : ℕ → Type 0) → (P 0 → ⊥) → (l k : ℕ) → IsPagePoint [] l k → P k → ⊥
    at_zero P none l k p f = none (subst P p.1 f)

    made : (level : ℕ) → IsBestCut kept [] height list c level 0 → HasBest kept [] height list c level 0
    made level b = record { best = b; within = omega arith; some = λ h. absurd (omega arith) }

    by : Fits kept [] height list c 0 ⊎ (Fits kept [] height list c 0 → ⊥) → FitsLoosely kept [] height list c 0 ⊎ (FitsLoosely kept [] height list c 0 → ⊥) → (level : ℕ) × HasBest kept [] height list c level 0
    by (inl f) g = (0, made 0 (at_level (omega arith) (λ l k h p. absurd (omega arith)) (refl, refl) f (λ k p h. let e = p.1 in omega arith)))
    by (inr n) (inl f) = (3, made 3 (at_loose refl (λ l k h p. at_zero (Fits kept [] height list c) n l k p) 0 (omega arith) (refl, refl) f (λ l k h p q. let e = p.1 in omega arith)))
    by (inr n) (inr m) = (4, made 4 (at_first refl (λ l k h p. at_zero (Fits kept [] height list c) n l k p) (λ l k h p. at_zero (FitsLoosely kept [] height list c) m l k p) 0 (omega arith) (refl, refl) (λ l k h p. omega arith)))

pub best_exists : (kept : Bool) (rows : List SolidRow) (height : ℤ) (list : NoteLists) (c : ℕ) → AreForcedBetween rows → (level : ℕ) × (j : ℕ) × HasBest kept rows height list c level j
best_exists kept [] height list c between = let b = none_best kept height list c in (b.0, 0, b.1)
best_exists kept (r ∷ rows) height list c between =
    let b = cut_exists kept (r ∷ rows) height list c (omega arith) between in
    let w = cut_within (r ∷ rows) b.0 b.1 b.2 in
    (b.0, b.1, record { best = b.2; within = w.1; some = λ h. w.0 })

-- ---- lists of notes
module _ (faces : List FontFace) (notes : List Note) (trees : AreTrees notes) (w : ℤ) where
  pub noted_exists : (parts : List NotePart) → HaveNotes notes parts → (list : List NotedSolid) × AreNoted faces notes w parts list
  noted_exists [] h = ([], refl)
  noted_exists (p ∷ parts) h =
      let rem = remainder_from faces h.0.note.body w p.at (trees p.note h.0.note h.0.has) h.0.stands in
      let rest = noted_exists parts h.1 in
      (map (noted h.0.note.body p) rem.0 ++ rest.0, (h.0.note, h.0.has, rem.0, rem.1, rest.0, rest.1, refl))

abbrev called_part : ℕ → NotePart
called_part n = record { note = n; at = start_place; called = true }

have_range : (notes : List Note) (from n : ℕ) → from + n ≤ length notes → HaveNotes notes (map called_part (range_with_len from n))
have_range notes from zero h = tt
have_range notes from (suc n) h =
    let there = slice_get_at notes from (omega arith) in
    (record { note = there.0; has = there.1; stands = start_stands there.0.body }, have_range notes (from + 1) n (omega arith))

pub have_called : (notes : List Note) (from to : ℕ) → from ≤ length notes → to ≤ length notes → HaveNotes notes (called_parts from to)
have_called notes from to h g = have_range notes from (to - from) (omega arith)

pub called_within : (t : Tree) (notes : List Note) (at : Position) → called_before t notes at ≤ length notes
called_within t notes at = by (at.event == length t.events)
  where
    by : (b : Bool) → cond b (length notes) (prefix_len (λ n. is_before (anchor_of t n.call) (end_before t at)) notes) ≤ length notes
    by true = omega arith
    by false = prefix_len-le-length (λ n. is_before (anchor_of t n.call) (end_before t at)) notes

-- a list of what is carried has a solid
pub carried_some : (faces : List FontFace) (notes : List Note) (w : ℤ) (c : Carried) (carried : List Carried) (list : List NotedSolid) → GoOn notes (c ∷ carried) → AreNoted faces notes w (carried_parts (c ∷ carried)) list → 0 < length list
carried_some faces notes w c carried list go (note, has, solids, rem, rest, more, is) = by solids rem is
  where
    by : (solids : List SolidView) → IsRemainder faces note.body w c.at solids → list ≡ map (noted note.body (record { note = c.note; at = c.at; called = false })) solids ++ rest → 0 < length list
    by [] r e =
        let same : go.0.note ≡ note = (let q : Some go.0.note ≡ Some note = sym go.0.has ∙ has in cc) in
        absurd (let f : None ≡ Some c.at.event = sym r ∙ ap (λ (x : Note). solid_after x.body c.at.event) (sym same) ∙ go.0.solid in cc)
    by (s ∷ solids) r e = subst (λ (l : List NotedSolid). 0 < length l) (sym e) (omega arith)

-- ---- a page's cut, which ends the flow or leaves less than before
pub record FlowGoes (faces : List FontFace) (flow : Flow) (frame : Frame) (from : CutFrom) (carried : List Carried) (cut : Cut) : Type 0 where
  pub is : IsFlowCut faces flow frame from carried cut
  pub there : Stands flow.main cut.to
  pub falls : cut.ended ≡ false → left_from flow.main cut.to < left_from flow.main from.at
  pub goes : GoOn flow.notes cut.carried

-- the places of solids are places of their tree
later_stands : (faces : List FontFace) (t : Tree) (w : ℤ) → IsTree t → (from : Position) (xs : List SolidView) (k : ℕ) (v : SolidView) → Stands t from → IsRemainder faces t w from xs → slice_get xs k ≡ Some v → Stands t v.placed_at
later_stands faces t w tree from [] k v st r e = absurd (cc)
later_stands faces t w tree from (x ∷ xs) zero v st r e = let same : x ≡ v = cc in subst (λ (s : SolidView). Stands t s.placed_at) same (place_stands faces t w from x tree st r.1.0)
later_stands faces t w tree from (x ∷ xs) (suc k) v st r e = later_stands faces t w tree r.0 xs k v (subst (Stands t) (sym r.1.1) (solid_stands faces t w from x tree st r.1.0)) r.2 e

module _ (faces : List FontFace) (flow : Flow) (tree : IsTree flow.main) (trees : AreTrees flow.notes) where
  pub cut_goes : (frame : Frame) (from : CutFrom) (carried : List Carried) → Stands flow.main from.at → GoOn flow.notes carried → (cut : Cut) × FlowGoes faces flow frame from carried cut
  cut_goes frame from carried st go = (cut, record { is = is; there = there; falls = falls; goes = (list_low faces flow.notes frame.width trees (parts_after flow from.at carried solids count) (list count) (parts_there count) (listed count within) None number).goes })
    where
      rest : (solids : List SolidView) × IsRemainder faces flow.main frame.width from.at solids
      rest = remainder_from faces flow.main frame.width from.at tree st

      solids : List SolidView
      solids = rest.0

      end_at : ℕ → Position
      end_at j = place_after flow.main (slice_get solids j)

      called_to : ℕ → List NotePart
      called_to j = called_parts (called_before flow.main flow.notes from.at) (called_before flow.main flow.notes (end_at j))

      called_there : (j : ℕ) → HaveNotes flow.notes (called_to j)
      called_there j = have_called flow.notes (called_before flow.main flow.notes from.at) (called_before flow.main flow.notes (end_at j)) (called_within flow.main flow.notes from.at) (called_within flow.main flow.notes (end_at j))

      parts_there : (j : ℕ) → HaveNotes flow.notes (parts_after flow from.at carried solids j)
      parts_there j = have_append flow.notes (carried_parts carried) (called_to j) (have_carried flow.notes carried go) (called_there j)

      own : (list : List NotedSolid) × AreNoted faces flow.notes frame.width (carried_parts carried) list
      own = noted_exists faces flow.notes trees frame.width (carried_parts carried) (have_carried flow.notes carried go)

      called : (j : ℕ) → (list : List NotedSolid) × AreNoted faces flow.notes frame.width (called_to j) list
      called j = noted_exists faces flow.notes trees frame.width (called_to j) (called_there j)

      list : ℕ → List NotedSolid
      list j = own.0 ++ (called j).0

      listed : (j : ℕ) → j ≤ length solids → AreNoted faces flow.notes frame.width (parts_after flow from.at carried solids j) (list j)
      listed j low = noted_join faces flow.notes frame.width (carried_parts carried) (called_to j) own.0 (called j).0 own.1 (called j).1

      carries : (c : ℕ) × IsCarryCount (note_rows own.0) (length own.0) frame.height c
      carries = carry_exists (note_rows own.0) (length own.0) frame.height

      c : ℕ
      c = carries.0

      rows : List SolidRow
      rows = rows_of flow.main solids

      cuts : (level : ℕ) × (j : ℕ) × HasBest from.kept rows frame.height (λ j. note_rows (list j)) c level j
      cuts = best_exists from.kept rows frame.height (λ j. note_rows (list j)) c (rest_between faces flow.main frame.width from.at tree st solids rest.1)

      level : ℕ
      level = cuts.0

      count : ℕ
      count = cuts.1

      size : length rows ≡ length solids
      size = rows_length flow.main solids

      within : count ≤ length solids
      within = let w = cuts.2.within in let e = size in omega arith

      some : 0 < length solids → 0 < count
      some h = let e = size in cuts.2.some (omega arith)

      notes : List NoteSolid
      notes = note_rows (list count)

      grown : length own.0 ≤ length notes
      grown =
          let n : length notes ≡ length (list count) = length-map (list count) (λ s. s.row) in
          let m = length-append own.0 (called count).0 in
          omega arith

      least : ℕ
      least = least_of level (must_of notes c) c (length own.0)

      low : least ≤ length notes
      low =
          let g = grown in
          let h = carries.1.within in
          let few : c ≤ length notes = omega arith in
          least_within level (must_of notes c) c (length own.0) (length notes) (must_within notes c few) few g

      numbers : (n : ℕ) × IsPlaced notes least (frame.height -ℤ rows_reach from.kept rows count) n
      numbers = places_exist notes least (frame.height -ℤ rows_reach from.kept rows count) low

      number : ℕ
      number = numbers.0

      cut : Cut
      cut = record {
        to = end_at count;
        ended = count == length solids;
        forced = forced_after (slice_get solids count);
        level = level;
        solids = placed_from (first_gap from.kept solids) (take count solids);
        notes = placed_notes separator (take number (list count));
        carried = left_of (drop number (list count));
      }

      is : IsFlowCut faces flow frame from carried cut
      is = record {
        solids = solids;
        rest = rest.1;
        list = list;
        listed = listed;
        own = own.0;
        owned = own.1;
        c = c;
        carries = carries.1;
        count = count;
        within = within;
        best = cuts.2.best;
        number = number;
        places = numbers.1;
        to_is = refl;
        ended_is = refl;
        forced_is = refl;
        solids_is = refl;
        notes_is = refl;
        carried_is = refl;
      }

      there : Stands flow.main (end_at count)
      there = by (slice_get solids count) refl
        where
          by : (o : Option SolidView) → slice_get solids count ≡ o → Stands flow.main (place_after flow.main o)
          by None e = record { within = omega arith; offset = λ o. absurd (omega arith) }
          by (Some s) e = later_stands faces flow.main frame.width tree from.at solids count s st rest.1 e

      falls : (count == length solids) ≡ false → left_from flow.main (end_at count) < left_from flow.main from.at
      falls e = ⊎_elim
          (λ (h : (eqb count (length solids) ≡ true) × (count ≡ length solids)). absurd (let f = h.0 in cc))
          (λ (h : (eqb count (length solids) ≡ false) × (count ≢ length solids)).
          let n = h.1 in
          let w = within in
          let v = slice_get_at solids count (omega arith) in
          subst (λ (o : Option SolidView). left_from flow.main (place_after flow.main o) < left_from flow.main from.at) (sym v.1)
          (place_falls faces flow.main frame.width tree from.at solids count v.0 st rest.1 (some (omega arith)) v.1))
          (eqb_tells count (length solids))

  -- ---- the pages after the flow
  -- the state of a page list once the flow has ended, and before
  abbrev noted_at : Position → Bool → Option Demand → NameId → ℕ → List Carried → State
  noted_at at kept demand name index carried = record { at = at; index = index; kept = kept; demand = demand; done = true; carried = carried; name = name }

  abbrev state_at : Position → Bool → Option Demand → NameId → List Carried → ℕ → State
  state_at at kept demand name carried index = record { at = at; index = index; kept = kept; demand = demand; done = false; carried = carried; name = name }

  abbrev Runs : PageFrames → State → Type 0
  Runs frames s = (pages : List Page) × IsRun (IsStep faces flow frames) IsEnded s pages

  notes_cut : (frame : Frame) (c : Carried) (carried : List Carried) → GoOn flow.notes (c ∷ carried) →
      (notes : List (ℕ × Placed)) × (left : List Carried) × IsNotesCut faces flow frame (c ∷ carried) notes left × GoOn flow.notes left × (weight flow.notes left < weight flow.notes (c ∷ carried))
  notes_cut frame c carried go =
      let have = have_carried flow.notes (c ∷ carried) go in
      let list = noted_exists faces flow.notes trees frame.width (carried_parts (c ∷ carried)) have in
      let some = carried_some faces flow.notes frame.width c carried list.0 go list.1 in
      let size : length (note_rows list.0) ≡ length list.0 = length-map list.0 (λ s. s.row) in
      let number = places_exist (note_rows list.0) 1 frame.height (omega arith) in
      let one = number.1.low in
      let less = list_falls faces flow.notes frame.width trees (record { note = c.note; at = c.at; called = false }) (carried_parts carried) list.0 have list.1 number.0 (omega arith) in
      let same = carried_weight flow.notes (c ∷ carried) in
      (placed_notes separator (take number.0 list.0), left_of (drop number.0 list.0), record { list = list.0; listed = list.1; number = number.0; places = number.1; notes_is = refl; left_is = refl }, less.0, subst (λ (n : ℕ). weight flow.notes (left_of (drop number.0 list.0)) < n) same less.1)

  notes_run : (frames : PageFrames) (fuel : ℕ) (at : Position) (kept : Bool) (demand : Option Demand) (name : NameId) (index : ℕ) (carried : List Carried) → GoOn flow.notes carried → weight flow.notes carried < fuel → Runs frames (noted_at at kept demand name index carried)
  notes_run frames zero at kept demand name index carried go h = absurd (omega arith)
  notes_run frames (suc fuel) at kept demand name index [] go h = ([], record { done = refl; none = refl })
  notes_run frames (suc fuel) at kept demand name index (c ∷ carried) go h =
      let cut = notes_cut (frames.frame_of index name kind.Notes) c carried go in
      let less = cut.4 in
      let rest = notes_run frames fuel at kept demand name (suc index) cut.1 cut.3 (omega arith) in
      let s : State = noted_at at kept demand name index (c ∷ carried) in
      (notes_page frames s cut.0 ∷ rest.0, (noted_at at kept demand name (suc index) cut.1, notes_step refl refl cut.0 cut.1 cut.2 refl refl, rest.1))

  -- ---- blank pages up to one that meets the demand
  blanks_then : (frames : PageFrames) (k : ℕ) (at : Position) (kept : Bool) (demand : Option Demand) (name : NameId) (carried : List Carried) (index : ℕ) → meets_at frames (index + k) demand ≡ true → ((j : ℕ) → meets_at frames j demand ≡ true → Runs frames (state_at at kept demand name carried j)) → Runs frames (state_at at kept demand name carried index)
  blanks_then frames zero at kept demand name carried index met next = next index (let n : index + 0 ≡ index = omega arith in subst (λ (j : ℕ). meets_at frames j demand ≡ true) n met)
  blanks_then frames (suc k) at kept demand name carried index met next =
      let n : index + suc k ≡ suc index + k = omega arith in
      by (meets_at frames index demand) refl (blanks_then frames k at kept demand name carried (suc index) (subst (λ (j : ℕ). meets_at frames j demand ≡ true) n met) next)
    where
      by : (b : Bool) → meets_at frames index demand ≡ b → Runs frames (state_at at kept demand name carried (suc index)) → Runs frames (state_at at kept demand name carried index)
      by true e rest = next index e
      by false e rest = (blank_page frames flow.main (state_at at kept demand name carried index) ∷ rest.0, (state_at at kept demand name carried (suc index), blank refl e refl refl, rest.1))

  met_within : (frames : PageFrames) → MeetAll frames → (index : ℕ) (demand : Option Demand) → (k : ℕ) × (meets_at frames (index + k) demand ≡ true)
  met_within frames meet index None = (0, refl)
  met_within frames meet index (Some d) = meet index d

  -- ---- the pages from a place on
  pages_from : (frames : PageFrames) → MeetAll frames → (fuel : ℕ) (at : Position) (kept : Bool) (demand : Option Demand) (name : NameId) (carried : List Carried) (index : ℕ) → Stands flow.main at → GoOn flow.notes carried → left_from flow.main at < fuel → Runs frames (state_at at kept demand name carried index)
  pages_from frames meet zero at kept demand name carried index st go h = absurd (omega arith)
  pages_from frames meet (suc fuel) at kept demand name carried index st go h =
      let met = met_within frames meet index demand in
      blanks_then frames met.0 at kept demand name carried index met.1
      (λ j meets. flow_at j meets (λ cut there goes less. pages_from frames meet fuel cut.to (is_forced cut.forced) cut.forced (name_at flow.main at) cut.carried (suc j) there goes less))
    where
      Next : ℕ → Type 0
      Next j = (cut : Cut) → Stands flow.main cut.to → GoOn flow.notes cut.carried → left_from flow.main cut.to < fuel → Runs frames (state_at cut.to (is_forced cut.forced) cut.forced (name_at flow.main at) cut.carried (suc j))

      flow_at : (j : ℕ) → meets_at frames j demand ≡ true → Next j → Runs frames (state_at at kept demand name carried j)
      flow_at j meets next = by goes.0.ended refl (next goes.0)
        where
          goes : (cut : Cut) × FlowGoes faces flow (frames.frame_of j (name_at flow.main at) kind.Flow) (record { at = at; kept = kept }) carried cut
          goes = cut_goes (frames.frame_of j (name_at flow.main at) kind.Flow) (record { at = at; kept = kept }) carried st go

          s : State
          s = state_at at kept demand name carried j

          page : Page
          page = flow_page frames flow.main s goes.0

          after : State
          after = after_flow flow.main s goes.0

          step : IsStep faces flow frames s page after
          step = flows refl meets goes.0 goes.1.is refl refl

          after_is : (b : Bool) → goes.0.ended ≡ b → after ≡ record { at = goes.0.to; index = suc j; kept = is_forced goes.0.forced; demand = goes.0.forced; done = b; carried = goes.0.carried; name = name_at flow.main at }
          after_is b e = ap (λ (d : Bool). record { at = goes.0.to; index = suc j; kept = is_forced goes.0.forced; demand = goes.0.forced; done = d; carried = goes.0.carried; name = name_at flow.main at }) e

          by : (b : Bool) → goes.0.ended ≡ b → (Stands flow.main goes.0.to → GoOn flow.notes goes.0.carried → left_from flow.main goes.0.to < fuel → Runs frames (state_at goes.0.to (is_forced goes.0.forced) goes.0.forced (name_at flow.main at) goes.0.carried (suc j))) → Runs frames s
          by true e more =
              let rest = notes_run frames (suc (weight flow.notes goes.0.carried)) goes.0.to (is_forced goes.0.forced) goes.0.forced (name_at flow.main at) (suc j) goes.0.carried goes.1.goes (omega arith) in
              (page ∷ rest.0, (after, step, subst (λ (u : State). IsRun (IsStep faces flow frames) IsEnded u rest.0) (sym (after_is true e)) rest.1))
          by false e more =
              let less = goes.1.falls e in
              let rest = more goes.1.there goes.1.goes (omega arith) in
              (page ∷ rest.0, (after, step, subst (λ (u : State). IsRun (IsStep faces flow frames) IsEnded u rest.0) (sym (after_is false e)) rest.1))

pub pages_exist : HasSomePageList
pages_exist faces flow frames can meet =
    pages_from faces flow can.main.is (are_trees faces flow.notes can.notes) frames meet (suc (left_from flow.main start_place)) start_place true (seam_of flow.main start_place (pos 0)).forced (name_at flow.main start_place) [] 1 (start_stands flow.main) tt (omega arith)
