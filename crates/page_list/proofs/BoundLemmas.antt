-- How many pages a flow has at most: a flow page takes an edge or a character of the main tree, a note page one of a note, and blank pages
-- stand before sides that are asked.
use Rattle.std.proofs.Common.{◌≡◌, ◌≢◌, ◌<◌, ◌≤◌, ◌+◌, ◌-◌, ◌*◌, ◌==◌, ℕ, zero, suc, ℤ, pos, Bool, true, false, not, cond, eqb, List, [], ◌∷◌, Option, None, Some, length, max, drop, slice_get, refl, sym, ap, ◌∙◌, subst, arith, ◌⊎◌, ⊎_elim, inl, inr, suc-mul}
use Rattle.std.specs.Prelude.{◌&&◌}
use Rattle.std.proofs.Math.Nat.{mul-le-mul_right, max-eq_right, le-max_left}
use Rattle.std.proofs.lemmas.Bool.{cases_lt}
use Rattle.std.proofs.lemmas.Bool.Decides.{eqb_tells}
use Rattle.std.proofs.lemmas.List.{drop-drop, length-map}
use Rattle.bk_num.proofs.ListLemmas.{drop-next}
use Rattle.metrics.specs.Face.{FontFace}
use Rattle.boxes.specs.Steps.{IsRun}
use Rattle.boxes.specs.Tree.{Tree, IsTree}
use Rattle.boxes.specs.declared.flow.Flow.{Flow}
use Rattle.boxes.specs.declared.frames.Demand.{Demand}
use Rattle.boxes.specs.declared.frames.Frame.{Frame}
use Rattle.boxes.specs.declared.frames.PageKind.TheVariants as kind
use Rattle.boxes.specs.declared.page.Page.{Page}
use Rattle.boxes.specs.declared.page.Placed.{Placed}
use Rattle.boxes.specs.declared.place.Event.{Event}
use Rattle.boxes.specs.declared.place.Position.{Position}
use Rattle.boxes.proofs.ListLemmas.{slice_get_at}
use Rattle.cuts.proofs.CutLemmas.{cut_within}
use Rattle.seams.specs.Runs.{solid_after, is_solid, is_solid_at}
use Rattle.seams.specs.Seams.{seam_of, seam_before, seam_between, solid_behind, line_seam}
use Rattle.seams.specs.declared.seam_info.SeamInfo.{SeamInfo}
use Rattle.seams.proofs.RunLemmas.{after_solid}
use Rattle.cursor.specs.Remainder.{SolidView, IsRemainder}
use Rattle.cursor.proofs.RemLemmas.{Stands}
use Rattle.cursor.proofs.PartLemmas.{solid_itself}
use Rattle.note_list.specs.Calls.{called_before}
use Rattle.note_list.specs.Conditions.{CanBePaged}
use Rattle.note_list.specs.Lists.{carried_parts, called_parts, note_rows}
use Rattle.note_list.specs.declared.carried.Carried.{Carried}
use Rattle.note_list.specs.declared.solid.NotedSolid.{NotedSolid}
use Rattle.page_list.specs.Bounds.{HasTexts, HaveTexts, is_sided, most_pages_of, sided_among, sided_in}
use Rattle.page_list.specs.Cuts.{IsFlowCut, IsNotesCut, parts_after, place_after, row_of, rows_of}
use Rattle.page_list.specs.Laws.{MeetWithin}
use Rattle.boxes.specs.Frames.{PageFrames}
use Rattle.page_list.specs.Pages.{IsEnded, IsPaged, IsStep, State, after_blank, after_flow, meets_at, name_at, start_of}
use Rattle.page_list.specs.Pages.IsStep.{blank, flows, noted}
use Rattle.page_list.specs.declared.cut.Cut.{Cut}
use Rattle.page_list.specs.declared.cut.CutFrom.{CutFrom}
use Rattle.page_list.proofs.BreakLemmas.{Asks, Cuts, asks_step, cuts_of, none_ends, seam_next, unlike}
use Rattle.page_list.proofs.RestLemmas.{IsAtChar, begin_at_char, beyond, passed_low, passed_none, past_first, place, reached, rest_at, solid_takes}
use Rattle.page_list.proofs.StateLemmas.{Stays, cut_rise, stays_start, stays_step, trees}
use Rattle.page_list.proofs.WeightLemmas.{AtChars, IsLighter, are_texts, chars_append, chars_called, left_lighter, total, weight, weight_all}

module _ (free : Demand → Bool) (t : Tree) where
  -- ---- the sides that are asked from an event on
  abbrev sided_from : ℕ → ℕ
  sided_from k = sided_among free t k (drop k t.events)

  sided_mono : (es : List Event) (k j : ℕ) → sided_among free t (k + j) (drop j es) ≤ sided_among free t k es
  sided_mono es k zero = let n : k + 0 ≡ k = omega arith in subst (λ (m : ℕ). sided_among free t m es ≤ sided_among free t k es) (sym n) (omega arith)
  sided_mono [] k (suc j) = omega arith
  sided_mono (e ∷ es) k (suc j) =
      let n : k + suc j ≡ suc k + j = omega arith in
      let h = sided_mono es (suc k) j in
      subst (λ (m : ℕ). sided_among free t m (drop j es) ≤ sided_among free t k (e ∷ es)) (sym n) (omega arith)

  sided_later : (j k : ℕ) → j ≤ k → sided_from k ≤ sided_from j
  sided_later j k low =
      let n : j + (k - j) ≡ k = omega arith in
      let h = sided_mono (drop j t.events) j (k - j) in
      let e : drop (k - j) (drop j t.events) ≡ drop k t.events = drop-drop (k - j) j t.events ∙ ap (λ (m : ℕ). drop m t.events) n in
      subst (λ (es : List Event). sided_among free t k es ≤ sided_from j) e (subst (λ (m : ℕ). sided_among free t m (drop (k - j) (drop j t.events)) ≤ sided_from j) n h)

  abbrev asks_at : Position → Bool
  asks_at at = is_sided free (seam_of t at (pos 0)).forced

  -- a seam whose demand isn't free stands before a solid, and counts
  sided_at : (at : Position) → is_solid_at t.boxes (slice_get t.events at.event) ≡ true → asks_at at ≡ true → (at.offset ≡ 0) × (suc (sided_from (suc at.event)) ≡ sided_from at.event)
  sided_at at is asks = (none, by (slice_get t.events at.event) refl is)
    where
      none : at.offset ≡ 0
      none = go (eqb_tells at.offset 0)
        where
          go : ((eqb at.offset 0 ≡ true) × (at.offset ≡ 0)) ⊎ ((eqb at.offset 0 ≡ false) × (at.offset ≢ 0)) → at.offset ≡ 0
          go (inl h) = h.1
          go (inr h) = absurd (let f : false ≡ true = sym (ap (λ (b : Bool). is_sided free (cond b (seam_before t at.event (pos 0)) (line_seam t at.event (pos 0))).forced) h.0) ∙ asks in cc)

      asked : is_sided free (seam_of t (place at.event 0) (pos 0)).forced ≡ true
      asked = ap (λ (o : ℕ). asks_at (place at.event o)) (sym none) ∙ asks

      by : (o : Option Event) → slice_get t.events at.event ≡ o → is_solid_at t.boxes o ≡ true → suc (sided_from (suc at.event)) ≡ sided_from at.event
      by None e h = absurd (cc)
      by (Some event) e h =
          let both : (is_solid t.boxes event && is_sided free (seam_of t (place at.event 0) (pos 0)).forced) ≡ true = rw h asked in
          let here : sided_from at.event ≡ 1 + sided_from (suc at.event) = ap (sided_among free t at.event) (drop-next t.events at.event event e) ∙ ap (λ (b : Bool). cond b 1 0 + sided_from (suc at.event)) both in
          omega arith

  abbrev bit : Bool → ℕ
  bit b = cond b 1 0

  -- a page takes the side that is asked at its start
  page_asks : (faces : List FontFace) (w : ℤ) → IsTree t → HaveTexts t → (from : Position) (x : SolidView) (xs : List SolidView) (n : ℕ) (v : SolidView) → Stands t from → IsAtChar t from → IsRemainder faces t w from (x ∷ xs) → slice_get (x ∷ xs) (suc n) ≡ Some v → bit (asks_at from) + sided_from (beyond v.placed_at) ≤ sided_from (beyond from)
  page_asks faces w tree texts from x xs n v st char r e = by (asks_at from) refl
    where
      grows : beyond from ≤ beyond v.placed_at
      grows = (reached faces t w tree texts from (x ∷ xs) (suc n) v st char r e).grows

      by : (b : Bool) → asks_at from ≡ b → bit b + sided_from (beyond v.placed_at) ≤ sided_from (beyond from)
      by false h = let l = sided_later (beyond from) (beyond v.placed_at) grows in omega arith
      by true h =
          let a = solid_takes faces t w from x tree texts st char r.1.0 in
          let asks : asks_at x.placed_at ≡ true = ap (λ (i : SeamInfo). is_sided free i.forced) (sym (seam_next faces t w from x st r.1.0 (pos 0))) ∙ h in
          let s = sided_at x.placed_at a.solid asks in
          let head = s.1 in
          let flat : beyond x.placed_at ≡ x.placed_at.event = ap (λ (o : ℕ). cond (o == 0) x.placed_at.event (suc x.placed_at.event)) s.0 in
          let up = a.grows in
          let one = sided_later (beyond from) x.placed_at.event (omega arith) in
          let two = sided_later (suc x.placed_at.event) (beyond v.placed_at) (past_first faces t w tree texts from x xs n v st char r e) in
          omega arith

  -- a side that the flow's start asks is asked before its first solid
  start_sided : asks_at (place 0 0) ≡ true → 1 ≤ sided_from 0
  start_sided asks = by (solid_after t 0) refl
    where
      asked_by : Option ℕ → Bool
      asked_by o = is_sided free (seam_between t (pos 0) (solid_behind t o) o).forced

      by : (o : Option ℕ) → solid_after t 0 ≡ o → 1 ≤ sided_from 0
      by None e = absurd (let f : false ≡ true = sym (ap asked_by e) ∙ asks in cc)
      by (Some n) e =
          let is = (after_solid t 0 n e).1 in
          let here = solid_itself t n is in
          let s = sided_at (place n 0) is (ap asked_by (here ∙ sym e) ∙ asks) in
          let head = s.1 in
          let more = sided_later 0 n (omega arith) in
          omega arith

-- what a cut that doesn't end the flow leaves
record Leaves (free : Demand → Bool) (t : Tree) (from to : Position) : Type 0 where
  less : suc (rest_at t to) ≤ rest_at t from
  some : 1 ≤ rest_at t to
  at_char : IsAtChar t to
  asks : bit free t (asks_at free t from) + sided_from free t (beyond to) ≤ sided_from free t (beyond from)
  next : asks_at free t to ≡ true → 1 ≤ sided_from free t (beyond to)

cut_leaves : (free : Demand → Bool) (faces : List FontFace) (flow : Flow) (frame : Frame) (from : CutFrom) (carried : List Carried) (cut : Cut) → IsTree flow.main → HaveTexts flow.main → Stands flow.main from.at → IsAtChar flow.main from.at → IsFlowCut faces flow frame from carried cut → cut.ended ≡ false → Leaves free flow.main from.at cut.to
cut_leaves free faces flow frame from carried cut tree texts st char is going = by is.solids is.count is.rest (cuts_of faces flow frame from carried cut is)
  where
    t : Tree
    t = flow.main

    by : (solids : List SolidView) (count : ℕ) → IsRemainder faces t frame.width from.at solids → Cuts t frame.height from.kept solids cut count → Leaves free t from.at cut.to
    by [] count r at = absurd (let f : true ≡ false = sym (none_ends at) ∙ going in cc)
    by (x ∷ xs) zero r at = absurd (let w = (cut_within (rows_of t (x ∷ xs)) cut.level 0 at.best).0 in omega arith)
    by (x ∷ xs) (suc n) r at =
        let w = cut_within (rows_of t (x ∷ xs)) cut.level (suc n) at.best in
        let most = w.1 in
        let size : length (rows_of t (x ∷ xs)) ≡ length (x ∷ xs) = length-map (x ∷ xs) (row_of t) in
        let other : suc n ≢ length (x ∷ xs) = unlike (suc n) (length (x ∷ xs)) (sym at.ended_is ∙ going) in
        let v = slice_get_at (x ∷ xs) (suc n) (under (suc n) (length (x ∷ xs)) (omega arith) other) in
        let to : cut.to ≡ v.0.placed_at = at.to_is ∙ ap (place_after t) v.1 in
        let far = reached faces t frame.width tree texts from.at (x ∷ xs) (suc n) v.0 st char r v.1 in
        let taken = far.taken in
        let some = far.some in
        let low = passed_low t from.at st in
        let asks = page_asks free t faces frame.width tree texts from.at x xs n v.0 st char r v.1 in
        subst (Leaves free t from.at) (sym to) (record {
          less = omega arith;
          some = omega arith;
          at_char = far.at_char;
          asks = asks;
          next = λ h.
              let s = sided_at free t v.0.placed_at far.solid h in
              let head = s.1 in
              let flat : beyond v.0.placed_at ≡ v.0.placed_at.event = ap (λ (o : ℕ). cond (o == 0) v.0.placed_at.event (suc v.0.placed_at.event)) s.0 in
              rw flat (omega arith);
        })
      where
        under : (a b : ℕ) → a ≤ b → a ≢ b → a < b
        under a b low n = ⊎_elim (λ (h : a < b). h) (λ (h : b ≤ a). absurd (n (omega arith))) (cases_lt a b)

-- from each index on a page that meets a demand is near
abbrev AreNear : PageFrames → (Demand → Bool) → ℕ → Type 0
AreNear frames free bound = (index : ℕ) (d : Option Demand) → (k : ℕ) × (k ≤ cond (is_sided free d) bound 0) × (meets_at frames (index + k) d ≡ true)

are_near : (free : Demand → Bool) (bound : ℕ) (frames : PageFrames) → MeetWithin free bound frames → AreNear frames free bound
are_near free bound frames meet index None = (0, omega arith, refl)
are_near free bound frames meet index (Some d) = by (free d) refl
  where
    by : (b : Bool) → free d ≡ b → (k : ℕ) × (k ≤ cond (not b) bound 0) × (frames.meets (index + k) d ≡ true)
    by true e = (0, omega arith, meet.at_once (index + 0) d e)
    by false e = meet.some index d

-- the edges and characters of what a state carries
abbrev load : Flow → State → ℕ
load flow s = weight flow.notes (carried_parts s.carried)

-- what a state carries goes on at characters
abbrev Goes : Flow → State → Type 0
Goes flow s = AtChars flow.notes (carried_parts s.carried)

module _ (faces : List FontFace) (flow : Flow) (frames : PageFrames) (can : CanBePaged faces flow) (texts : HasTexts flow) where
  -- ---- the notes of a page
  cut_goes : (frame : Frame) (s : State) (cut : Cut) → Stays flow s → Goes flow s → IsFlowCut faces flow frame (record { at = s.at; kept = s.kept }) s.carried cut → AtChars flow.notes (carried_parts cut.carried)
  cut_goes frame s cut st goes is =
      let to : Position = place_after flow.main (slice_get is.solids is.count) in
      let chars : AtChars flow.notes (parts_after flow s.at s.carried is.solids is.count) = chars_append flow.notes (carried_parts s.carried) (called_parts (called_before flow.main flow.notes s.at) (called_before flow.main flow.notes to)) goes (chars_called flow.notes (are_texts flow texts) (called_before flow.main flow.notes s.at) (called_before flow.main flow.notes to)) in
      let size : length (note_rows (is.list is.count)) ≡ length (is.list is.count) = length-map (is.list is.count) (λ (x : NotedSolid). x.row) in
      let few : is.number ≤ length (is.list is.count) = subst (λ (n : ℕ). is.number ≤ n) size is.places.within in
      subst (λ (cs : List Carried). AtChars flow.notes (carried_parts cs)) (sym is.carried_is)
      (left_lighter faces flow.notes frame.width (trees faces flow can) (are_texts flow texts) 0 (called_before flow.main flow.notes cut.to) (parts_after flow s.at s.carried is.solids is.count) (is.list is.count) (cut_rise faces flow can frame s.kept s cut st is) chars (is.listed is.count is.within) is.number few).chars

  -- a note page takes a part of what is carried
  notes_lighter : (frame : Frame) (s : State) (notes : List (ℕ × Placed)) (left : List Carried) → Stays flow s → Goes flow s → IsNotesCut faces flow frame s.carried notes left → IsLighter flow.notes (load flow s) 1 left
  notes_lighter frame s notes left st goes is =
      let size : length (note_rows is.list) ≡ length is.list = length-map is.list (λ (x : NotedSolid). x.row) in
      let few : is.number ≤ length is.list = subst (λ (n : ℕ). is.number ≤ n) size is.places.within in
      let low = is.places.low in
      let l = left_lighter faces flow.notes frame.width (trees faces flow can) (are_texts flow texts) 0 (called_before flow.main flow.notes s.at) (carried_parts s.carried) is.list st.kept.rise goes is.listed is.number few in
      let less = l.less in
      subst (IsLighter flow.notes (load flow s) 1) (sym is.left_is) (record { chars = l.chars; less = omega arith })

  goes_step : (s : State) (p : Page) (u : State) → Stays flow s → Goes flow s → IsStep faces flow frames s p u → Goes flow u
  goes_step s p u st goes (blank going n p_is u_is) = subst (Goes flow) (sym u_is) goes
  goes_step s p u st goes (flows going m cut is p_is u_is) = subst (Goes flow) (sym u_is) (cut_goes (frames.frame_of s.index (name_at flow.main s.at) kind.Flow) s cut st goes is)
  goes_step s p u st goes (noted ended some notes left is p_is u_is) = subst (Goes flow) (sym u_is) (notes_lighter (frames.frame_of s.index s.name kind.Notes) s notes left st goes is).chars

  -- what a state carries is no more than all that the notes have
  load_low : (s : State) → Stays flow s → load flow s ≤ total flow.notes
  load_low s st = weight_all flow.notes 0 (called_before flow.main flow.notes s.at) (carried_parts s.carried) st.kept.rise

  -- ---- after the flow there are no more pages than parts of what is carried
  notes_few : (s : State) (pages : List Page) → Stays flow s → Goes flow s → s.done ≡ true → IsRun (IsStep faces flow frames) IsEnded s pages → length pages ≤ load flow s
  notes_few s [] st goes done r = omega arith
  notes_few s (p ∷ pages) st goes done r = by r.0 r.1 (λ done'. notes_few r.0 pages (stays_step faces flow can frames s p r.0 st r.1) (goes_step s p r.0 st goes r.1) done' r.2)
    where
      by : (u : State) → IsStep faces flow frames s p u → (u.done ≡ true → length pages ≤ load flow u) → length (p ∷ pages) ≤ load flow s
      by u (blank going n p_is u_is) more = absurd (let f : true ≡ false = sym done ∙ going in cc)
      by u (flows going m cut is p_is u_is) more = absurd (let f : true ≡ false = sym done ∙ going in cc)
      by u (noted ended some notes left is p_is u_is) more =
          let less = (notes_lighter (frames.frame_of s.index s.name kind.Notes) s notes left st goes is).less in
          let rest : length pages ≤ weight flow.notes (carried_parts left) = subst (λ (v : State). (v.done ≡ true → length pages ≤ load flow v)) u_is more done in
          omega arith

  -- ---- the pages from a state on
  module _ (free : Demand → Bool) (bound : ℕ) (near : AreNear frames free bound) where
    abbrev Size : ℕ → ℕ → State → List Page → Type 0
    Size k asked s pages = length pages ≤ k + ((max 1 (rest_at flow.main s.at) + total flow.notes) + asked * bound)

    bound_on : (s : State) (pages : List Page) (k asked : ℕ) → Stays flow s → Goes flow s → Asks faces flow frames can s → IsAtChar flow.main s.at → s.done ≡ false → meets_at frames (s.index + k) s.demand ≡ true →
        sided_from free flow.main (beyond s.at) ≤ bit free flow.main (asks_at free flow.main s.at) + asked → IsRun (IsStep faces flow frames) IsEnded s pages → Size k asked s pages
    bound_on s [] k asked st goes asks char going met sided ended = absurd (let f : true ≡ false = sym ended.done ∙ going in cc)
    bound_on s (p ∷ pages) k asked st goes asks char going met sided r = by r.0 r.1 (stays_step faces flow can frames s p r.0 st r.1) (goes_step s p r.0 st goes r.1) (asks_step faces flow frames can s p r.0 st asks r.1) r.2
        (bound_on r.0 pages)
      where
        t : Tree
        t = flow.main

        More : State → Type 0
        More u = (j n : ℕ) → IsAtChar flow.main u.at → u.done ≡ false → meets_at frames (u.index + j) u.demand ≡ true → sided_from free flow.main (beyond u.at) ≤ bit free flow.main (asks_at free flow.main u.at) + n → Size j n u pages

        Goal : Type 0
        Goal = Size k asked s (p ∷ pages)

        empty : (j : ℕ) → meets_at frames s.index s.demand ≡ false → meets_at frames (s.index + j) s.demand ≡ true → (Size (j - 1) asked s pages) ⊎ (j ≡ 0) → Size j asked s (p ∷ pages)
        empty zero misses meets h = absurd (let n : s.index + 0 ≡ s.index = omega arith in let f : false ≡ true = sym misses ∙ ap (λ (i : ℕ). meets_at frames i s.demand) (sym n) ∙ meets in cc)
        empty (suc j) misses meets (inl h) = omega arith
        empty (suc j) misses meets (inr h) = absurd (omega arith)

        page : (cut : Cut) → IsFlowCut faces flow (frames.frame_of s.index (name_at flow.main s.at) kind.Flow) (record { at = s.at; kept = s.kept }) s.carried cut → Asks faces flow frames can (after_flow flow.main s cut) → More (after_flow flow.main s cut) → cut.ended ≡ false → Goal
        page cut is next more on =
            let f : Frame = frames.frame_of s.index (name_at t s.at) kind.Flow in
            let l = cut_leaves free faces flow f (record { at = s.at; kept = s.kept }) s.carried cut can.main.is texts.main st.stands char is on in
            let m = near (suc s.index) cut.forced in
            asked_by l m.0 (asks_at free t cut.to) refl (subst (λ (d : Option Demand). m.0 ≤ cond (is_sided free d) bound 0) (next on) m.1) (λ n sided'. more m.0 n l.at_char on m.2 sided')
          where
            Rest : ℕ → ℕ → Type 0
            Rest j n = length pages ≤ j + ((max 1 (rest_at flow.main cut.to) + total flow.notes) + n * bound)

            asked_by : Leaves free flow.main s.at cut.to → (j : ℕ) (b : Bool) → asks_at free flow.main cut.to ≡ b → j ≤ cond b bound 0 → ((n : ℕ) → sided_from free flow.main (beyond cut.to) ≤ bit free flow.main (asks_at free flow.main cut.to) + n → Rest j n) → Goal
            asked_by l j false h small rest =
                let n : ℕ = sided_from free t (beyond cut.to) in
                let size : Rest j n = rest n (omega arith) in
                let a = l.asks in
                let low : n * bound ≤ asked * bound = mul-le-mul_right bound (omega arith) in
                let less = l.less in
                let some = l.some in
                let here : max 1 (rest_at t cut.to) ≡ rest_at t cut.to = max-eq_right some in
                let all : max 1 (rest_at t s.at) ≡ rest_at t s.at = max-eq_right (omega arith) in
                omega arith
            asked_by l j true h small rest =
                let n : ℕ = sided_from free t (beyond cut.to) - 1 in
                let one = l.next h in
                let size : Rest j n = rest n (rw h (omega arith)) in
                let a = l.asks in
                let low : suc n * bound ≤ asked * bound = mul-le-mul_right bound (omega arith) in
                let step : suc n * bound ≡ n * bound + bound = suc-mul n bound in
                let less = l.less in
                let some = l.some in
                let here : max 1 (rest_at t cut.to) ≡ rest_at t cut.to = max-eq_right some in
                let all : max 1 (rest_at t s.at) ≡ rest_at t s.at = max-eq_right (omega arith) in
                omega arith

        by : (u : State) → IsStep faces flow frames s p u → Stays flow u → Goes flow u → Asks faces flow frames can u → IsRun (IsStep faces flow frames) IsEnded u pages →
            ((j n : ℕ) → Stays flow u → Goes flow u → Asks faces flow frames can u → IsAtChar flow.main u.at → u.done ≡ false → meets_at frames (u.index + j) u.demand ≡ true → sided_from free flow.main (beyond u.at) ≤ bit free flow.main (asks_at free flow.main u.at) + n → IsRun (IsStep faces flow frames) IsEnded u pages → Size j n u pages) → Goal
        by u (noted ended some notes left is p_is u_is) st' goes' asks' run more = absurd (let f : true ≡ false = sym ended ∙ going in cc)
        by u (blank going' misses p_is u_is) st' goes' asks' run more =
            let on : More (after_blank s) = subst More u_is (λ j n char' going'' met' sided'. more j n st' goes' asks' char' going'' met' sided' run) in
            empty k misses met (short k met on)
          where
            short : (j : ℕ) → meets_at frames (s.index + j) s.demand ≡ true → More (after_blank s) → (Size (j - 1) asked s pages) ⊎ (j ≡ 0)
            short zero meets on = inr refl
            short (suc j) meets on = let i : s.index + suc j ≡ suc s.index + j = omega arith in inl (let h = on j asked char going (subst (λ (m : ℕ). meets_at frames m s.demand ≡ true) i meets) sided in omega arith)
        by u (flows going' m cut is p_is u_is) st' goes' asks' run more = ended_by cut.ended refl
          where
            ended_by : (b : Bool) → cut.ended ≡ b → Goal
            ended_by false e = page cut is (subst (Asks faces flow frames can) u_is asks') (subst More u_is (λ j n char' going'' met' sided'. more j n st' goes' asks' char' going'' met' sided' run)) e
            ended_by true e =
                let few = notes_few u pages st' goes' (ap (λ (v : State). v.done) u_is ∙ e) run in
                let low = load_low u st' in
                let one : 1 ≤ max 1 (rest_at t s.at) = le-max_left 1 (rest_at t s.at) in
                omega arith

    -- a page list has no more pages than these
    pub page_bound : (pages : List Page) → IsPaged faces flow frames pages → length pages ≤ most_pages_of free bound flow
    page_bound pages paged =
        let demand : Option Demand = (start_of t).demand in
        let first = near 1 demand in
        by (asks_at free t (start_of t).at) refl first.1 (λ n sided. bound_on (start_of t) pages first.0 n (stays_start flow) (omega arith) (λ h. refl) (begin_at_char t 0 texts.main) refl first.2 sided paged)
      where
        t : Tree
        t = flow.main

        by : {j : ℕ} (b : Bool) → asks_at free flow.main (start_of flow.main).at ≡ b → j ≤ cond b bound 0 → ((n : ℕ) → sided_from free flow.main 0 ≤ bit free flow.main (asks_at free flow.main (start_of flow.main).at) + n → Size j n (start_of flow.main) pages) → length pages ≤ most_pages_of free bound flow
        by {j} false h small rest = let size = rest (sided_from free t 0) (omega arith) in let none = passed_none t (start_of t).at refl in omega arith
        by {j} true h small rest = go (sided_from free t 0) refl
          where
            go : (n : ℕ) → sided_from free flow.main 0 ≡ n → length pages ≤ most_pages_of free bound flow
            go zero e = absurd (let low = start_sided free t h in omega arith)
            go (suc n) e =
                let none = passed_none t (start_of t).at refl in
                let size = rest n (rw h (omega arith)) in
                let step : suc n * bound ≡ n * bound + bound = suc-mul n bound in
                let all : sided_in free t * bound ≡ suc n * bound = ap (λ (m : ℕ). m * bound) e in
                omega arith

pub paged_few : (faces : List FontFace) (flow : Flow) (frames : PageFrames) (free : Demand → Bool) (bound : ℕ) (pages : List Page) → CanBePaged faces flow → HasTexts flow → MeetWithin free bound frames → IsPaged faces flow frames pages → length pages ≤ most_pages_of free bound flow
paged_few faces flow frames free bound pages can texts meet paged = page_bound faces flow frames can texts free bound (are_near free bound frames meet) pages paged
