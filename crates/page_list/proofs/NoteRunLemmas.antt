-- The note solids on the pages of a flow are all that its notes have.
use Rattle.std.proofs.Common.{◌≡◌, ◌≤◌, ◌+◌, ◌-◌, ℕ, zero, suc, ℤ, ◌+ℤ◌, false, List, [], ◌∷◌, ◌++◌, Some, length, map, take, drop, slice_get, refl, sym, ap, ◌∙◌, subst, arith}
use Rattle.std.proofs.lemmas.List.{drop_all}
use Rattle.std.proofs.Math.Seq.{drop-nil, take-nil}
use Rattle.std.specs.List.{range_with_len}
use Rattle.metrics.specs.Face.{FontFace}
use Rattle.boxes.specs.Steps.{IsRun}
use Rattle.boxes.specs.declared.flow.Flow.{Flow}
use Rattle.boxes.specs.declared.flow.Note.{Note}
use Rattle.boxes.specs.declared.frames.Frame.{Frame}
use Rattle.boxes.specs.declared.frames.PageKind.TheVariants as kind
use Rattle.boxes.specs.declared.page.Page.{Page}
use Rattle.boxes.specs.declared.page.Placed.{Placed}
use Rattle.boxes.specs.declared.place.Position.{Position}
use Rattle.cursor.specs.Remainder.{SolidView, IsRemainder}
use Rattle.cursor.proofs.RemLemmas.{Stands, solid_stands}
use Rattle.bk_num.specs.Limits.{separator}
use Rattle.bk_num.proofs.ListLemmas.{drop-next}
use Rattle.note_list.specs.Calls.{called_before}
use Rattle.note_list.specs.Conditions.{CanBePaged}
use Rattle.note_list.specs.Lists.{NotePart, AreNoted, carried_parts, called_parts, left_after, left_of, noted as noted_solid, placed_notes}
use Rattle.note_list.specs.declared.carried.Carried.{Carried}
use Rattle.note_list.specs.declared.solid.NotedSolid.{NotedSolid}
use Rattle.page_list.specs.Cuts.{parts_after}
use Rattle.page_list.specs.Noted.{AreBodies, HoldsNotes, notes_of}
use Rattle.boxes.specs.Frames.{PageFrames}
use Rattle.page_list.specs.Pages.{IsEnded, IsPaged, IsStep, State, has_some, name_at, start_of}
use Rattle.page_list.specs.Pages.IsStep.{blank, flows, noted}
use Rattle.page_list.specs.Parted.{AreNextSolids}
use Rattle.page_list.proofs.CallLemmas.{called_end, called_start}
use Rattle.page_list.proofs.CarriedLemmas.{AreTrees, Rise, called_part, noted_within, skip_none, skip_own}
use Rattle.page_list.proofs.NextLemmas.{next_of, same_solids}
use Rattle.page_list.proofs.StateLemmas.{Stays, cut_calls, cut_rise, stays_start, stays_step, trees}

-- the note solids that are left: those of some parts from their places on, and then of each note from a number on all
abbrev pub HoldRest : List Note → ℕ → List NotePart → List (ℕ × Placed) → Type 0
HoldRest notes k [] list = AreBodies k (drop k notes) list
HoldRest notes k (p ∷ parts) list = (note : Note) × (slice_get notes p.note ≡ Some note) × (solids : List Placed) × AreNextSolids note.body p.at solids ×
    (rest : List (ℕ × Placed)) × HoldRest notes k parts rest × (list ≡ map (λ s. (p.note, s)) solids ++ rest)

-- ---- the notes that are called on a page
hold_range : (notes : List Note) (n from to : ℕ) (list : List (ℕ × Placed)) → from + n ≡ to → HoldRest notes to (map called_part (range_with_len from n)) list → AreBodies from (drop from notes) list
hold_range notes zero from to list e h = let same : to ≡ from = omega arith in subst (λ (k : ℕ). AreBodies k (drop k notes) list) same h
hold_range notes (suc n) from to list e (note, has, solids, next, rest, h, is) =
    let one : from + 1 ≡ suc from = omega arith in
    let more = hold_range notes n (suc from) to rest (omega arith) (subst (λ (k : ℕ). HoldRest notes to (map called_part (range_with_len k n)) rest) one h) in
    subst (λ (ns : List Note). AreBodies from ns list) (sym (drop-next notes from note has)) (solids, next, rest, more, is)

hold_called : (notes : List Note) (from to : ℕ) (parts : List NotePart) (list : List (ℕ × Placed)) → from ≤ to → HoldRest notes to (parts ++ called_parts from to) list → HoldRest notes from parts list
hold_called notes from to [] list low h = hold_range notes (to - from) from to list (omega arith) h
hold_called notes from to (p ∷ parts) list low (note, has, solids, next, rest, h, is) = (note, has, solids, next, rest, hold_called notes from to parts rest low h, is)

-- ---- what a page places and what is left after it
module _ (faces : List FontFace) (notes : List Note) (w : ℤ) (are : AreTrees notes) (k : ℕ) where
  own_rest : (p : NotePart) (note : Note) → slice_get notes p.note ≡ Some note → (parts : List NotePart) (more : List NotedSolid) → left_after (Some p.note) more ≡ left_of more →
      ((n : ℕ) (bottom : ℤ) (rest : List (ℕ × Placed)) → HoldRest notes k (carried_parts (left_of (drop n more))) rest → HoldRest notes k parts (placed_notes bottom (take n more) ++ rest)) →
      (at : Position) (solids : List SolidView) (n : ℕ) (bottom : ℤ) (rest : List (ℕ × Placed)) → Stands note.body at → IsRemainder faces note.body w at solids →
      HoldRest notes k (carried_parts (left_of (drop n (map (noted_solid note.body p) solids ++ more)))) rest →
      (ps : List Placed) × AreNextSolids note.body at ps × (later : List (ℕ × Placed)) × HoldRest notes k parts later × (placed_notes bottom (take n (map (noted_solid note.body p) solids ++ more)) ++ rest ≡ map (λ s. (p.note, s)) ps ++ later)
  own_rest p note has parts more other go at [] n bottom rest st r h = ([], r, placed_notes bottom (take n more) ++ rest, go n bottom rest h, refl)
  own_rest p note has parts more other go at (s ∷ solids) (suc n) bottom rest st r h =
      let x = noted_solid note.body p s in
      let here : Placed = record { at = s.placed_at; end = s.end; top = bottom +ℤ x.row.gap; height = s.height; kind = s.kind } in
      let next = own_rest p note has parts more other go r.0 solids n ((bottom +ℤ x.row.gap) +ℤ s.height) rest (subst (Stands note.body) (sym r.1.1) (solid_stands faces note.body w at s (are p.note note has) st r.1.0)) r.2 h in
      (here ∷ next.0, (r.0, (next_of faces note.body w (are p.note note has) at s st r.1.0 (bottom +ℤ x.row.gap) s.height, r.1.1), next.1), next.2, next.3, ap (λ (l : List (ℕ × Placed)). (p.note, here) ∷ l) next.4)
  own_rest p note has parts more other go at (s ∷ solids) zero bottom rest st r (note', has', ps, next, later, h, is) =
      let same : note' ≡ note = (let e : Some note' ≡ Some note = sym has' ∙ has in cc) in
      let left = subst (λ (cs : List Carried). HoldRest notes k (carried_parts cs) later) (skip_own faces notes w note.body p solids more ∙ other) h in
      (ps, same_solids faces note.body w (are p.note note has) at s st r.1.0 ps (subst (λ (x : Note). AreNextSolids x.body s.placed_at ps) same next), later, go 0 bottom later left, is)

  pub parts_rest : (low high : ℕ) (parts : List NotePart) (list : List NotedSolid) → Rise notes low high parts → AreNoted faces notes w parts list → (n : ℕ) (bottom : ℤ) (rest : List (ℕ × Placed)) →
      HoldRest notes k (carried_parts (left_of (drop n list))) rest → HoldRest notes k parts (placed_notes bottom (take n list) ++ rest)
  parts_rest low high [] list up none n bottom rest h =
      let first : take n list ≡ [] = ap (take n) none ∙ take-nil n in
      let left : drop n list ≡ [] = ap (drop n) none ∙ drop-nil n in
      subst (λ (l : List NotedSolid). AreBodies k (drop k notes) (placed_notes bottom l ++ rest)) (sym first)
      (subst (λ (l : List NotedSolid). HoldRest notes k (carried_parts (left_of l)) rest) left h)
  parts_rest low high (p ∷ parts) list up (note, has, solids, rem, tail, more, is) n bottom rest h =
      let own = up.1 in
      let same : own.note ≡ note = (let e : Some own.note ≡ Some note = sym own.has ∙ has in cc) in
      let st : Stands note.body p.at = subst (λ (x : Note). Stands x.body p.at) same own.stands in
      let other = skip_none faces notes w p.note (suc p.note) high tail (omega arith) (noted_within faces notes w (suc p.note) high parts tail up.2 more) in
      let found = own_rest p note has parts tail other (parts_rest (suc p.note) high parts tail up.2 more) p.at solids n bottom rest st rem (subst (λ (l : List NotedSolid). HoldRest notes k (carried_parts (left_of (drop n l))) rest) is h) in
      (note, has, found.0, found.1, found.2, found.3, subst (λ (l : List NotedSolid). placed_notes bottom (take n l) ++ rest ≡ map (λ s. (p.note, s)) found.0 ++ found.2) (sym is) found.4)

-- ---- the pages from a state on
none_kept : (carried : List Carried) → has_some carried ≡ false → carried ≡ []
none_kept [] e = refl
none_kept (c ∷ carried) e = absurd (cc)

notes_on : (faces : List FontFace) (flow : Flow) (frames : PageFrames) → CanBePaged faces flow → (s : State) (pages : List Page) → Stays flow s → IsRun (IsStep faces flow frames) IsEnded s pages →
    HoldRest flow.notes (called_before flow.main flow.notes s.at) (carried_parts s.carried) (notes_of pages)
notes_on faces flow frames can s [] st ended =
    let all : called_before flow.main flow.notes s.at ≡ length flow.notes = ap (called_before flow.main flow.notes) (st.done ended.done) ∙ called_end flow.main flow.notes in
    subst (λ (cs : List Carried). HoldRest flow.notes (called_before flow.main flow.notes s.at) (carried_parts cs) []) (sym (none_kept s.carried ended.none))
    (subst (λ (ns : List Note). AreBodies (called_before flow.main flow.notes s.at) ns []) (sym (drop_all (called_before flow.main flow.notes s.at) flow.notes (omega arith))) refl)
notes_on faces flow frames can s (p ∷ pages) st r = by r.0 r.1 (notes_on faces flow frames can r.0 pages (stays_step faces flow can frames s p r.0 st r.1) r.2)
  where
    Rest : State → List (ℕ × Placed) → Type 0
    Rest v list = HoldRest flow.notes (called_before flow.main flow.notes v.at) (carried_parts v.carried) list

    by : (u : State) → IsStep faces flow frames s p u → Rest u (notes_of pages) → Rest s (p.notes ++ notes_of pages)
    by u (blank going misses p_is u_is) more =
        subst (λ (q : Page). Rest s (q.notes ++ notes_of pages)) (sym p_is) (subst (λ (v : State). Rest v (notes_of pages)) u_is more)
    by u (flows going meets cut is p_is u_is) more =
        let f : Frame = frames.frame_of s.index (name_at flow.main s.at) kind.Flow in
        let c : ℕ = called_before flow.main flow.notes s.at in
        let d : ℕ = called_before flow.main flow.notes cut.to in
        let left : HoldRest flow.notes d (carried_parts cut.carried) (notes_of pages) = subst (λ (v : State). Rest v (notes_of pages)) u_is more in
        let all = parts_rest faces flow.notes f.width (trees faces flow can) d 0 d (parts_after flow s.at s.carried is.solids is.count) (is.list is.count) (cut_rise faces flow can f s.kept s cut st is) (is.listed is.count is.within) is.number separator (notes_of pages)
        (subst (λ (cs : List Carried). HoldRest flow.notes d (carried_parts cs) (notes_of pages)) is.carried_is left) in
        let joined = subst (λ (a : Position). HoldRest flow.notes d (carried_parts s.carried ++ called_parts c (called_before flow.main flow.notes a)) (placed_notes separator (take is.number (is.list is.count)) ++ notes_of pages)) (sym is.to_is) all in
        let kept = hold_called flow.notes c d (carried_parts s.carried) (placed_notes separator (take is.number (is.list is.count)) ++ notes_of pages) (cut_calls faces flow can f s.kept s cut st is) joined in
        subst (λ (q : Page). Rest s (q.notes ++ notes_of pages)) (sym p_is) (subst (λ (ns : List (ℕ × Placed)). Rest s (ns ++ notes_of pages)) (sym is.notes_is) kept)
    by u (noted done some notes left is p_is u_is) more =
        let f : Frame = frames.frame_of s.index s.name kind.Notes in
        let c : ℕ = called_before flow.main flow.notes s.at in
        let rest : HoldRest flow.notes c (carried_parts left) (notes_of pages) = subst (λ (v : State). Rest v (notes_of pages)) u_is more in
        let all = parts_rest faces flow.notes f.width (trees faces flow can) c 0 c (carried_parts s.carried) is.list st.kept.rise is.listed is.number separator (notes_of pages)
        (subst (λ (cs : List Carried). HoldRest flow.notes c (carried_parts cs) (notes_of pages)) is.left_is rest) in
        subst (λ (q : Page). Rest s (q.notes ++ notes_of pages)) (sym p_is) (subst (λ (ns : List (ℕ × Placed)). Rest s (ns ++ notes_of pages)) (sym is.notes_is) all)

-- the notes on the pages of a flow are its notes, whole and in order
pub paged_notes : (faces : List FontFace) (flow : Flow) (frames : PageFrames) (pages : List Page) → CanBePaged faces flow → IsPaged faces flow frames pages → HoldsNotes flow pages
paged_notes faces flow frames pages can paged =
    subst (λ (k : ℕ). HoldRest flow.notes k [] (notes_of pages)) (called_start flow.main flow.notes can.main.tree.whole.some) (notes_on faces flow frames can (start_of flow.main) pages (stays_start flow) paged)
