-- The lines that pages may look at, page after page.
use Rattle.std.proofs.Common.{◌≡◌, ◌≤◌, ◌+◌, ℕ, suc, true, false, Bool, List, [], ◌∷◌, ◌++◌, Option, length, length-append, append-nil, append_assoc, refl, sym, ap, ◌∙◌, subst, arith}
use Rattle.metrics.specs.Face.{FontFace}
use Rattle.bk_num.specs.declared.ids.NameId.{NameId}
use Rattle.boxes.specs.Frames.{PageFrames}
use Rattle.boxes.specs.declared.flow.Flow.{Flow}
use Rattle.boxes.specs.declared.frames.Demand.{Demand}
use Rattle.boxes.specs.declared.frames.Frame.{Frame}
use Rattle.boxes.specs.declared.frames.PageKind.TheVariants as kind
use Rattle.boxes.specs.declared.page.Page.{Page}
use Rattle.boxes.specs.declared.page.Placed.{Placed}
use Rattle.boxes.specs.declared.place.Position.{Position}
use Rattle.cursor.specs.Asks.{KeepsHeld}
use Rattle.line_fill.specs.Kept.{Asked}
use Rattle.line_fill.specs.declared.kept.KeptLeaf.{KeptLeaf}
use Rattle.note_list.specs.Known.{AreKnown}
use Rattle.note_list.specs.declared.carried.Carried.{Carried}
use Rattle.page_list.specs.Cuts.{IsNotesCut}
use Rattle.page_list.specs.Looked.{IsLookedNotes, LooksAtNotes}
use Rattle.page_list.specs.LookedPages.{IsLookedList, IsLookedNext, IsLookedStep, Looked, LooksAtPages}
use Rattle.page_list.specs.LookedPages.IsLookedNext.{blank, noted}
use Rattle.page_list.specs.Pages.{State, IsStep, IsEnded, AreBlanks, AddsBlanks, after_notes, has_some, name_at, notes_page_of, start_of}
use Rattle.page_list.specs.Pages.IsStep.{blank as blank_step}
use Rattle.fragment.specs.Runs.{HasLooked, IsEndOf, LooksOn, LooksTo}
use Rattle.fragment.specs.declared.paginate.FlowPages.{FlowPages}
use Rattle.fragment.proofs.RunLemmas.{noted_step, notes_frame, run_push, state_at}

module _ (faces : List FontFace) (f : Flow) (frames : PageFrames) (known : Asked → Bool) where
  -- one page more, with the lines that it may look at
  looks_step : (s u : State) (p : Page) (pages now : List Page) (lines more total : ℕ) → IsStep faces f frames s p u → IsLookedNext faces f frames known s more → now ≡ pages ++ p ∷ [] → total ≡ lines + more → LooksTo faces f frames known s lines pages → LooksTo faces f frames known u total now
  looks_step s u p pages now lines more total step next is sum run =
      let last : Looked = record { state = u; lines = total } in
      subst (LooksTo faces f frames known u total) (sym is)
      (run_push (IsLookedStep faces f frames known) (λ v. (v.state ≡ u) × (v.lines ≡ total)) (λ v. (v.state ≡ s) × (v.lines ≡ lines)) pages (p ∷ []) (record { state = start_of f.main; lines = 0 }) run (λ v here. (
        last,
        record {
          step = subst (λ (x : State). IsStep faces f frames x p u) (sym here.0) step;
          more = more;
          looked = subst (λ (x : State). IsLookedNext faces f frames known x more) (sym here.0) next;
          lines_is = sum ∙ ap (λ (n : ℕ). n + more) (sym here.1);
        },
        (refl, refl),
      )))

  -- pages that lead to the end of a flow, with nothing carried, are looked at as its page list is
  looks_ends : (s : State) (lines : ℕ) (pages : List Page) → IsEnded s → LooksTo faces f frames known s lines pages → IsLookedList faces f frames known pages lines
  looks_ends s lines pages ended run =
      subst (λ (ps : List Page). IsLookedList faces f frames known ps lines) (append-nil pages)
      (run_push (IsLookedStep faces f frames known) (λ v. IsEnded v.state × (v.lines ≡ lines)) (λ v. (v.state ≡ s) × (v.lines ≡ lines)) pages [] (record { state = start_of f.main; lines = 0 }) run (λ v here. (subst IsEnded (sym here.0) ended, here.1)))

module _ (faces : List FontFace) (f : Flow) (frames : PageFrames) where
  -- no more steps are taken than the pages up to a state may look at lines that aren't known
  abbrev pub HasLookedTo : List KeptLeaf → ℕ → ℕ → State → List Page → Type 0
  HasLookedTo kept old new s pages = (known : Asked → Bool) → AreKnown known kept → (lines : ℕ) × LooksTo faces f frames known s lines pages × (new ≤ old + lines)

  -- with a page more
  pub looked_more : (kept later : List KeptLeaf) (old steps new : ℕ) (s u : State) (p : Page) (pages now : List Page) → KeepsHeld kept later → IsStep faces f frames s p u → ((known : Asked → Bool) → AreKnown known later → (more : ℕ) × IsLookedNext faces f frames known s more × (new ≤ steps + more)) → now ≡ pages ++ p ∷ [] → HasLookedTo kept old steps s pages → HasLookedTo kept old new u now
  looked_more kept later old steps new s u p pages now keeps step next is before known are =
      let had = before known are in
      let has = next known (λ a e. keeps.held a (are a e)) in
      let low = had.2 in
      let high = has.2 in
      (had.0 + has.0, looks_step faces f frames known s u p pages now had.0 has.0 (had.0 + has.0) step has.1 is refl had.1, omega (arith, low, high))

-- with blank pages
module _ (faces : List FontFace) (f : Flow) (frames : PageFrames) (at : Position) (kept : Bool) (demand : Option Demand) (carried : List Carried) (last : NameId) (held : List KeptLeaf) (old new : ℕ) where
  looked_blanks : (index to : ℕ) (blanks pages : List Page) → AreBlanks frames (name_at f.main at) demand index to blanks → HasLookedTo faces f frames held old new (state_at at kept index demand carried last) pages → HasLookedTo faces f frames held old new (state_at at kept to demand carried last) (pages ++ blanks)
  looked_blanks index to [] pages b looks = subst (HasLookedTo faces f frames held old new (state_at at kept to demand carried last)) (sym (append-nil pages)) (subst (λ (n : ℕ). HasLookedTo faces f frames held old new (state_at at kept n demand carried last) pages) b looks)
  looked_blanks index to (p ∷ ps) pages b looks =
      subst (HasLookedTo faces f frames held old new (state_at at kept to demand carried last)) (append_assoc pages (p ∷ []) ps)
      (looked_blanks (suc index) to ps (pages ++ p ∷ []) b.2 (λ known are.
      let had = looks known are in (
        had.0,
        looks_step faces f frames known (state_at at kept index demand carried last) (state_at at kept (suc index) demand carried last) p pages (pages ++ p ∷ []) had.0 0 had.0 (blank_step refl b.0 b.1 refl) (blank refl b.0 refl) refl (omega arith) had.1,
        had.2,
      )))

  pub looked_added : (index to : ℕ) (name : NameId) (before now : List Page) → name ≡ name_at f.main at → AddsBlanks frames name demand index to before now → HasLookedTo faces f frames held old new (state_at at kept index demand carried last) before → HasLookedTo faces f frames held old new (state_at at kept to demand carried last) now
  looked_added index to name before now named a looks =
      subst (HasLookedTo faces f frames held old new (state_at at kept to demand carried last)) (sym a.2) (looked_blanks index to a.0 before (subst (λ (n : NameId). AreBlanks frames n demand index to a.0) named a.1) looks)

-- ---- pages of notes after those of a flow
module _ (faces : List FontFace) (f : Flow) (frames : PageFrames) (kept : List KeptLeaf) (made : FlowPages) where
  -- no more steps are taken than the pages of notes after some pages may look at lines that aren't known
  abbrev pub LooksPast : ℕ → ℕ → FlowPages → Type 0
  LooksPast old new p = (known : Asked → Bool) → AreKnown known kept → (s : State) (lines : ℕ) → IsEndOf made s → LooksTo faces f frames known s lines made.pages.items → (u : State) × (more : ℕ) × IsEndOf p u × LooksTo faces f frames known u (lines + more) p.pages.items × (new ≤ old + more)

  pub past_none : (steps : ℕ) → LooksPast steps steps made
  past_none steps known are s lines ends run = (s, 0, ends, subst (λ (n : ℕ). LooksTo faces f frames known s n made.pages.items) (omega arith) run, omega arith)

  -- with a page more
  pub past_more : (later : List KeptLeaf) (old steps new : ℕ) (p q : FlowPages) (index : ℕ) (frame : Frame) (notes : List (ℕ × Placed)) → KeepsHeld kept later → length p.pages.items + 1 ≡ index → frame ≡ frames.frame_of index p.name kind.Notes → has_some p.carried ≡ true → IsNotesCut faces f frame p.carried notes q.carried → LooksAtNotes faces f frame p.carried later steps new → p.name ≡ q.name → q.pages.items ≡ p.pages.items ++ notes_page_of index p.name frame notes ∷ [] → LooksPast old steps p → LooksPast old new q
  past_more later old steps new p q index frame notes keeps at framed some cut looks named is before known are s lines ends run =
      let had = before known are s lines ends run in
      let end : IsEndOf p had.0 = had.2 in
      let here : had.0.index ≡ index = sym end.index ∙ at in
      let step = noted_step faces f frames had.0 p.name index frame p.carried q.carried notes end.done end.name here end.carried framed some cut in
      let has = looks known (λ a e. keeps.held a (are a e)) in
      let same = notes_frame frames had.0 p.name index frame notes end.name here framed in
      let next : IsLookedNext faces f frames known had.0 has.0 =
      noted end.done (subst (λ (x : Frame). IsLookedNotes faces f x had.0.carried known has.0) same.0 (subst (λ (cs : List Carried). IsLookedNotes faces f frame cs known has.0) (sym end.carried) has.1)) in
      let size : length q.pages.items ≡ length p.pages.items + 1 = ap length is ∙ length-append p.pages.items (notes_page_of index p.name frame notes ∷ []) in
      let low = had.4 in
      let high = has.2 in (
        after_notes had.0 q.carried,
        had.1 + has.0,
        record { done = end.done; index = omega (arith, size, here, at); name = end.name ∙ named; carried = refl },
        looks_step faces f frames known had.0 (after_notes had.0 q.carried) (notes_page_of index p.name frame notes) p.pages.items q.pages.items (lines + had.1) has.0 (lines + (had.1 + has.0)) step next is (omega arith) had.3,
        omega (arith, low, high),
      )

  -- up to the last one
  pub past_ends : (old new : ℕ) (p : FlowPages) → has_some p.carried ≡ false → LooksPast old new p → LooksOn faces f frames kept made p.pages.items old new
  past_ends old new p none looks known are s lines ends run =
      let had = looks known are s lines ends run in
      let end : IsEndOf p had.0 = had.2 in
      (had.1, looks_ends faces f frames known had.0 (lines + had.1) p.pages.items (record { done = end.done; none = ap has_some end.carried ∙ none }) had.3, had.4)

-- the pages of a flow with those of notes after them
pub looked_all : (faces : List FontFace) (f : Flow) (frames : PageFrames) (kept later : List KeptLeaf) (old steps new : ℕ) (made : FlowPages) (pages : List Page) → KeepsHeld kept later → HasLooked faces f frames kept old steps made → LooksOn faces f frames later made pages steps new → LooksAtPages faces f frames kept pages old new
looked_all faces f frames kept later old steps new made pages keeps first on known are =
    let had = first.looks known are in
    let has = on known (λ a e. keeps.held a (are a e)) first.state had.0 first.ends had.1 in
    let low = had.2 in
    let high = has.2 in
    (had.0 + has.0, has.1, omega (arith, low, high))
