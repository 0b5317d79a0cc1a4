-- The steps of a page list.
use Rattle.std.proofs.Common.{◌≡◌, ◌<◌, ◌≤◌, ◌+◌, ℕ, suc, is_some, Bool, true, false, List, [], ◌∷◌, ◌++◌, Option, Some, None, ◌==◌, ◌⊎◌, inl, inr, slice_get, length, length-append, append-nil, append_assoc, refl, sym, ap, ◌∙◌, subst, arith}
use Rattle.metrics.specs.Face.{FontFace}
use Rattle.bk_num.specs.declared.ids.NameId.{NameId}
use Rattle.boxes.specs.Steps.{IsRun}
use Rattle.boxes.specs.Tree.{Tree, Holds}
use Rattle.boxes.specs.declared.flow.Flow.{Flow}
use Rattle.boxes.specs.declared.frames.Demand.{Demand}
use Rattle.boxes.specs.declared.frames.Frame.{Frame}
use Rattle.boxes.specs.declared.frames.PageKind.TheVariants as kind
use Rattle.boxes.specs.declared.page.Page.{Page}
use Rattle.boxes.specs.declared.page.Placed.{Placed}
use Rattle.boxes.specs.declared.place.Position.{Position}
use Rattle.note_list.specs.declared.carried.Carried.{Carried}
use Rattle.page_list.specs.declared.cut.Cut.{Cut}
use Rattle.page_list.specs.declared.cut.CutFrom.{CutFrom}
use Rattle.page_list.specs.Cuts.{IsFlowCut, IsNotesCut, place_after}
use Rattle.boxes.specs.Frames.{PageFrames}
use Rattle.page_list.specs.Pages.{State, IsStep, IsEnded, IsPaged, LeavesSome, AreBlanks, AddsBlanks, meets_at, name_at, is_forced, has_some, blank_at, flow_page, flow_page_of, notes_page, notes_page_of, after_flow, after_notes, start_of}
use Rattle.page_list.specs.Pages.IsStep.{blank, noted}
use Rattle.note_list.specs.Calls.{called_before, start_place}
use Rattle.note_list.specs.Conditions.{AreCarried, IsHeld}
use Rattle.std.proofs.lemmas.List.Elements.{All-nil}
use Rattle.std.proofs.lemmas.Option.{none-some, slice_get_past}
use Rattle.std.proofs.lemmas.Bool.{cases_lt, eqb-true}
use Rattle.boxes.specs.declared.flow.Note.{Note}
use Rattle.fragment.specs.Runs.{Leads}

-- a page list that goes on with a page
pub run_push : {S X : Type 0} (step : S → X → S → Type 0) (ended going : S → Type 0) (xs ys : List X) (s : S) → IsRun step going s xs → ((u : S) → going u → IsRun step ended u ys) → IsRun step ended s (xs ++ ys)
run_push step ended going [] ys s r next = next s r
run_push step ended going (x ∷ xs) ys s r next = (r.0, r.1, run_push step ended going xs ys r.0 r.2 next)

-- the state of a page list at its next flow page
abbrev pub state_at : Position → Bool → ℕ → Option Demand → List Carried → NameId → State
state_at at kept index demand carried name = record { at = at; index = index; kept = kept; demand = demand; done = false; carried = carried; name = name }

module _ (faces : List FontFace) (f : Flow) (frames : PageFrames) where
  -- one page more
  pub run_step : (s u : State) (p : Page) (pages : List Page) → IsStep faces f frames s p u → Leads faces f frames s pages → Leads faces f frames u (pages ++ p ∷ [])
  run_step s u p pages step run = run_push (IsStep faces f frames) (λ v. v ≡ u) (λ v. v ≡ s) pages (p ∷ []) (start_of f.main) run (λ v here. (u, subst (λ (x : State). IsStep faces f frames x p u) (sym here) step, refl))

  -- pages that lead to the end of a flow, with nothing carried, are its page list
  pub run_ends : (s : State) (pages : List Page) → IsEnded s → Leads faces f frames s pages → IsPaged faces f frames pages
  run_ends s pages ended run = subst (λ (ps : List Page). IsRun (IsStep faces f frames) IsEnded (start_of f.main) ps) (append-nil pages) (run_push (IsStep faces f frames) IsEnded (λ v. v ≡ s) pages [] (start_of f.main) run (λ v here. subst IsEnded (sym here) ended))

  -- and to another state they leave something unplaced
  pub leaves_some : (s : State) (pages : List Page) (n : ℕ) → ¬ (IsEnded s) → length pages ≡ n → Leads faces f frames s pages → LeavesSome faces f frames n
  leaves_some s pages n going size run = (pages, size, s, on (start_of f.main) pages run)
    where
      on : (u : State) (ps : List Page) → IsRun (IsStep faces f frames) (λ v. v ≡ s) u ps → IsRun (IsStep faces f frames) (λ v. (v ≡ s) × ¬ (IsEnded v)) u ps
      on u [] r = (r, subst (λ (v : State). ¬ (IsEnded v)) (sym r) going)
      on u (p ∷ ps) r = (r.0, r.1, on r.0 ps r.2)

pub not_done : (s : State) → s.done ≡ false → ¬ (IsEnded s)
not_done s going ended = let e : true ≡ false = sym ended.done ∙ going in cc

pub some_left : (s : State) → has_some s.carried ≡ true → ¬ (IsEnded s)
some_left s some ended = let e : false ≡ true = sym ended.none ∙ some in cc

-- ---- blank pages after others
pub adds_none : (frames : PageFrames) (name : NameId) (demand : Option Demand) (index : ℕ) (pages : List Page) → AddsBlanks frames name demand index index pages pages
adds_none frames name demand index pages = ([], refl, sym (append-nil pages))

blanks_push : (frames : PageFrames) (name : NameId) (demand : Option Demand) (index to : ℕ) (blanks : List Page) (page : Page) → AreBlanks frames name demand index to blanks → meets_at frames to demand ≡ false → page ≡ blank_at frames name to → AreBlanks frames name demand index (suc to) (blanks ++ page ∷ [])
blanks_push frames name demand index to [] page at misses is = (ap (λ (n : ℕ). meets_at frames n demand) at ∙ misses, is ∙ ap (blank_at frames name) (sym at), ap suc at)
blanks_push frames name demand index to (p ∷ ps) page b misses is = (b.0, b.1, blanks_push frames name demand (suc index) to ps page b.2 misses is)

pub adds_push : (frames : PageFrames) (name : NameId) (demand : Option Demand) (index to : ℕ) (old new : List Page) (page : Page) → AddsBlanks frames name demand index to old new → meets_at frames to demand ≡ false → page ≡ blank_at frames name to → AddsBlanks frames name demand index (suc to) old (new ++ page ∷ [])
adds_push frames name demand index to old new page a misses is = (a.0 ++ page ∷ [], blanks_push frames name demand index to a.0 page a.1 misses is, ap (λ (ps : List Page). ps ++ page ∷ []) a.2 ∙ append_assoc old a.0 (page ∷ []))

blanks_size : (frames : PageFrames) (name : NameId) (demand : Option Demand) (index to : ℕ) (blanks : List Page) → AreBlanks frames name demand index to blanks → index + length blanks ≡ to
blanks_size frames name demand index to [] b = omega (arith, b)
blanks_size frames name demand index to (p ∷ ps) b = let n = blanks_size frames name demand (suc index) to ps b.2 in omega arith

pub adds_size : (frames : PageFrames) (name : NameId) (demand : Option Demand) (index to : ℕ) (old new : List Page) → AddsBlanks frames name demand index to old new → length old + 1 ≡ index → length new + 1 ≡ to
adds_size frames name demand index to old new a count =
    let n = blanks_size frames name demand index to a.0 a.1 in
    let size : length new ≡ length old + length a.0 = ap (λ (ps : List Page). length ps) a.2 ∙ length-append old a.0 in
    omega arith

pub adds_grow : (frames : PageFrames) (name : NameId) (demand : Option Demand) (index to : ℕ) (old new : List Page) → AddsBlanks frames name demand index to old new → length old ≤ length new
adds_grow frames name demand index to old new a =
    let size : length new ≡ length old + length a.0 = ap (λ (ps : List Page). length ps) a.2 ∙ length-append old a.0 in
    omega arith

pub forced_some : (d : Option Demand) → is_forced d ≡ is_some d
forced_some None = refl
forced_some (Some d) = refl

-- the state after blank pages
module _ (faces : List FontFace) (f : Flow) (frames : PageFrames) (at : Position) (kept : Bool) (demand : Option Demand) (carried : List Carried) (last : NameId) where
  run_blanks : (index to : ℕ) (blanks pages : List Page) → AreBlanks frames (name_at f.main at) demand index to blanks → Leads faces f frames (state_at at kept index demand carried last) pages → Leads faces f frames (state_at at kept to demand carried last) (pages ++ blanks)
  run_blanks index to [] pages b run = subst (Leads faces f frames (state_at at kept to demand carried last)) (sym (append-nil pages)) (subst (λ (n : ℕ). Leads faces f frames (state_at at kept n demand carried last) pages) b run)
  run_blanks index to (p ∷ ps) pages b run =
      subst (Leads faces f frames (state_at at kept to demand carried last)) (append_assoc pages (p ∷ []) ps)
      (run_blanks (suc index) to ps (pages ++ p ∷ []) b.2 (run_step faces f frames (state_at at kept index demand carried last) (state_at at kept (suc index) demand carried last) p pages (blank refl b.0 b.1 refl) run))

  pub run_added : (index to : ℕ) (name : NameId) (old new : List Page) → name ≡ name_at f.main at → AddsBlanks frames name demand index to old new → Leads faces f frames (state_at at kept index demand carried last) old → Leads faces f frames (state_at at kept to demand carried last) new
  run_added index to name old new named a run =
      subst (Leads faces f frames (state_at at kept to demand carried last)) (sym a.2) (run_blanks index to a.0 old (subst (λ (n : NameId). AreBlanks frames n demand index to a.0) named a.1) run)

  -- the page that a turn of the code makes is the flow page of its state
  pub page_is : (index : ℕ) (cut : Cut) (name : NameId) (frame : Frame) → name ≡ name_at f.main at → frame ≡ frames.frame_of index name kind.Flow →
      (frame ≡ frames.frame_of index (name_at f.main at) kind.Flow) × (flow_page_of index name frame cut ≡ flow_page frames f.main (state_at at kept index demand carried last) cut)
  page_is index cut name frame n e =
      let same : frame ≡ frames.frame_of index (name_at f.main at) kind.Flow = e ∙ ap (λ (x : NameId). frames.frame_of index x kind.Flow) n in
      (same, ap (λ (x : NameId). flow_page_of index x frame cut) n ∙ ap (λ (x : Frame). flow_page_of index (name_at f.main at) x cut) same)

pub frame_cut : (faces : List FontFace) (f : Flow) (from : CutFrom) (carried : List Carried) (cut : Cut) (a b : Frame) → a ≡ b → IsFlowCut faces f a from carried cut → IsFlowCut faces f b from carried cut
frame_cut faces f from carried cut a b same is = subst (λ (x : Frame). IsFlowCut faces f x from carried cut) same is

-- at the start nothing is carried
pub none_carried : (f : Flow) (at : Position) → AreCarried f at []
none_carried f at = record {
  held = All-nil (IsHeld f.notes);
  called = All-nil (λ (c : Carried). c.note < called_before f.main f.notes at);
  order = λ k a b e h. absurd (none-some a e);
}

pub start_holds : (t : Tree) → Holds t start_place
start_holds t = record { within = omega arith; offset = λ o. absurd (omega arith) }

-- what holds of each note before one, and of that one, holds of each before the next
pub one_note : (P : Note → Type 0) (notes : List Note) (at : ℕ) (m : Note) → slice_get notes at ≡ Some m → P m → ((k : ℕ) (n : Note) → k < at → slice_get notes k ≡ Some n → P n) → (k : ℕ) (n : Note) → k < at + 1 → slice_get notes k ≡ Some n → P n
one_note P notes at m e p before k n less f = go (cases_lt k at)
  where
    go : (k < at) ⊎ (at ≤ k) → P n
    go (inl low) = before k n low f
    go (inr high) = let same : k ≡ at = omega arith in let is : m ≡ n = (let g : Some m ≡ Some n = sym e ∙ ap (slice_get notes) (sym same) ∙ f in cc) in subst P is p

-- the state after a flow page
pub next_state : (t : Tree) (s : State) (cut : Cut) (kept : Bool) (left : List Carried) (index : ℕ) → cut.ended ≡ false → is_forced cut.forced ≡ kept → left ≡ cut.carried → suc s.index ≡ index → after_flow t s cut ≡ state_at cut.to kept index cut.forced left (name_at t s.at)
next_state t s cut kept left index going forced is at = λ i. record { at = cut.to; index = at i; kept = forced i; demand = cut.forced; done = going i; carried = (sym is) i; name = name_at t s.at }

-- a cut that ends the flow ends at the tree's end
pub ended_at : (faces : List FontFace) (f : Flow) (frame : Frame) (from : CutFrom) (carried : List Carried) (cut : Cut) → IsFlowCut faces f frame from carried cut → cut.ended ≡ true → cut.to ≡ place_after f.main None
ended_at faces f frame from carried cut is ended =
    let all : (is.count == length is.solids) ≡ true = sym is.ended_is ∙ ended in
    let size : is.count ≡ length is.solids = eqb-true is.count (length is.solids) all in
    is.to_is ∙ ap (place_after f.main) (slice_get_past is.solids is.count (omega arith))

pub has_none : (carried : List Carried) → length carried ≡ 0 → has_some carried ≡ false
has_none [] e = refl
has_none (c ∷ carried) e = absurd (omega arith)

pub has_one : (carried : List Carried) → (length carried == 0) ≡ false → has_some carried ≡ true
has_one [] h = absurd (cc)
has_one (c ∷ carried) h = refl

-- the page of notes that a turn of the code makes is that of its state
pub notes_frame : (frames : PageFrames) (s : State) (name : NameId) (index : ℕ) (frame : Frame) (notes : List (ℕ × Placed)) → s.name ≡ name → s.index ≡ index → frame ≡ frames.frame_of index name kind.Notes →
    (frame ≡ frames.frame_of s.index s.name kind.Notes) × (notes_page_of index name frame notes ≡ notes_page frames s notes)
notes_frame frames s name index frame notes n at e =
    let same : frame ≡ frames.frame_of s.index s.name kind.Notes = e ∙ ap (λ (i : ℕ). frames.frame_of i name kind.Notes) (sym at) ∙ ap (λ (x : NameId). frames.frame_of s.index x kind.Notes) (sym n) in
    (same, (λ i. notes_page_of ((sym at) i) ((sym n) i) (same i) notes))

-- and is a step from each such state
pub noted_step : (faces : List FontFace) (f : Flow) (frames : PageFrames) (s : State) (name : NameId) (index : ℕ) (frame : Frame) (carried left : List Carried) (notes : List (ℕ × Placed)) → s.done ≡ true → s.name ≡ name → s.index ≡ index → s.carried ≡ carried → frame ≡ frames.frame_of index name kind.Notes → has_some carried ≡ true → IsNotesCut faces f frame carried notes left → IsStep faces f frames s (notes_page_of index name frame notes) (after_notes s left)
noted_step faces f frames s name index frame carried left notes done n at same e some cut =
    let is = notes_frame frames s name index frame notes n at e in
    noted done (ap has_some same ∙ some) notes left
    (subst (λ (fr : Frame). IsNotesCut faces f fr s.carried notes left) is.0 (subst (λ (cs : List Carried). IsNotesCut faces f frame cs notes left) (sym same) cut)) is.1 refl
