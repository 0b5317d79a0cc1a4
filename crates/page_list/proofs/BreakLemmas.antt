-- Forced seams stand between pages, and the pages after them meet their demands.
use Rattle.std.proofs.Common.{◌≡◌, ◌≢◌, ◌<◌, ◌≤◌, ◌==◌, ℕ, zero, suc, ℤ, pos, ◌+ℤ◌, Bool, true, false, cond, eqb, List, [], ◌∷◌, Option, None, Some, option_map, length, take, slice_get, refl, sym, ap, ◌∙◌, subst, arith, ◌⊎◌, ⊎_elim, inl, inr}
use Rattle.std.proofs.lemmas.Bool.{cases_lt}
use Rattle.std.proofs.lemmas.Bool.Decides.{eqb_tells}
use Rattle.std.proofs.lemmas.List.Elements.{All-nil, All-cons}
use Rattle.std.proofs.lemmas.Option.{slice_get-map}
use Rattle.metrics.specs.Face.{FontFace}
use Rattle.boxes.specs.Steps.{IsRun}
use Rattle.boxes.specs.Tree.{Tree}
use Rattle.boxes.specs.declared.flow.Flow.{Flow}
use Rattle.boxes.specs.declared.frames.Frame.{Frame}
use Rattle.boxes.specs.declared.frames.PageKind.TheVariants as kind
use Rattle.boxes.specs.declared.page.Page.{Page}
use Rattle.boxes.specs.declared.page.Placed.{Placed}
use Rattle.boxes.specs.declared.place.Position.{Position}
use Rattle.seams.specs.Runs.{solid_after, is_solid_at}
use Rattle.seams.specs.Seams.{seam_of, seam_before, seam_between, solid_behind, line_seam}
use Rattle.seams.specs.declared.seam_info.SeamInfo.{SeamInfo}
use Rattle.seams.proofs.RunLemmas.{after_solid}
use Rattle.cursor.specs.Remainder.{SolidView, IsSolid, IsRemainder}
use Rattle.cursor.proofs.RemLemmas.{Stands, begins_of}
use Rattle.cursor.proofs.PartLemmas.{solid_itself}
use Rattle.std.proofs.lemmas.List.{length-map}
use Rattle.bk_num.proofs.ListLemmas.{get-take}
use Rattle.boxes.proofs.ListLemmas.{slice_get_at}
use Rattle.cuts.proofs.CutLemmas.{cut_limit}
use Rattle.cuts.proofs.PointLemmas.{free_below, limit_within}
use Rattle.cuts.specs.Cuts.{NoteLists}
use Rattle.cuts.specs.Cuts.IsCut.{at_level, at_loose, at_first}
use Rattle.note_list.specs.Conditions.{CanBePaged}
use Rattle.note_list.specs.Lists.{note_rows}
use Rattle.note_list.specs.declared.carried.Carried.{Carried}
use Rattle.page_list.specs.declared.cut.Cut.{Cut}
use Rattle.page_list.specs.declared.cut.CutFrom.{CutFrom}
use Rattle.page_list.specs.Cuts.{IsBestCut, IsFlowCut, first_gap, forced_after, place_after, placed_at, placed_below, placed_from, row_of, rows_of}
use Rattle.boxes.specs.Frames.{PageFrames}
use Rattle.page_list.specs.Pages.{IsEnded, IsPaged, IsStep, State, meets_at, name_at, start_of}
use Rattle.page_list.specs.Pages.IsStep.{blank, flows, noted}
use Rattle.page_list.specs.Parted.{IsUnbroken, IsMet, HoldsBreaks}
use Rattle.page_list.proofs.StateLemmas.{Stays, stays_start, stays_step}

-- ---- a seam's demand
-- it is the same at each measure
pub forced_any : (t : Tree) (at : Position) (m n : ℤ) → (seam_of t at m).forced ≡ (seam_of t at n).forced
forced_any t at m n = by (at.offset == 0)
  where
    by : (b : Bool) → (cond b (seam_before t at.event m) (line_seam t at.event m)).forced ≡ (cond b (seam_before t at.event n) (line_seam t at.event n)).forced
    by true = refl
    by false = refl

-- and the same at a place and at its next solid
pub seam_next : (faces : List FontFace) (t : Tree) (w : ℤ) (from : Position) (s : SolidView) → Stands t from → IsSolid faces t w from s → (m : ℤ) → seam_of t from m ≡ seam_of t s.placed_at m
seam_next faces t w from s st is m = by (eqb_tells s.placed_at.event from.event)
  where
    place : ℕ → ℕ → Position
    place event offset = record { event = event; offset = offset }

    here : solid_after t s.placed_at.event ≡ Some s.placed_at.event
    here = solid_itself t s.placed_at.event (after_solid t from.event s.placed_at.event is.found).1

    by : ((eqb s.placed_at.event from.event ≡ true) × (s.placed_at.event ≡ from.event)) ⊎ ((eqb s.placed_at.event from.event ≡ false) × (s.placed_at.event ≢ from.event)) → seam_of t from m ≡ seam_of t s.placed_at m
    by (inl e) =
        let offset : s.placed_at.offset ≡ from.offset = begins_of faces t w from s st is ∙ ap (λ (b : Bool). cond b from.offset 0) e.0 in
        ap (λ (p : Position). seam_of t p m) (ap (place from.event) (sym offset) ∙ ap (λ (n : ℕ). place n s.placed_at.offset) (sym e.1))
    by (inr e) =
        let offset : s.placed_at.offset ≡ 0 = begins_of faces t w from s st is ∙ ap (λ (b : Bool). cond b from.offset 0) e.0 in
        let none : from.offset ≡ 0 = ⊎_elim
        (λ (o : 0 < from.offset).
        let p = st.offset o in
        let at : solid_after t from.event ≡ Some from.event = solid_itself t from.event (ap (λ o. is_solid_at t.boxes o) p.2) in
        let same : Some from.event ≡ Some s.placed_at.event = sym at ∙ is.found in
        absurd (e.1 (let n : from.event ≡ s.placed_at.event = cc in sym n)))
        (λ (o : from.offset ≤ 0). omega arith)
        (cases_lt 0 from.offset) in
        ap (λ (o : ℕ). cond (o == 0) (seam_before t from.event m) (line_seam t from.event m)) none
        ∙ ap (λ (o : Option ℕ). seam_between t m (solid_behind t o) o) (is.found ∙ sym here)
        ∙ sym (ap (λ (o : ℕ). cond (o == 0) (seam_before t s.placed_at.event m) (line_seam t s.placed_at.event m)) offset)

-- ---- the solids of a page
-- a solid has its seam
pub seam_at : (faces : List FontFace) (t : Tree) (w : ℤ) (from : Position) (xs : List SolidView) (k : ℕ) (v : SolidView) → IsRemainder faces t w from xs → slice_get xs k ≡ Some v → v.seam ≡ seam_of t v.placed_at w
seam_at faces t w from [] k v r e = absurd (cc)
seam_at faces t w from (x ∷ xs) zero v r e = let same : x ≡ v = cc in subst (λ (s : SolidView). s.seam ≡ seam_of t s.placed_at w) same r.1.0.seam_is
seam_at faces t w from (x ∷ xs) (suc k) v r e = seam_at faces t w r.0 xs k v r.2 e

-- a page's solid is one of those that are left
pub placed_get : (first : ℤ) (xs : List SolidView) (k : ℕ) (p : Placed) → slice_get (placed_from first xs) k ≡ Some p → (v : SolidView) × (slice_get xs k ≡ Some v) × (p.at ≡ v.placed_at)
placed_get first [] k p e = absurd (cc)
placed_get first (s ∷ xs) zero p e = let same : placed_at first s ≡ p = cc in (s, refl, ap (λ (q : Placed). q.at) (sym same))
placed_get first (s ∷ xs) (suc k) p e = under (first +ℤ s.height) xs k e
  where
    under : (bottom : ℤ) (ys : List SolidView) (i : ℕ) → slice_get (placed_below bottom ys) i ≡ Some p → (v : SolidView) × (slice_get ys i ≡ Some v) × (p.at ≡ v.placed_at)
    under bottom [] i g = absurd (cc)
    under bottom (y ∷ ys) zero g = let same : placed_at (bottom +ℤ y.seam.whole_gap) y ≡ p = cc in (y, refl, ap (λ (q : Placed). q.at) (sym same))
    under bottom (y ∷ ys) (suc i) g = under ((bottom +ℤ y.seam.whole_gap) +ℤ y.height) ys i g

-- what the cut of some solids is, whatever the notes are
pub record Cuts (t : Tree) (height : ℤ) (kept : Bool) (solids : List SolidView) (cut : Cut) (count : ℕ) : Type 0 where
  pub list : NoteLists
  pub c : ℕ
  pub best : IsBestCut kept (rows_of t solids) height list c cut.level count
  pub to_is : cut.to ≡ place_after t (slice_get solids count)
  pub ended_is : cut.ended ≡ (count == length solids)
  pub forced_is : cut.forced ≡ forced_after (slice_get solids count)
  pub solids_is : cut.solids ≡ placed_from (first_gap kept solids) (take count solids)

pub cuts_of : (faces : List FontFace) (flow : Flow) (frame : Frame) (from : CutFrom) (carried : List Carried) (cut : Cut) → (is : IsFlowCut faces flow frame from carried cut) → Cuts flow.main frame.height from.kept is.solids cut is.count
cuts_of faces flow frame from carried cut is = record {
  list = λ j. note_rows (is.list j);
  c = is.c;
  best = is.best;
  to_is = is.to_is;
  ended_is = is.ended_is;
  forced_is = is.forced_is;
  solids_is = is.solids_is;
}

pub unlike : (a b : ℕ) → (a == b) ≡ false → a ≢ b
unlike a b e = ⊎_elim (λ (h : (eqb a b ≡ true) × (a ≡ b)). absurd (let f : true ≡ false = sym h.0 ∙ e in cc)) (λ (h : (eqb a b ≡ false) × (a ≢ b)). h.1) (eqb_tells a b)

-- where no solid is left the cut ends the flow
pub none_ends : {t : Tree} {height : ℤ} {kept : Bool} {cut : Cut} {count : ℕ} → Cuts t height kept [] cut count → cut.ended ≡ true
none_ends {t} {height} {kept} {cut} {count} at = at.ended_is ∙ ap (λ (n : ℕ). n == 0) (first at.best)
  where
    first : IsBestCut kept [] height at.list at.c cut.level count → count ≡ 0
    first (at_level low n p f g) = p.1
    first (at_loose e n own o p q g) = p.1
    first (at_first e n n2 own o p g) = p.1

-- what a page's cut says of the seams on it and after it
pub record Breaks (t : Tree) (w : ℤ) (from : Position) (cut : Cut) : Type 0 where
  pub inside : (k : ℕ) (s : Placed) → slice_get cut.solids (suc k) ≡ Some s → (seam_of t s.at w).forced ≡ None
  pub head : (s : Placed) → slice_get cut.solids 0 ≡ Some s → (seam_of t s.at w).forced ≡ (seam_of t from (pos 0)).forced
  pub next : cut.ended ≡ false → cut.forced ≡ (seam_of t cut.to (pos 0)).forced

pub cut_breaks : (faces : List FontFace) (flow : Flow) (frame : Frame) (from : CutFrom) (carried : List Carried) (cut : Cut) → Stands flow.main from.at → IsFlowCut faces flow frame from carried cut → Breaks flow.main frame.width from.at cut
cut_breaks faces flow frame from carried cut st is = by is.solids is.count is.rest (cuts_of faces flow frame from carried cut is)
  where
    t : Tree
    t = flow.main

    w : ℤ
    w = frame.width

    by : (solids : List SolidView) (count : ℕ) → IsRemainder faces t w from.at solids → Cuts t frame.height from.kept solids cut count → Breaks t w from.at cut
    by [] count r at = record {
      inside = λ k s g. absurd (none count (suc k) s (sym (ap (λ (ps : List Placed). slice_get ps (suc k)) at.solids_is) ∙ g));
      head = λ s g. absurd (none count 0 s (sym (ap (λ (ps : List Placed). slice_get ps 0) at.solids_is) ∙ g));
      next = λ g. absurd (let h : true ≡ false = sym (none_ends at) ∙ g in cc);
    }
      where
        none : (n k : ℕ) (s : Placed) → slice_get (placed_from (first_gap from.kept []) (take n [])) k ≡ Some s → ⊥
        none zero k s g = absurd (cc)
        none (suc n) k s g = absurd (cc)
    by (x ∷ xs) count r at = record {
      inside = λ k s g.
          let v = placed_get (first_gap from.kept (x ∷ xs)) (take count (x ∷ xs)) (suc k) s (ap (λ (ps : List Placed). slice_get ps (suc k)) (sym at.solids_is) ∙ g) in
          let got = get-take (x ∷ xs) count (suc k) v.0 v.1 in
          let less = got.0 in
          let low = cut_limit (rows_of t (x ∷ xs)) cut.level count at.best in
          let row : slice_get (rows_of t (x ∷ xs)) (suc k) ≡ Some (row_of t v.0) = slice_get-map (row_of t) (x ∷ xs) (suc k) ∙ ap (option_map (row_of t)) got.1 in
          let free = free_below (rows_of t (x ∷ xs)) k (row_of t v.0) (omega arith) row in
          ap (λ (p : Position). (seam_of t p w).forced) v.2 ∙ sym (ap (λ (i : SeamInfo). i.forced) (seam_at faces t w from.at (x ∷ xs) (suc k) v.0 r got.1)) ∙ free;
      head = λ s g.
          let v = placed_get (first_gap from.kept (x ∷ xs)) (take count (x ∷ xs)) 0 s (ap (λ (ps : List Placed). slice_get ps 0) (sym at.solids_is) ∙ g) in
          let got = get-take (x ∷ xs) count 0 v.0 v.1 in
          let same : x ≡ v.0 = (let h = got.1 in cc) in
          ap (λ (p : Position). (seam_of t p w).forced) (v.2 ∙ ap (λ (y : SolidView). y.placed_at) (sym same)) ∙ forced_any t x.placed_at w (pos 0) ∙ sym (ap (λ (i : SeamInfo). i.forced) (seam_next faces t w from.at x st r.1.0 (pos 0)));
      next = λ g.
          let low = cut_limit (rows_of t (x ∷ xs)) cut.level count at.best in
          let most = limit_within (rows_of t (x ∷ xs)) in
          let size : length (rows_of t (x ∷ xs)) ≡ length (x ∷ xs) = length-map (x ∷ xs) (row_of t) in
          let other : count ≢ length (x ∷ xs) = unlike count (length (x ∷ xs)) (sym at.ended_is ∙ g) in
          let v = slice_get_at (x ∷ xs) count (omega arith) in
          let to : cut.to ≡ v.0.placed_at = at.to_is ∙ ap (place_after t) v.1 in
          at.forced_is ∙ ap forced_after v.1 ∙ ap (λ (i : SeamInfo). i.forced) (seam_at faces t w from.at (x ∷ xs) count v.0 r v.1) ∙ forced_any t v.0.placed_at w (pos 0) ∙ ap (λ (p : Position). (seam_of t p (pos 0)).forced) (sym to);
    }

-- ---- the pages from a state on, whose demand is that of the seam at its place
module _ (faces : List FontFace) (flow : Flow) (frames : PageFrames) (can : CanBePaged faces flow) where
  -- a page list asks what the seam at its place does
  abbrev pub Asks : State → Type 0
  Asks s = s.done ≡ false → s.demand ≡ (seam_of flow.main s.at (pos 0)).forced

  pub asks_step : (s : State) (p : Page) (u : State) → Stays flow s → Asks s → IsStep faces flow frames s p u → Asks u
  asks_step s p u st asks (blank going n p_is u_is) = subst Asks (sym u_is) asks
  asks_step s p u st asks (noted ended some notes left is p_is u_is) = subst Asks (sym u_is) asks
  asks_step s p u st asks (flows going m cut is p_is u_is) =
      subst Asks (sym u_is) (cut_breaks faces flow (frames.frame_of s.index (name_at flow.main s.at) kind.Flow) (record { at = s.at; kept = s.kept }) s.carried cut st.stands is).next

  abbrev Fine : Page → Type 0
  Fine p = IsUnbroken flow.main p × IsMet flow.main frames p

  page_fine : (s : State) (p : Page) (u : State) → Stays flow s → Asks s → IsStep faces flow frames s p u → Fine p
  page_fine s p u st asks (blank going n p_is u_is) = subst Fine (sym p_is) ((λ k v e. absurd (cc)), (λ v e. absurd (cc)))
  page_fine s p u st asks (noted ended some notes left is p_is u_is) = subst Fine (sym p_is) ((λ k v e. absurd (cc)), (λ v e. absurd (cc)))
  page_fine s p u st asks (flows going m cut is p_is u_is) =
      let f : Frame = frames.frame_of s.index (name_at flow.main s.at) kind.Flow in
      let b = cut_breaks faces flow f (record { at = s.at; kept = s.kept }) s.carried cut st.stands is in
      let met : (v : Placed) → slice_get cut.solids 0 ≡ Some v → meets_at frames s.index (seam_of flow.main v.at f.width).forced ≡ true = λ v e. ap (meets_at frames s.index) (b.head v e ∙ sym (asks going)) ∙ m in
      subst Fine (sym p_is) (b.inside, met)

  breaks_on : (s : State) (pages : List Page) → Stays flow s → Asks s → IsRun (IsStep faces flow frames) IsEnded s pages → HoldsBreaks flow.main frames pages
  breaks_on s [] st asks ended = All-nil Fine
  breaks_on s (p ∷ pages) st asks r =
      All-cons Fine p pages (page_fine s p r.0 st asks r.1) (breaks_on r.0 pages (stays_step faces flow can frames s p r.0 st r.1) (asks_step s p r.0 st asks r.1) r.2)

  -- the demands of a page list are met
  pub paged_breaks : (pages : List Page) → IsPaged faces flow frames pages → HoldsBreaks flow.main frames pages
  paged_breaks pages paged = breaks_on (start_of flow.main) pages (stays_start flow) (λ h. refl) paged
