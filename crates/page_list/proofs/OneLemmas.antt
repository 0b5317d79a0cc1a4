-- There is one page list.
use Rattle.std.proofs.Common.{◌≡◌, ◌<◌, ◌≤◌, ◌==◌, ◌-ℤ◌, ℕ, ℤ, Bool, true, false, List, [], ◌∷◌, Option, length, take, drop, slice_get, refl, sym, ap, ◌∙◌, subst, arith, ⊎_elim}
use Rattle.std.proofs.lemmas.Bool.{cases_lt}
use Rattle.metrics.specs.Face.{FontFace}
use Rattle.boxes.specs.Steps.{IsRun}
use Rattle.boxes.specs.Tree.{Tree}
use Rattle.boxes.specs.declared.flow.Flow.{Flow}
use Rattle.boxes.specs.declared.frames.Demand.{Demand}
use Rattle.boxes.specs.declared.frames.Frame.{Frame}
use Rattle.boxes.specs.declared.frames.PageKind.TheVariants as kind
use Rattle.boxes.specs.declared.page.Page.{Page}
use Rattle.boxes.specs.declared.page.Placed.{Placed}
use Rattle.boxes.specs.declared.place.Position.{Position}
use Rattle.boxes.proofs.RunLemmas.{run_unique}
use Rattle.cursor.specs.Remainder.{SolidView, HaveOneRemainder}
use Rattle.cuts.specs.declared.row.SolidRow.{SolidRow}
use Rattle.cuts.specs.Cuts.{FitsWith, Fits, FitsLoosely}
use Rattle.cuts.specs.Rows.{rows_reach}
use Rattle.cuts.proofs.CutLemmas.{cut_moves, cut_unique}
use Rattle.cuts.proofs.PointLemmas.{limit_within}
use Rattle.notes.specs.declared.solid.NoteSolid.{NoteSolid}
use Rattle.bk_num.specs.Limits.{separator}
use Rattle.notes.specs.Notes.{IsCarryCount, IsPlaced, must_of}
use Rattle.note_list.specs.Lists.{AreNoted, carried_parts, placed_notes, left_of, note_rows}
use Rattle.note_list.proofs.NotedLemmas.{noted_unique}
use Rattle.note_list.specs.Places.{least_of}
use Rattle.note_list.specs.declared.carried.Carried.{Carried}
use Rattle.note_list.specs.declared.solid.NotedSolid.{NotedSolid}
use Rattle.page_list.specs.declared.cut.Cut.{Cut}
use Rattle.page_list.specs.declared.cut.CutFrom.{CutFrom}
use Rattle.page_list.specs.Cuts.{IsBestCut, IsFlowCut, IsNotesCut, IsPagePoint, rows_of, first_gap, placed_from, place_after, forced_after, parts_after}
use Rattle.boxes.specs.Frames.{PageFrames}
use Rattle.page_list.specs.Pages.{State, IsStep, IsEnded, HasOnePageList, LeavesNothing, name_at, flow_page, notes_page, after_flow, after_notes, start_of}
use Rattle.page_list.specs.Pages.IsStep.{blank, flows, noted as notes_step}

pub carry_unique : (list : List NoteSolid) (carried : ℕ) (height : ℤ) (c d : ℕ) → IsCarryCount list carried height c → IsCarryCount list carried height d → c ≡ d
carry_unique list carried height c d p q = ⊎_elim (λ (h : 0 < carried). some h) (λ (none : carried ≤ 0). let z : carried ≡ 0 = omega arith in p.none z ∙ sym (q.none z)) (cases_lt 0 carried)
  where
    some : 0 < carried → c ≡ d
    some h =
        let c_some = p.some h in
        let d_some = q.some h in
        let c_within = p.within in
        let d_within = q.within in ⊎_elim
        (λ (less : c < d). let g = p.greatest d d_within (q.half (omega arith)) in omega arith)
        (λ (more : d ≤ c). ⊎_elim (λ (less : d < c). let g = q.greatest c c_within (p.half (omega arith)) in omega arith) (λ (low : c ≤ d). omega arith) (cases_lt d c))
        (cases_lt c d)

pub placed_unique : (list : List NoteSolid) (least : ℕ) (room : ℤ) (m n : ℕ) → IsPlaced list least room m → IsPlaced list least room n → m ≡ n
placed_unique list least room m n p q =
    let m_low = p.low in
    let n_low = q.low in ⊎_elim
    (λ (less : m < n). let g = p.greatest n n_low q.within (q.fits (omega arith)) in omega arith)
    (λ (more : n ≤ m). ⊎_elim (λ (less : n < m). let g = q.greatest m m_low p.within (p.fits (omega arith)) in omega arith) (λ (low : m ≤ n). omega arith) (cases_lt n m))
    (cases_lt m n)

-- points stand within a page's solids
pub point_within : (rows : List SolidRow) (l k : ℕ) → IsPagePoint rows l k → k ≤ length rows
point_within [] l k p = let e = p.1 in omega arith
point_within (r ∷ rows) l k p = let w = p.within in let low = limit_within (r ∷ rows) in omega arith

pub rows_length : (t : Tree) (solids : List SolidView) → length (rows_of t solids) ≡ length solids
rows_length t [] = refl
rows_length t (s ∷ solids) = let r = rows_length t solids in omega arith

-- a cut stays where the lists agree at each point
pub best_moves : (kept : Bool) (rows : List SolidRow) (height : ℤ) (xs ys : ℕ → List NotedSolid) (c level j : ℕ) → ((k : ℕ) → k ≤ length rows → xs k ≡ ys k) → IsBestCut kept rows height (λ k. note_rows (xs k)) c level j → IsBestCut kept rows height (λ k. note_rows (ys k)) c level j
best_moves kept rows height xs ys c level j same best =
    cut_moves (IsPagePoint rows) (Fits kept rows height (λ k. note_rows (xs k)) c) (FitsLoosely kept rows height (λ k. note_rows (xs k)) c) (Fits kept rows height (λ k. note_rows (ys k)) c) (FitsLoosely kept rows height (λ k. note_rows (ys k)) c) level j
    (λ l k p f. subst (must_fit k) (same k (point_within rows l k p)) f)
    (λ l k p f. subst (must_fit k) (sym (same k (point_within rows l k p))) f)
    (λ l k p f. subst (carried_fit k) (same k (point_within rows l k p)) f)
    (λ l k p f. subst (carried_fit k) (sym (same k (point_within rows l k p))) f)
    best
  where
    must_fit : ℕ → List NotedSolid → Type 0
    must_fit k l = FitsWith kept rows height (λ i. note_rows l) (λ w. must_of w c) k

    carried_fit : ℕ → List NotedSolid → Type 0
    carried_fit k l = FitsWith kept rows height (λ i. note_rows l) (λ w. c) k

module _ (one : HaveOneRemainder) (faces : List FontFace) (flow : Flow) (frame : Frame) (carried : List Carried) where
  abbrev make : Position → Bool → Option Demand → ℕ → List Placed → List (ℕ × Placed) → List Carried → Cut
  make to ended forced level solids beside left = record { to = to; ended = ended; forced = forced; level = level; solids = solids; notes = beside; carried = left }

  pub flow_cut_unique : (from : CutFrom) (x y : Cut) → IsFlowCut faces flow frame from carried x → IsFlowCut faces flow frame from carried y → x ≡ y
  flow_cut_unique from x y p q =
      ap (λ z. make z x.ended x.forced x.level x.solids x.notes x.carried) (p.to_is ∙ ap (place_after flow.main) there ∙ sym q.to_is)
      ∙ ap (λ z. make y.to z x.forced x.level x.solids x.notes x.carried) (p.ended_is ∙ ap (λ (k : ℕ). k == length p.solids) at ∙ ap (λ (l : List SolidView). q.count == length l) solids ∙ sym q.ended_is)
      ∙ ap (λ z. make y.to y.ended z x.level x.solids x.notes x.carried) (p.forced_is ∙ ap forced_after there ∙ sym q.forced_is)
      ∙ ap (λ z. make y.to y.ended y.forced z x.solids x.notes x.carried) (cuts.0)
      ∙ ap (λ z. make y.to y.ended y.forced y.level z x.notes x.carried) (p.solids_is ∙ ap (λ (k : ℕ). placed_from (first_gap from.kept p.solids) (take k p.solids)) at ∙ ap (λ (l : List SolidView). placed_from (first_gap from.kept l) (take q.count l)) solids ∙ sym q.solids_is)
      ∙ ap (λ z. make y.to y.ended y.forced y.level y.solids z x.carried) (p.notes_is ∙ ap (λ (k : ℕ). placed_notes separator (take k (p.list p.count))) number ∙ ap (λ (l : List NotedSolid). placed_notes separator (take q.number l)) here ∙ sym q.notes_is)
      ∙ ap (make y.to y.ended y.forced y.level y.solids y.notes) (p.carried_is ∙ ap (λ (k : ℕ). left_of (drop k (p.list p.count))) number ∙ ap (λ (l : List NotedSolid). left_of (drop q.number l)) here ∙ sym q.carried_is)
    where
      rows : List SolidView → List SolidRow
      rows l = rows_of flow.main l

      solids : p.solids ≡ q.solids
      solids = one faces flow.main frame.width from.at p.solids q.solids p.rest q.rest

      lists : (j : ℕ) → j ≤ length p.solids → p.list j ≡ q.list j
      lists j low =
          let moved : AreNoted faces flow.notes frame.width (parts_after flow from.at carried p.solids j) (q.list j) =
          subst (λ (l : List SolidView). AreNoted faces flow.notes frame.width (parts_after flow from.at carried l j) (q.list j)) (sym solids) (q.listed j (subst (λ (l : List SolidView). j ≤ length l) solids low)) in
          noted_unique faces flow.notes frame.width (parts_after flow from.at carried p.solids j) (p.list j) (q.list j) (p.listed j low) moved

      own : p.own ≡ q.own
      own = noted_unique faces flow.notes frame.width (carried_parts carried) p.own q.own p.owned q.owned

      c : p.c ≡ q.c
      c = carry_unique (note_rows q.own) (length q.own) frame.height p.c q.c (subst (λ (l : List NotedSolid). IsCarryCount (note_rows l) (length l) frame.height p.c) own p.carries) q.carries

      best : IsBestCut from.kept (rows_of flow.main p.solids) frame.height (λ j. note_rows (p.list j)) q.c y.level q.count
      best = best_moves from.kept (rows_of flow.main p.solids) frame.height q.list p.list q.c y.level q.count
          (λ k low. sym (lists k (let n = rows_length flow.main p.solids in omega arith)))
          (subst (λ (l : List SolidView). IsBestCut from.kept (rows_of flow.main l) frame.height (λ j. note_rows (q.list j)) q.c y.level q.count) (sym solids) q.best)

      cuts : (x.level ≡ y.level) × (p.count ≡ q.count)
      cuts = cut_unique (subst (λ (k : ℕ). IsBestCut from.kept (rows_of flow.main p.solids) frame.height (λ j. note_rows (p.list j)) k x.level p.count) c p.best) best

      at : p.count ≡ q.count
      at = cuts.1

      there : slice_get p.solids p.count ≡ slice_get q.solids q.count
      there = ap (slice_get p.solids) at ∙ ap (λ (l : List SolidView). slice_get l q.count) solids

      here : p.list p.count ≡ q.list q.count
      here = lists p.count p.within ∙ ap q.list at

      Places : ℕ → ℕ → List NotedSolid → List NotedSolid → List SolidView → ℕ → Type 0
      Places level c list own solids count = IsPlaced (note_rows list) (least_of level (must_of (note_rows list) c) c (length own)) (frame.height -ℤ rows_reach from.kept (rows_of flow.main solids) count) p.number

      moved : Places y.level q.c (q.list q.count) q.own q.solids q.count
      moved =
          subst (λ (k : ℕ). Places y.level q.c (q.list q.count) q.own q.solids k) at
          (subst (λ (l : List SolidView). Places y.level q.c (q.list q.count) q.own l p.count) solids
          (subst (λ (l : List NotedSolid). Places y.level q.c (q.list q.count) l p.solids p.count) own
          (subst (λ (l : List NotedSolid). Places y.level q.c l p.own p.solids p.count) here
          (subst (λ (k : ℕ). Places y.level k (p.list p.count) p.own p.solids p.count) c
          (subst (λ (k : ℕ). Places k p.c (p.list p.count) p.own p.solids p.count) cuts.0 p.places)))))

      number : p.number ≡ q.number
      number = placed_unique (note_rows (q.list q.count)) (least_of y.level (must_of (note_rows (q.list q.count)) q.c) q.c (length q.own)) (frame.height -ℤ rows_reach from.kept (rows_of flow.main q.solids) q.count) p.number q.number moved q.places

  pub notes_cut_unique : (x y : List (ℕ × Placed)) (l r : List Carried) → IsNotesCut faces flow frame carried x l → IsNotesCut faces flow frame carried y r → (x ≡ y) × (l ≡ r)
  notes_cut_unique x y l r p q =
      let list : p.list ≡ q.list = noted_unique faces flow.notes frame.width (carried_parts carried) p.list q.list p.listed q.listed in
      let number : p.number ≡ q.number = placed_unique (note_rows q.list) 1 frame.height p.number q.number (subst (λ (z : List NotedSolid). IsPlaced (note_rows z) 1 frame.height p.number) list p.places) q.places in (
        p.notes_is ∙ ap (λ (z : List NotedSolid). placed_notes separator (take p.number z)) list ∙ ap (λ (k : ℕ). placed_notes separator (take k q.list)) number ∙ sym q.notes_is,
        p.left_is ∙ ap (λ (z : List NotedSolid). left_of (drop p.number z)) list ∙ ap (λ (k : ℕ). left_of (drop k q.list)) number ∙ sym q.left_is,
      )

-- a step from a state is one, and where all is placed there is none
module _ (one : HaveOneRemainder) (faces : List FontFace) (flow : Flow) (frames : PageFrames) where
  pub step_unique : (s : State) (x y : Page) (u v : State) → IsStep faces flow frames s x u → IsStep faces flow frames s y v → (x ≡ y) × (u ≡ v)
  step_unique s x y u v (blank g n p a) (blank g' n' p' a') = (p ∙ sym p', a ∙ sym a')
  step_unique s x y u v (blank g n p a) (flows g' m cut is p' a') = absurd (let e : false ≡ true = sym n ∙ m in cc)
  step_unique s x y u v (blank g n p a) (notes_step g' m placed left is p' a') = absurd (let e : false ≡ true = sym g ∙ g' in cc)
  step_unique s x y u v (flows g m cut is p a) (blank g' n' p' a') = absurd (let e : false ≡ true = sym n' ∙ m in cc)
  step_unique s x y u v (flows g m cut is p a) (flows g' m' cut' is' p' a') =
      let same = flow_cut_unique one faces flow (frames.frame_of s.index (name_at flow.main s.at) kind.Flow) s.carried (record { at = s.at; kept = s.kept }) cut cut' is is' in
      (p ∙ ap (flow_page frames flow.main s) same ∙ sym p', a ∙ ap (after_flow flow.main s) same ∙ sym a')
  step_unique s x y u v (flows g m cut is p a) (notes_step g' m' placed left is' p' a') = absurd (let e : false ≡ true = sym g ∙ g' in cc)
  step_unique s x y u v (notes_step g m placed left is p a) (blank g' n' p' a') = absurd (let e : false ≡ true = sym g' ∙ g in cc)
  step_unique s x y u v (notes_step g m placed left is p a) (flows g' m' cut' is' p' a') = absurd (let e : false ≡ true = sym g' ∙ g in cc)
  step_unique s x y u v (notes_step g m placed left is p a) (notes_step g' m' placed' left' is' p' a') =
      let same = notes_cut_unique one faces flow (frames.frame_of s.index s.name kind.Notes) s.carried placed placed' left left' is is' in
      (p ∙ ap (notes_page frames s) same.0 ∙ sym p', a ∙ ap (after_notes s) same.1 ∙ sym a')

  pub step_stops : (s : State) (x : Page) (u : State) → IsEnded s → IsStep faces flow frames s x u → ⊥
  step_stops s x u e (blank g n p a) = let f : true ≡ false = sym e.done ∙ g in cc
  step_stops s x u e (flows g m cut is p a) = let f : true ≡ false = sym e.done ∙ g in cc
  step_stops s x u e (notes_step g m placed left is p a) = let f : false ≡ true = sym e.none ∙ m in cc

pub paged_unique : HaveOneRemainder → HasOnePageList
paged_unique one faces flow frames ps qs = run_unique (IsStep faces flow frames) IsEnded (step_unique one faces flow frames) (step_stops one faces flow frames) (start_of flow.main) ps qs

-- a run that ends is no longer than one that goes on
pub leaves_nothing : HaveOneRemainder → LeavesNothing
leaves_nothing one faces flow frames pages n paged few (prefix, size, s, run) = go (start_of flow.main) pages prefix paged run (omega arith)
  where
    go : (u : State) (ps qs : List Page) → IsRun (IsStep faces flow frames) IsEnded u ps → IsRun (IsStep faces flow frames) (λ v. (v ≡ s) × ¬ (IsEnded v)) u qs → length ps ≤ length qs → ⊥
    go u [] [] ended at low = at.1 ended
    go u [] (q ∷ qs) ended r low = step_stops one faces flow frames u q r.0 ended r.1
    go u (p ∷ ps) [] r at low = absurd (omega arith)
    go u (p ∷ ps) (q ∷ qs) r r' low =
        let same = step_unique one faces flow frames u p q r.0 r'.0 r.1 r'.1 in
        go r'.0 ps qs (subst (λ (v : State). IsRun (IsStep faces flow frames) IsEnded v ps) same.1 r.2) r'.2 (omega arith)
