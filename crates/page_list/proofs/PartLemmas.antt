-- The main solids on the pages of a flow are all that its main tree has.
use Rattle.std.proofs.Common.{◌≡◌, ℕ, zero, suc, ℤ, ◌+ℤ◌, List, [], ◌∷◌, ◌++◌, None, length, take, slice_get, refl, sym, ◌∙◌, subst, arith}
use Rattle.metrics.specs.Face.{FontFace}
use Rattle.boxes.specs.Tree.{Tree, IsTree}
use Rattle.boxes.specs.Steps.{IsRun}
use Rattle.boxes.specs.declared.flow.Flow.{Flow}
use Rattle.boxes.specs.declared.frames.Frame.{Frame}
use Rattle.boxes.specs.declared.frames.PageKind.TheVariants as kind
use Rattle.boxes.specs.declared.page.Page.{Page}
use Rattle.boxes.specs.declared.page.Placed.{Placed}
use Rattle.boxes.specs.declared.place.Position.{Position}
use Rattle.seams.specs.Runs.{solid_after}
use Rattle.seams.proofs.RunLemmas.{solid_none}
use Rattle.cursor.specs.Remainder.{SolidView, IsRemainder}
use Rattle.cursor.proofs.RemLemmas.{Stands, solid_stands}
use Rattle.note_list.specs.Conditions.{CanBePaged}
use Rattle.page_list.specs.declared.cut.Cut.{Cut}
use Rattle.page_list.specs.Cuts.{IsFlowCut, first_gap, placed_below, placed_from, place_after}
use Rattle.page_list.specs.Pages.IsStep.{blank, flows, noted}
use Rattle.boxes.specs.Frames.{PageFrames}
use Rattle.page_list.specs.Pages.{IsEnded, IsPaged, IsStep, State, name_at, start_of}
use Rattle.page_seq.specs.Owners.{solids_of}
use Rattle.page_list.specs.Parted.{AreNextSolids, HoldsAll}
use Rattle.page_list.proofs.NextLemmas.{next_of, same_solids}
use Rattle.page_list.proofs.StateLemmas.{Stays, stays_start, stays_step}

-- no solid stands after the tree's end
none_after : (t : Tree) (solids : List Placed) → AreNextSolids t (place_after t None) solids → solids ≡ []
none_after t [] r = refl
none_after t (p ∷ ps) r = absurd (let e = sym (solid_none t (length t.events) (omega arith)) ∙ r.1.0.found in cc)

module _ (faces : List FontFace) (t : Tree) (w : ℤ) (tree : IsTree t) where
  -- ---- the solids of a page, and those after its cut
  end_solids : (from : Position) (more : List Placed) → solid_after t from.event ≡ None → AreNextSolids t (place_after t None) more → AreNextSolids t from more
  end_solids from more none r = subst (AreNextSolids t from) (sym (none_after t more r)) none

  below_solids : (from : Position) (solids : List SolidView) (count : ℕ) (bottom : ℤ) (more : List Placed) → Stands t from → IsRemainder faces t w from solids → AreNextSolids t (place_after t (slice_get solids count)) more → AreNextSolids t from (placed_below bottom (take count solids) ++ more)
  below_solids from [] zero bottom more st r next = end_solids from more r next
  below_solids from [] (suc n) bottom more st r next = end_solids from more r next
  below_solids from (s ∷ solids) zero bottom more st r next = same_solids faces t w tree from s st r.1.0 more next
  below_solids from (s ∷ solids) (suc n) bottom more st r next =
      let there = subst (Stands t) (sym r.1.1) (solid_stands faces t w from s tree st r.1.0) in
      (r.0, (next_of faces t w tree from s st r.1.0 (bottom +ℤ s.seam.whole_gap) s.height, r.1.1), below_solids r.0 solids n ((bottom +ℤ s.seam.whole_gap) +ℤ s.height) more there r.2 next)

  page_solids : (from : Position) (solids : List SolidView) (count : ℕ) (first : ℤ) (more : List Placed) → Stands t from → IsRemainder faces t w from solids → AreNextSolids t (place_after t (slice_get solids count)) more → AreNextSolids t from (placed_from first (take count solids) ++ more)
  page_solids from [] zero first more st r next = end_solids from more r next
  page_solids from [] (suc n) first more st r next = end_solids from more r next
  page_solids from (s ∷ solids) zero first more st r next = same_solids faces t w tree from s st r.1.0 more next
  page_solids from (s ∷ solids) (suc n) first more st r next =
      let there = subst (Stands t) (sym r.1.1) (solid_stands faces t w from s tree st r.1.0) in
      (r.0, (next_of faces t w tree from s st r.1.0 first s.height, r.1.1), below_solids r.0 solids n (first +ℤ s.height) more there r.2 next)

module _ (faces : List FontFace) (flow : Flow) (frames : PageFrames) (can : CanBePaged faces flow) where
  -- the solids of a flow page, and those after its cut
  cut_solids : (frame : Frame) (s : State) (cut : Cut) → Stays flow s → IsFlowCut faces flow frame (record { at = s.at; kept = s.kept }) s.carried cut → (more : List Placed) → AreNextSolids flow.main cut.to more → AreNextSolids flow.main s.at (cut.solids ++ more)
  cut_solids frame s cut st is more next = subst (λ (ps : List Placed). AreNextSolids flow.main s.at (ps ++ more)) (sym is.solids_is)
      (page_solids faces flow.main frame.width can.main.is s.at is.solids is.count (first_gap s.kept is.solids) more st.stands is.rest (subst (λ (p : Position). AreNextSolids flow.main p more) is.to_is next))

  -- the pages from a state on have the solids from its place on
  solids_on : (s : State) (pages : List Page) → Stays flow s → IsRun (IsStep faces flow frames) IsEnded s pages → AreNextSolids flow.main s.at (solids_of pages)
  solids_on s [] st ended = subst (λ (p : Position). solid_after flow.main p.event ≡ None) (sym (st.done ended.done)) (solid_none flow.main (length flow.main.events) (omega arith))
  solids_on s (p ∷ pages) st r = by r.0 r.1 (solids_on r.0 pages (stays_step faces flow can frames s p r.0 st r.1) r.2)
    where
      More : State → Type 0
      More u = AreNextSolids flow.main u.at (solids_of pages)

      On : Page → Type 0
      On q = AreNextSolids flow.main s.at (q.solids ++ solids_of pages)

      by : (u : State) → IsStep faces flow frames s p u → More u → On p
      by u (blank going n p_is u_is) more = subst On (sym p_is) (subst More u_is more)
      by u (noted ended some notes left is p_is u_is) more = subst On (sym p_is) (subst More u_is more)
      by u (flows going m cut is p_is u_is) more =
          subst On (sym p_is) (cut_solids (frames.frame_of s.index (name_at flow.main s.at) kind.Flow) s cut st is (solids_of pages) (subst More u_is more))

  -- the main solids of a page list part the main tree
  pub paged_parts : (pages : List Page) → IsPaged faces flow frames pages → HoldsAll flow.main (solids_of pages)
  paged_parts pages paged = solids_on (start_of flow.main) pages (stays_start flow) paged
