-- Each step adds the page of the next index.
use Rattle.std.proofs.Common.{◌≡◌, ℕ, suc, List, [], ◌∷◌, ap, subst}
use Rattle.metrics.specs.Face.{FontFace}
use Rattle.boxes.specs.Frames.{PageFrames}
use Rattle.boxes.specs.Steps.{IsRun}
use Rattle.boxes.specs.declared.flow.Flow.{Flow}
use Rattle.boxes.specs.declared.page.Page.{Page}
use Rattle.page_list.specs.Laws.{PagesAreNumbered}
use Rattle.page_list.specs.Pages.{State, IsStep, IsEnded, start_of}
use Rattle.page_list.specs.Pages.IsStep.{blank, flows, noted}
use Rattle.page_seq.specs.FoldLaws.{AreNumbered}

module _ (faces : List FontFace) (flow : Flow) (frames : PageFrames) where
  step_index : (s : State) (p : Page) (u : State) → IsStep faces flow frames s p u → (p.index ≡ s.index) × (u.index ≡ suc s.index)
  step_index s p u (blank going misses p_is u_is) = (ap (λ (q : Page). q.index) p_is, ap (λ (v : State). v.index) u_is)
  step_index s p u (flows going meets cut is p_is u_is) = (ap (λ (q : Page). q.index) p_is, ap (λ (v : State). v.index) u_is)
  step_index s p u (noted done some notes left is p_is u_is) = (ap (λ (q : Page). q.index) p_is, ap (λ (v : State). v.index) u_is)

  run_numbered : (s : State) (pages : List Page) → IsRun (IsStep faces flow frames) IsEnded s pages → AreNumbered s.index pages
  run_numbered s [] r = tt
  run_numbered s (p ∷ pages) r =
      let here = step_index s p r.0 r.1 in
      (here.0, subst (λ (n : ℕ). AreNumbered n pages) here.1 (run_numbered r.0 pages r.2))

pub pages_numbered : PagesAreNumbered
pages_numbered faces flow frames pages paged = run_numbered faces flow frames (start_of flow.main) pages paged
