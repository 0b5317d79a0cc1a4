-- Pages that lead to a state of a page list.
use Rattle.std.specs.Prelude.{◌≡◌, ◌+◌, ◌≤◌, ℕ, true, Bool, List, None, length}
use Rattle.std.specs.List.{All}
use Rattle.bk_num.specs.Limits.{most_pages}
use Rattle.metrics.specs.Face.{FontFace}
use Rattle.boxes.specs.Steps.{IsRun}
use Rattle.boxes.specs.declared.flow.Flow.{Flow}
use Rattle.boxes.specs.declared.page.Page.{Page}
use Rattle.line_fill.specs.Kept.{Asked}
use Rattle.line_fill.specs.declared.kept.KeptLeaf.{KeptLeaf}
use Rattle.note_list.specs.Conditions.{AreCarried, IsAtSolid}
use Rattle.note_list.specs.Known.{AreKnown}
use Rattle.page_list.specs.Cuts.{place_after}
use Rattle.boxes.specs.Frames.{PageFrames}
use Rattle.page_list.specs.LookedPages.{IsLookedList, IsLookedStep}
use Rattle.page_list.specs.Pages.{State, IsStep, start_of}
use Rattle.fragment.specs.declared.paginate.FlowPages.{FlowPages}

-- pages from the start of a flow up to a state
abbrev pub Leads : List FontFace → Flow → PageFrames → State → List Page → Type 0
Leads faces flow frames s pages = IsRun (IsStep faces flow frames) (λ u. u ≡ s) (start_of flow.main) pages

-- pages that stop where the flow ends, with what is carried there
pub record EndsFlow (faces : List FontFace) (flow : Flow) (frames : PageFrames) (p : FlowPages) : Type 0 where
  pub state : State
  pub leads : Leads faces flow frames state p.pages.items
  pub done : state.done ≡ true
  pub index : length p.pages.items + 1 ≡ state.index
  pub few : length p.pages.items ≤ most_pages
  pub name : state.name ≡ p.name
  pub carried_is : state.carried ≡ p.carried
  pub carried : AreCarried flow (place_after flow.main None) p.carried
  pub stands : All (IsAtSolid flow.notes) p.carried

-- pages from the start of a flow up to a state, which may look at so many lines that aren't known
abbrev pub LooksTo : List FontFace → Flow → PageFrames → (Asked → Bool) → State → ℕ → List Page → Type 0
LooksTo faces flow frames known s lines pages = IsRun (IsLookedStep faces flow frames known)
    (λ u. (u.state ≡ s) × (u.lines ≡ lines)) (record { state = start_of flow.main; lines = 0 }) pages

-- a state after pages that stop where the flow ends
pub record IsEndOf (p : FlowPages) (s : State) : Type 0 where
  pub done : s.done ≡ true
  pub index : length p.pages.items + 1 ≡ s.index
  pub name : s.name ≡ p.name
  pub carried : s.carried ≡ p.carried

-- no more steps are taken than these pages may look at lines that aren't known, where known ones are held
pub record HasLooked (faces : List FontFace) (flow : Flow) (frames : PageFrames) (kept : List KeptLeaf) (old new : ℕ)
    (p : FlowPages) : Type 0 where
  pub state : State
  pub ends : IsEndOf p state
  pub looks : (known : Asked → Bool) → AreKnown known kept → (lines : ℕ) ×
      LooksTo faces flow frames known state lines p.pages.items × (new ≤ old + lines)

-- nor with the pages of notes after them, whatever their state is
abbrev pub LooksOn : List FontFace → Flow → PageFrames → List KeptLeaf → FlowPages → List Page → ℕ → ℕ → Type 0
LooksOn faces flow frames kept p pages old new = (known : Asked → Bool) → AreKnown known kept → (s : State)
    (lines : ℕ) → IsEndOf p s → LooksTo faces flow frames known s lines p.pages.items →
    (more : ℕ) × IsLookedList faces flow frames known pages (lines + more) × (new ≤ old + more)
