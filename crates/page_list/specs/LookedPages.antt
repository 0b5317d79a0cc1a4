-- The lines that the pages of a list may look at, page by page.
use Rattle.std.specs.Prelude.{◌≡◌, ℕ, ◌+◌, ◌≤◌, List, Bool, true, false}
use Rattle.metrics.specs.Face.{FontFace}
use Rattle.boxes.specs.Frames.{PageFrames}
use Rattle.boxes.specs.Steps.{IsRun}
use Rattle.boxes.specs.declared.flow.Flow.{Flow}
use Rattle.boxes.specs.declared.frames.PageKind.TheVariants as kind
use Rattle.boxes.specs.declared.page.Page.{Page}
use Rattle.line_fill.specs.Kept.{Asked}
use Rattle.line_fill.specs.declared.kept.KeptLeaf.{KeptLeaf}
use Rattle.note_list.specs.Known.{AreKnown}
use Rattle.page_list.specs.Looked.{IsLookedFlow, IsLookedNotes}
use Rattle.page_list.specs.Pages.{IsEnded, IsStep, State, meets_at, name_at, start_of}

-- how many lines the next page of a list may look at that aren't known: a blank page none
pub data IsLookedNext (faces : List FontFace) (flow : Flow) (frames : PageFrames) (known : Asked → Bool) (s : State)
    (lines : ℕ) : Type 0 where
  blank : s.done ≡ false → meets_at frames s.index s.demand ≡ false → lines ≡ 0 →
      IsLookedNext faces flow frames known s lines
  flows : s.done ≡ false → meets_at frames s.index s.demand ≡ true →
      IsLookedFlow faces flow (frames.frame_of s.index (name_at flow.main s.at) kind.Flow)
      (record { at = s.at; kept = s.kept }) s.carried known lines → IsLookedNext faces flow frames known s lines
  noted : s.done ≡ true → IsLookedNotes faces flow (frames.frame_of s.index s.name kind.Notes) s.carried known lines →
      IsLookedNext faces flow frames known s lines

-- where a page list stands, with how many lines its pages so far may look at
pub record Looked : Type 0 where
  pub state : State
  pub lines : ℕ

-- one page more
pub record IsLookedStep (faces : List FontFace) (flow : Flow) (frames : PageFrames) (known : Asked → Bool) (s : Looked)
    (p : Page) (u : Looked) : Type 0 where
  pub step : IsStep faces flow frames s.state p u.state
  pub more : ℕ
  pub looked : IsLookedNext faces flow frames known s.state more
  pub lines_is : u.lines ≡ s.lines + more

-- how many lines the pages of a flow may look at, page by page, that aren't known
abbrev pub IsLookedList : List FontFace → Flow → PageFrames → (Asked → Bool) → List Page → ℕ → Type 0
IsLookedList faces flow frames known pages lines = IsRun (IsLookedStep faces flow frames known)
    (λ u. IsEnded u.state × (u.lines ≡ lines)) (record { state = start_of flow.main; lines = 0 }) pages

-- no more steps are taken than pages may look at lines that aren't known, where known ones are held
abbrev pub LooksAtPages : List FontFace → Flow → PageFrames → List KeptLeaf → List Page → ℕ → ℕ → Type 0
LooksAtPages faces flow frames kept pages old new = (known : Asked → Bool) → AreKnown known kept → (lines : ℕ) ×
    IsLookedList faces flow frames known pages lines × (new ≤ old + lines)
