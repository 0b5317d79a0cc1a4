-- That the notes on the pages are all that the flow has, and that none begins before its call (css-gcpm-3, 2:
-- footnotes).
use Rattle.std.specs.Prelude.{◌≡◌, ℕ, suc, ◌≤◌, List, [], ◌∷◌, ◌++◌, Some, map, slice_get}
use Rattle.std.specs.List.{flat_map}
use Rattle.boxes.specs.declared.flow.Flow.{Flow}
use Rattle.boxes.specs.declared.flow.Note.{Note}
use Rattle.boxes.specs.declared.page.Page.{Page}
use Rattle.boxes.specs.declared.page.Placed.{Placed}
use Rattle.page_seq.specs.Noted.{begins_on}
use Rattle.page_seq.specs.Places.{page_of}
use Rattle.page_list.specs.Parted.{HoldsAll}

-- the note solids of all pages, in order
abbrev pub notes_of : List Page → List (ℕ × Placed)
notes_of pages = flat_map (λ p. p.notes) pages

-- the solids of notes that are numbered from k on: of each note all, each edge once and lines that part its text, note
-- after note
abbrev pub AreBodies : ℕ → List Note → List (ℕ × Placed) → Type 0
AreBodies k [] list = list ≡ []
AreBodies k (note ∷ notes) list = (solids : List Placed) × HoldsAll note.body solids × (rest : List (ℕ × Placed)) ×
    AreBodies (suc k) notes rest × (list ≡ map (λ s. (k, s)) solids ++ rest)

-- the notes on the pages are those of the flow, whole and in the order of their calls
abbrev pub HoldsNotes : Flow → List Page → Type 0
HoldsNotes flow pages = AreBodies 0 flow.notes (notes_of pages)

-- a note that is called on a page begins on that page or on a later one; at levels 0 to 2 it begins there
pub record BeginsInTime (flow : Flow) (pages : List Page) (note : Note) (k : ℕ) : Type 0 where
  pub later : page_of flow.main pages note.call ≤ k
  pub here : (p : Page) → slice_get pages (page_of flow.main pages note.call) ≡ Some p → p.level ≤ 2 →
      k ≡ page_of flow.main pages note.call

-- no note begins on a page before its call's, and each begins there where the page is cut at level 0 to 2
abbrev pub BeginInTime : Flow → List Page → Type 0
BeginInTime flow pages = (n k : ℕ) (note : Note) → slice_get flow.notes n ≡ Some note → begins_on pages n ≡ Some k →
    BeginsInTime flow pages note k
