-- How many lines the passes over a document fill at most: of those that the cuts of their pages may look at, the ones
-- that the pass before didn't place.
use Rattle.std.specs.Prelude.{◌≡◌, ℕ, zero, suc, ℤ, ◌+◌, ◌≤◌, List, Bool, true, false, Some, Result, Ok, Err, slice_get}
use Rattle.bk_num.specs.declared.ids.NodeId.{NodeId}
use Rattle.boxes.specs.Frames.{PageFrames}
use Rattle.boxes.specs.Tree.{Tree}
use Rattle.boxes.specs.declared.flow.Flow.{Flow}
use Rattle.boxes.specs.declared.flow.Note.{Note}
use Rattle.boxes.specs.declared.leaf.Leaf.{Leaf as LeafData}
use Rattle.boxes.specs.declared.page.Page.{Page}
use Rattle.boxes.specs.declared.page.Placed.{Placed}
use Rattle.boxes.specs.declared.place.Event.TheVariants.{Leaf}
use Rattle.boxes.specs.declared.place.Position.{Position}
use Rattle.cursor.specs.Remainder.{leaf_measure}
use Rattle.gen_text.specs.References.{AreTargets}
use Rattle.gen_text.specs.declared.table.Entry.{Entry}
use Rattle.line_fill.specs.Kept.{Asked, asked_of}
use Rattle.page_list.specs.LookedPages.{IsLookedList}
use Rattle.passes.specs.Passes.{IsPass}
use Rattle.passes.specs.Settles.{work_of}
use Rattle.passes.specs.Work.{Work}
use Rattle.passes.specs.declared.settle.Input.{Input}
use Rattle.passes.specs.declared.settle.PassErr.{PassErr}
use Rattle.passes.specs.declared.settle.PassErr.TheVariants as err
use Rattle.passes.specs.declared.settle.Settled.{Settled}
use Rattle.refs.specs.Tables.{opening_of}

-- the line of a leaf from a place on, in a frame of a width, has a triple: the leaf, the offset and the measure
pub record IsLineAt (t : Tree) (width : ℤ) (at : Position) (a : Asked) : Type 0 where
  pub number : ℕ
  pub leaf : LeafData
  pub names : slice_get t.events at.event ≡ Some (Leaf number)
  pub has : slice_get t.leaves number ≡ Some leaf
  pub is : a ≡ asked_of leaf at.offset (leaf_measure t width at.event)

-- a page places the line of a triple, of its flow or of a note
pub data PlacesLine (flow : Flow) (q : Page) (a : Asked) : Type 0 where
  of_flow : (k : ℕ) (p : Placed) → slice_get q.solids k ≡ Some p → IsLineAt flow.main q.frame.width p.at a →
      PlacesLine flow q a
  of_note : (k n : ℕ) (p : Placed) (note : Note) → slice_get q.notes k ≡ Some (n, p) →
      slice_get flow.notes n ≡ Some note → IsLineAt note.body q.frame.width p.at a → PlacesLine flow q a

-- and so does one of some pages
pub record PlaceLine (flow : Flow) (pages : List Page) (a : Asked) : Type 0 where
  pub place : ℕ
  pub page : Page
  pub has : slice_get pages place ≡ Some page
  pub line : PlacesLine flow page a

-- a test tells of each flow with its pages some triples of lines that these place
abbrev pub ArePlacedLines : (Flow → List Page → Asked → Bool) → Type 0
ArePlacedLines placed = (flow : Flow) (pages : List Page) (a : Asked) → placed flow pages a ≡ true →
    PlaceLine flow pages a

-- how many lines k passes may look at, page by page, that the pass before each didn't place as far as the test tells,
-- none before the first; with the table after them and the test of what the last of them placed
abbrev pub LookIn : Work → (Flow → List Page → Asked → Bool) → ℕ → List Entry → (Asked → Bool) → ℕ → Type 0
LookIn w placed zero table before lines = (table ≡ opening_of w.targets) × (before ≡ (λ a. false)) × (lines ≡ 0)
LookIn w placed (suc k) table before lines = (t : List Entry) × (b : Asked → Bool) × (n : ℕ) × LookIn w placed k t b n ×
    (flow : Flow) × (pages : List Page) × IsPass w t flow pages table × (more : ℕ) ×
    IsLookedList w.faces flow w.frames b pages more × (before ≡ placed flow pages) × (lines ≡ n + more)

-- no more steps are taken than so many passes may look at such lines
abbrev pub TakesFewSteps : Work → ℕ → ℕ → ℕ → Type 0
TakesFewSteps w passes old new = (placed : Flow → List Page → Asked → Bool) → ArePlacedLines placed →
    (table : List Entry) × (before : Asked → Bool) × (lines : ℕ) × LookIn w placed passes table before lines ×
    (new ≤ old + lines)

-- the same over a document
pub record HaveLooked (input : Input) (frames : PageFrames) (per passes old new : ℕ) : Type 0 where
  pub targets : List NodeId
  pub are : AreTargets input.dom.now input.styles.now targets
  pub looks : TakesFewSteps (work_of input frames per targets) passes old new

-- nor where passes settle, or don't within a limit
abbrev pub LookWithin : Input → PageFrames → ℕ → ℕ → Result Settled PassErr → ℕ → ℕ → Type 0
LookWithin input frames per limit (Ok s) old new = HaveLooked input frames per s.passes old new
LookWithin input frames per limit (Err (err.NotSettled target before after)) old new =
    HaveLooked input frames per limit old new
LookWithin input frames per limit (Err err.Text) old new = Unit {0}
LookWithin input frames per limit (Err err.Pages) old new = Unit {0}
LookWithin input frames per limit (Err err.NoMemory) old new = Unit {0}
