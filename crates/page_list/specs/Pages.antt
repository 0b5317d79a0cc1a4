-- The one page list of a flow, as steps from a state to the next (css-break-3, 4; css-page-3, 3; css-gcpm-3, 2).
use Rattle.std.specs.Prelude.{◌≡◌, ℕ, suc, pos, ◌+◌, ◌≤◌, List, [], ◌∷◌, ◌++◌, Option, Some, None, Bool, true, false, length}
use Rattle.std.specs.List.{All}
use Rattle.bk_num.specs.declared.ids.NameId.{NameId}
use Rattle.metrics.specs.Face.{FontFace}
use Rattle.boxes.specs.Frames.{PageFrames}
use Rattle.boxes.specs.Steps.{IsRun}
use Rattle.boxes.specs.Tree.{Tree}
use Rattle.boxes.specs.declared.flow.Flow.{Flow}
use Rattle.boxes.specs.declared.frames.Frame.{Frame}
use Rattle.boxes.specs.declared.frames.Demand.{Demand}
use Rattle.boxes.specs.declared.frames.PageKind.TheVariants as kind
use Rattle.boxes.specs.declared.page.Page.{Page}
use Rattle.boxes.specs.declared.page.Placed.{Placed}
use Rattle.boxes.specs.declared.place.Position.{Position}
use Rattle.seams.specs.Seams.{seam_of}
use Rattle.note_list.specs.Calls.{start_place}
use Rattle.note_list.specs.declared.carried.Carried.{Carried}
use Rattle.note_list.specs.Conditions.{CanBePaged}
use Rattle.notes.specs.Near.{IsNearSolid}
use Rattle.page_list.specs.Cuts.{IsFlowCut, IsNotesCut}
use Rattle.page_list.specs.declared.cut.Cut.{Cut}

-- where a page list stands: the place and the index of its next page, whether the kept gap stands above that page's
-- first solid, the demand that the page has to meet, whether the flow has ended, what is carried, and the name of the
-- last flow page
pub record State : Type 0 where
  pub at : Position
  pub index : ℕ
  pub kept : Bool
  pub demand : Option Demand
  pub done : Bool
  pub carried : List Carried
  pub name : NameId

-- the page name at a place: that of the seam there, whatever the measure is
abbrev pub name_at : Tree → Position → NameId
name_at t at = (seam_of t at (pos 0)).name

-- a page list begins at page 1, with the side that the flow's start asks
abbrev pub start_of : Tree → State
start_of t = record {
  at = start_place;
  index = 1;
  kept = true;
  demand = (seam_of t start_place (pos 0)).forced;
  done = false;
  carried = [];
  name = name_at t start_place;
}

-- whether the page of an index meets the demand, if there is one
abbrev pub meets_at : PageFrames → ℕ → Option Demand → Bool
meets_at frames index None = true
meets_at frames index (Some d) = frames.meets index d

-- whether there is a demand
abbrev pub is_forced : Option Demand → Bool
is_forced None = false
is_forced (Some d) = true

-- a blank page of a frame
abbrev pub blank_of : ℕ → NameId → Frame → Page
blank_of index name frame =
    record { index = index; kind = kind.Blank; name = name; frame = frame; solids = []; notes = []; level = 0 }

-- a blank page, which holds nothing
abbrev pub blank_at : PageFrames → NameId → ℕ → Page
blank_at frames name index = blank_of index name (frames.frame_of index name kind.Blank)

-- the blank page that a page list adds
abbrev pub blank_page : PageFrames → Tree → State → Page
blank_page frames t s = blank_at frames (name_at t s.at) s.index

-- blank pages from an index up to another, none of which meets the demand
abbrev pub AreBlanks : PageFrames → NameId → Option Demand → ℕ → ℕ → List Page → Type 0
AreBlanks frames name demand index to [] = index ≡ to
AreBlanks frames name demand index to (p ∷ ps) = (meets_at frames index demand ≡ false) ×
    (p ≡ blank_at frames name index) ×
    AreBlanks frames name demand (suc index) to ps

-- some pages, and blank ones after them
abbrev pub AddsBlanks : PageFrames → NameId → Option Demand → ℕ → ℕ → List Page → List Page → Type 0
AddsBlanks frames name demand index to old new = (blanks : List Page) × AreBlanks frames name demand index to blanks ×
    (new ≡ old ++ blanks)

-- a page of the flow of a frame, by its cut
abbrev pub flow_page_of : ℕ → NameId → Frame → Cut → Page
flow_page_of index name frame cut =
    record {
      index = index;
      kind = kind.Flow;
      name = name;
      frame = frame;
      solids = cut.solids;
      notes = cut.notes;
      level = cut.level;
    }

-- the page of the flow that a page list adds
abbrev pub flow_page : PageFrames → Tree → State → Cut → Page
flow_page frames t s cut =
    flow_page_of s.index (name_at t s.at) (frames.frame_of s.index (name_at t s.at) kind.Flow) cut

-- a page of notes of a frame
abbrev pub notes_page_of : ℕ → NameId → Frame → List (ℕ × Placed) → Page
notes_page_of index name frame notes =
    record { index = index; kind = kind.Notes; name = name; frame = frame; solids = []; notes = notes; level = 0 }

-- a page of notes after the flow, which has the name of the last flow page
abbrev pub notes_page : PageFrames → State → List (ℕ × Placed) → Page
notes_page frames s notes = notes_page_of s.index s.name (frames.frame_of s.index s.name kind.Notes) notes

-- the state after a blank page
abbrev pub after_blank : State → State
after_blank s = record s { index = suc s.index }

-- the state after a page of the flow
abbrev pub after_flow : Tree → State → Cut → State
after_flow t s cut = record {
  at = cut.to;
  index = suc s.index;
  kept = is_forced cut.forced;
  demand = cut.forced;
  done = cut.ended;
  carried = cut.carried;
  name = name_at t s.at;
}

-- the state after a page of notes
abbrev pub after_notes : State → List Carried → State
after_notes s left = record s { index = suc s.index; carried = left }

-- whether something is carried
abbrev pub has_some : List Carried → Bool
has_some [] = false
has_some (c ∷ carried) = true

-- one page more: a blank one where the demand isn't met, else a flow page up to its cut; after the flow a page of
-- notes, as long as some are carried
pub data IsStep (faces : List FontFace) (flow : Flow) (frames : PageFrames) (s : State) (p : Page) (u : State) : Type 0
  where
    blank : s.done ≡ false → meets_at frames s.index s.demand ≡ false → p ≡ blank_page frames flow.main s →
        u ≡ after_blank s →
        IsStep faces flow frames s p u
    flows : s.done ≡ false → meets_at frames s.index s.demand ≡ true → (cut : Cut) →
        IsFlowCut faces flow (frames.frame_of s.index (name_at flow.main s.at) kind.Flow) (record {
          at = s.at;
          kept =
              s.kept;
        }) s.carried cut →
        p ≡ flow_page frames flow.main s cut → u ≡ after_flow flow.main s cut → IsStep faces flow frames s p u
    noted : s.done ≡ true → has_some s.carried ≡ true → (notes : List (ℕ × Placed)) → (left : List Carried) →
        IsNotesCut faces flow (frames.frame_of s.index s.name kind.Notes) s.carried notes left →
        p ≡ notes_page frames s notes →
        u ≡ after_notes s left → IsStep faces flow frames s p u

-- the flow has ended, and nothing is carried
pub record IsEnded (s : State) : Type 0 where
  pub done : s.done ≡ true
  pub none : has_some s.carried ≡ false

-- the page list of a flow: page by page from its start until nothing is left
abbrev pub IsPaged : List FontFace → Flow → PageFrames → List Page → Type 0
IsPaged faces flow frames pages = IsRun (IsStep faces flow frames) IsEnded (start_of flow.main) pages

-- a flow has one page list
abbrev pub HasOnePageList : Type 0
HasOnePageList = (faces : List FontFace) (flow : Flow) (frames : PageFrames) (ps qs : List Page) →
    IsPaged faces flow frames ps →
    IsPaged faces flow frames qs → ps ≡ qs

-- each demand is met by some page from each index on
abbrev pub MeetAll : PageFrames → Type 0
MeetAll frames = (index : ℕ) (d : Demand) → (k : ℕ) × (frames.meets (index + k) d ≡ true)

-- a flow has a page list, however long it is, over frames that meet each demand
abbrev pub HasSomePageList : Type 0
HasSomePageList = (faces : List FontFace) (flow : Flow) (frames : PageFrames) → CanBePaged faces flow → MeetAll frames →
    (pages : List Page) × IsPaged faces flow frames pages

-- so many pages leave something unplaced
abbrev pub LeavesSome : List FontFace → Flow → PageFrames → ℕ → Type 0
LeavesSome faces flow frames n = (pages : List Page) × (length pages ≡ n) × (s : State) ×
    IsRun (IsStep faces flow frames) (λ u. (u ≡ s) × ¬ (IsEnded u)) (start_of flow.main) pages

-- a flow with a page list has nothing unplaced after as many pages, or after more
abbrev pub LeavesNothing : Type 0
LeavesNothing = (faces : List FontFace) (flow : Flow) (frames : PageFrames) (pages : List Page) (n : ℕ) →
    IsPaged faces flow frames pages →
    length pages ≤ n → ¬ (LeavesSome faces flow frames n)

-- the tops and heights of what a page places keep these bounds
abbrev pub AreNear : List Placed → List (ℕ × Placed) → Type 0
AreNear solids notes = All IsNearSolid solids × All (λ n. IsNearSolid n.1) notes

-- and so of each page of a list
abbrev pub HaveNearTops : List Page → Type 0
HaveNearTops pages = All (λ p. AreNear p.solids p.notes) pages
