-- What holds of each page list (css-break-3, 2 to 4; css-gcpm-3, 2).
use Rattle.std.specs.Prelude.{◌≡◌, ℕ, ◌+◌, ◌≤◌, List, Bool, true, length}
use Rattle.std.specs.List.{All}
use Rattle.metrics.specs.Face.{FontFace}
use Rattle.boxes.specs.Tree.{Tree}
use Rattle.boxes.specs.declared.flow.Flow.{Flow}
use Rattle.boxes.specs.declared.frames.Demand.{Demand}
use Rattle.boxes.specs.declared.page.Page.{Page}
use Rattle.boxes.specs.declared.page.Placed.{Placed}
use Rattle.note_list.specs.Conditions.{CanBePaged}
use Rattle.page_list.specs.Bounds.{HasTexts, most_pages_of}
use Rattle.page_list.specs.Inside.{EndInside}
use Rattle.page_list.specs.Noted.{BeginInTime, HoldsNotes}
use Rattle.boxes.specs.Frames.{HaveWidths, PageFrames}
use Rattle.page_list.specs.Pages.{IsPaged}
use Rattle.page_seq.specs.FoldLaws.{AreNumbered}
use Rattle.page_seq.specs.Owners.{solids_of}
use Rattle.page_list.specs.Parted.{HoldsAll, HoldsBreaks, HoldsEdges, HoldsText, IsLineThere}

-- the main tree's solids stand on the pages each once and in order: all edges, and lines that part the text of each
-- leaf
pub record HoldsMain (flow : Flow) (pages : List Page) : Type 0 where
  pub all : HoldsAll flow.main (solids_of pages)
  pub text : HoldsText flow.main (solids_of pages)
  pub edges : HoldsEdges flow.main (solids_of pages)

-- each edge and each line of the main tree stands on the pages once
abbrev pub MainStandsOnce : Type 0
MainStandsOnce = (faces : List FontFace) (flow : Flow) (frames : PageFrames) (pages : List Page) →
    CanBePaged faces flow →
    IsPaged faces flow frames pages → HoldsMain flow pages

-- so do the notes' solids, note after note in the order of calls
abbrev pub NotesStandOnce : Type 0
NotesStandOnce = (faces : List FontFace) (flow : Flow) (frames : PageFrames) (pages : List Page) →
    CanBePaged faces flow →
    IsPaged faces flow frames pages → HoldsNotes flow pages

-- solids that are all of a tree stand at its leaves where lines may begin and end
abbrev pub LinesStandAtPlaces : Type 0
LinesStandAtPlaces = (t : Tree) (solids : List Placed) → HoldsAll t solids → All (IsLineThere t) solids

-- no note begins on a page before its call's, and at levels 0 to 2 it begins on that page
abbrev pub NotesBeginInTime : Type 0
NotesBeginInTime = (faces : List FontFace) (flow : Flow) (frames : PageFrames) (pages : List Page) →
    CanBePaged faces flow →
    IsPaged faces flow frames pages → BeginInTime flow pages

-- each forced seam stands between two pages, and the page after it meets the demand
abbrev pub BreaksHold : Type 0
BreaksHold = (faces : List FontFace) (flow : Flow) (frames : PageFrames) (pages : List Page) → CanBePaged faces flow →
    IsPaged faces flow frames pages → HoldsBreaks flow.main frames pages

-- pages have the indexes from 1 on
abbrev pub PagesAreNumbered : Type 0
PagesAreNumbered = (faces : List FontFace) (flow : Flow) (frames : PageFrames) (pages : List Page) →
    IsPaged faces flow frames pages → AreNumbered 1 pages

-- at levels 0 to 2 the solids of a page end inside its frame and above its notes, where no frame's width is negative
abbrev pub PagesEndInside : Type 0
PagesEndInside = (faces : List FontFace) (flow : Flow) (frames : PageFrames) (pages : List Page) →
    HaveWidths frames → CanBePaged faces flow → IsPaged faces flow frames pages → EndInside pages

-- frames that meet each demand within a bound, a free one at once
pub record MeetWithin (free : Demand → Bool) (bound : ℕ) (frames : PageFrames) : Type 0 where
  pub some : (index : ℕ) (d : Demand) → (k : ℕ) × (k ≤ bound) × (frames.meets (index + k) d ≡ true)
  pub at_once : (index : ℕ) (d : Demand) → free d ≡ true → frames.meets index d ≡ true

-- a page list is no longer than the parts of its flow and the sides that are asked allow
abbrev pub PagesAreFew : Type 0
PagesAreFew = (faces : List FontFace) (flow : Flow) (frames : PageFrames)
    (free : Demand → Bool) (bound : ℕ) (pages : List Page) →
    CanBePaged faces flow → HasTexts flow → MeetWithin free bound frames → IsPaged faces flow frames pages →
    length pages ≤ most_pages_of free bound flow
