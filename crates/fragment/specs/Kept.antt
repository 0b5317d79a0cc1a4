-- What is held of the lines that pages place.
use Rattle.std.specs.Prelude.{ℕ, ℤ, List}
use Rattle.std.specs.List.{All}
use Rattle.boxes.specs.declared.flow.Flow.{Flow}
use Rattle.boxes.specs.declared.page.Page.{Page}
use Rattle.boxes.specs.declared.page.Placed.{Placed}
use Rattle.cursor.specs.Asks.{IsHeldNow}
use Rattle.line_fill.specs.declared.kept.KeptLeaf.{KeptLeaf}
use Rattle.note_list.specs.Kept.{NotesHeldNow}

-- each line that a page of a width places, of a flow and of its notes, is held as asked for in this pass
pub record IsPageHeld (flow : Flow) (width : ℤ) (kept : List KeptLeaf) (own : List Placed) (noted : List (ℕ × Placed)) :
    Type 0 where
  pub solids : All (λ p. IsHeldNow flow.main width kept p.at) own
  pub notes : NotesHeldNow flow.notes width kept noted

-- and so is each line of some pages
abbrev pub ArePagesHeld : Flow → List KeptLeaf → List Page → Type 0
ArePagesHeld flow kept pages = All (λ q. IsPageHeld flow q.frame.width kept q.solids q.notes) pages
