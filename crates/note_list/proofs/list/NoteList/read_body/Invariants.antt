use Rattle.std.proofs.Common.{◌≡◌, ◌+◌, Some, false, slice_get, List}
use Rattle.boxes.specs.Tree.{Holds}
use Rattle.boxes.specs.declared.flow.Note.{Note}
use Rattle.cursor.proofs.RemLemmas.{left_from}
use Rattle.cursor.specs.Asks.{KeepsHeld, TakesSteps}
use Rattle.cursor.specs.KeptLines.{StayPlaced}
use Rattle.line_fill.specs.Kept.{AreKept}
use Rattle.seams.specs.Widths.{widths_at}
use Rattle.note_list.specs.Kept.{AreHeldNow}
use Rattle.note_list.specs.Reads.{EndInNotes, IsReady}
use Rattle.note_list.specs.Known.{StepsForNotes}
use Rattle.note_list.specs.Short.{IsShortList}
use Rattle.note_list.proofs.BodyLemmas.{Reads}
use Rattle.note_list.proofs.list.NoteList.read_body.Given as goal

abbrev pub invariant-solids : goal.invariant-solids
invariant-solids g l = record {
  ready : IsReady l.self;
  room : l.self.over ≡ false;
  holds : Holds l.body l.at;
  widths : l.widths ≡ widths_at l.body l.fn.frame.width l.at;
  begun : l.self.begun ≡ l.fn.self.begun;
  own : l.self.own ≡ l.fn.self.own;
  ends : (notes : List Note) (note : Note) → slice_get notes l.part.note ≡ Some note → note.body ≡ l.body → EndInNotes notes l.fn.self → EndInNotes notes l.self;
  reads : Reads l.faces l.body l.fn.frame.width (record { note = l.part.note; at = l.part.at; called = l.called }) l.at l.fn.self.solids.items l.self.solids.items;
  short : IsShortList l.fn.frame.height l.fn.self → IsShortList l.fn.frame.height l.self;
  lines : (notes : List Note) (note : Note) → slice_get notes l.part.note ≡ Some note → note.body ≡ l.body → StepsForNotes notes l.fn.frame.width l.fn.lines.kept l.fn.self.solids.items l.self.solids.items l.fn.steps l.steps;
  kept : AreKept l.faces l.lines.kept;
  placed : StayPlaced (l.part.note + 1) l.body l.fn.lines l.lines;
  keeps : KeepsHeld l.fn.lines.kept l.lines.kept;
  takes : TakesSteps l.fn.lines.kept l.lines.kept l.fn.steps l.steps;
  now : (notes : List Note) (note : Note) → slice_get notes l.part.note ≡ Some note → note.body ≡ l.body → AreHeldNow notes l.fn.frame.width l.fn.lines.kept l.fn.self.solids.items → AreHeldNow notes l.fn.frame.width l.lines.kept l.self.solids.items;
}

abbrev pub decreases-solids : goal.decreases-solids
decreases-solids g l = left_from l.body l.at
