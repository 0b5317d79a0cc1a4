use Rattle.std.proofs.Common.{◌≡◌, ◌≤◌, max}
use Rattle.cursor.specs.Asks.{KeepsHeld, TakesSteps}
use Rattle.note_list.specs.Kept.{AreFlowLines, AreHeldNow}
use Rattle.note_list.specs.Known.{StepsForNotes}
use Rattle.note_list.specs.Lists.{called_parts}
use Rattle.note_list.specs.Reads.{EndInNotes, IsReady}
use Rattle.note_list.specs.Short.{IsShortList}
use Rattle.note_list.proofs.BodyLemmas.{Calls}
use Rattle.note_list.proofs.list.NoteList.call.Given as goal

abbrev pub invariant-loop-note : goal.invariant-loop-note
invariant-loop-note g l = record {
  ready : IsReady l.self;
  ends : EndInNotes l.flow.notes l.self;
  own : l.self.own ≡ l.fn.self.own;
  low : l.fn.from ≤ l.note;
  high : l.note ≤ max l.fn.from l.fn.to;
  calls : Calls l.faces l.flow.notes l.fn.frame.width l.fn.frame.height (called_parts l.fn.from l.note) l.fn.self l.self;
  short : IsShortList l.fn.frame.height l.fn.self → IsShortList l.fn.frame.height l.self;
  lines : StepsForNotes l.flow.notes l.fn.frame.width l.fn.lines.kept l.fn.self.solids.items l.self.solids.items l.fn.steps l.steps;
  kept : AreFlowLines l.faces l.flow l.lines;
  keeps : KeepsHeld l.fn.lines.kept l.lines.kept;
  takes : TakesSteps l.fn.lines.kept l.lines.kept l.fn.steps l.steps;
  now : AreHeldNow l.flow.notes l.fn.frame.width l.fn.lines.kept l.fn.self.solids.items → AreHeldNow l.flow.notes l.fn.frame.width l.lines.kept l.self.solids.items;
}
