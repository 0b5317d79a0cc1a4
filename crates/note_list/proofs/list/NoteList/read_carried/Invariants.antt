use Rattle.std.proofs.Common.{take}
use Rattle.cursor.specs.Asks.{KeepsHeld, TakesSteps}
use Rattle.note_list.specs.Kept.{AreFlowLines, AreHeldNow}
use Rattle.note_list.specs.Known.{StepsForNotes}
use Rattle.note_list.specs.Lists.{carried_parts}
use Rattle.note_list.specs.Reads.{EndInNotes, IsReady}
use Rattle.note_list.specs.Short.{IsShortList}
use Rattle.note_list.proofs.BodyLemmas.{Calls}
use Rattle.note_list.proofs.list.NoteList.read_carried.Given as goal

abbrev pub invariant-loop-at : goal.invariant-loop-at
invariant-loop-at g l = record {
  ready : IsReady l.self;
  ends : EndInNotes l.flow.notes l.self;
  calls : Calls l.faces l.flow.notes l.fn.frame.width l.fn.frame.height (carried_parts (take l.at l.carried)) l.fn.self l.self;
  short : IsShortList l.fn.frame.height l.fn.self → IsShortList l.fn.frame.height l.self;
  lines : StepsForNotes l.flow.notes l.fn.frame.width l.fn.lines.kept l.fn.self.solids.items l.self.solids.items l.fn.steps l.steps;
  kept : AreFlowLines l.faces l.flow l.lines;
  keeps : KeepsHeld l.fn.lines.kept l.lines.kept;
  takes : TakesSteps l.fn.lines.kept l.lines.kept l.fn.steps l.steps;
  now : AreHeldNow l.flow.notes l.fn.frame.width l.fn.lines.kept l.fn.self.solids.items → AreHeldNow l.flow.notes l.fn.frame.width l.lines.kept l.self.solids.items;
}
