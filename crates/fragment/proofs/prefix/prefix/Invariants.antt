use Rattle.std.proofs.Common.{◌≡◌, ◌≤◌, [], Some, List, length}
use Rattle.cursor.specs.Asks.{KeepsHeld, TakesSteps}
use Rattle.cursor.specs.Remainder.{IsSolid, SolidView}
use Rattle.cursor.proofs.RemLemmas.{left_from}
use Rattle.seams.specs.Widths.{widths_at}
use Rattle.cuts.specs.Prefixes.{AreFree, HasRead, IsStacked}
use Rattle.cuts.specs.Short.{IsShort}
use Rattle.note_list.specs.Kept.{AreFlowLines, AreHeldNow}
use Rattle.note_list.specs.Short.{IsShortList}
use Rattle.note_list.specs.declared.carried.Carried.{Carried}
use Rattle.page_list.specs.Cuts.{rows_of}
use Rattle.page_list.specs.Looked.{most_widows}
use Rattle.fragment.specs.Ahead.{IsPageAhead, end_of, page_of, page_views}
use Rattle.fragment.specs.Reads.{AreRead, AreReadInside, StepsForPage, called_by}
use Rattle.fragment.proofs.FlowLemmas.{LooksOn}
use Rattle.fragment.proofs.prefix.prefix.Given as goal

abbrev pub invariant-loop-ended : goal.invariant-loop-ended
invariant-loop-ended g l = record {
  ahead : IsPageAhead l.faces l.flow.main l.fn.frame.width l.lines.kept l.fn.from.at l.ahead;
  within : l.count ≤ length (page_of l.ahead);
  widths : l.widths.flow ≡ widths_at l.flow.main l.fn.frame.width (end_of l.fn.from.at (page_of l.ahead) (length (page_of l.ahead)));
  own : l.notes.list.own ≡ l.initial.notes.list.own;
  are : (carried : List Carried) → AreRead l.faces l.flow l.fn.frame l.fn.from.at carried [] l.initial.notes → AreReadInside l.faces l.flow l.fn.frame l.fn.from carried (page_views l.ahead l.count) l.notes;
  calls : (s : SolidView) → IsSolid l.faces l.flow.main l.fn.frame.width (end_of l.fn.from.at (page_of l.ahead) l.count) s → l.notes.called ≤ called_by l.flow.main l.flow.notes s.end;
  look : LooksOn l.fn.from.kept l.fn.frame.height l.initial.notes.list.own l.notes.areas.items l.room.carried l.flow.main (page_views l.ahead l.count) l.look;
  stacked : IsStacked l.fn.from.kept l.fn.frame.height (rows_of l.flow.main (page_views l.ahead l.count)) l.look;
  short : IsShort l.fn.from.kept l.fn.frame.height (most_widows l.flow.main) (rows_of l.flow.main (page_views l.ahead l.count)) l.look;
  more : ¬ (l.look.left ≡ Some 0);
  listed : IsShortList l.fn.frame.height l.initial.notes.list → IsShortList l.fn.frame.height l.notes.list;
  lines : StepsForPage l.flow l.fn.frame.width l.fn.lines.kept (page_views l.ahead l.count) l.initial.notes.list.solids.items l.notes.list.solids.items l.fn.steps l.steps;
  free : AreFree (rows_of l.flow.main (page_views l.ahead l.count));
  read : HasRead l.count l.look;
  kept : AreFlowLines l.faces l.flow l.lines;
  keeps : KeepsHeld l.fn.lines.kept l.lines.kept;
  takes : TakesSteps l.fn.lines.kept l.lines.kept l.fn.steps l.steps;
  noted : AreHeldNow l.flow.notes l.fn.frame.width l.fn.lines.kept l.initial.notes.list.solids.items → AreHeldNow l.flow.notes l.fn.frame.width l.lines.kept l.notes.list.solids.items;
}

abbrev pub decreases-loop-ended : goal.decreases-loop-ended
decreases-loop-ended g l = left_from l.flow.main (end_of l.fn.from.at (page_of l.ahead) l.count)
