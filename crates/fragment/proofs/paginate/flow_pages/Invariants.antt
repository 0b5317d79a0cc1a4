use Rattle.std.proofs.Common.{◌≡◌, ◌+◌, ◌≤◌, All, length}
use Rattle.boxes.specs.Tree.{Holds}
use Rattle.bk_num.specs.declared.ids.NameId.{NameId}
use Rattle.cursor.specs.Asks.{KeepsHeld, TakesSteps}
use Rattle.note_list.specs.Kept.{AreFlowLines}
use Rattle.fragment.specs.Ahead.{IsAhead}
use Rattle.fragment.specs.Kept.{ArePagesHeld}
use Rattle.note_list.specs.Conditions.{AreCarried, IsAtSolid}
use Rattle.page_list.specs.Pages.{HaveNearTops}
use Rattle.fragment.specs.Runs.{Leads}
use Rattle.fragment.proofs.PagesLookLemmas.{HasLookedTo}
use Rattle.fragment.proofs.RunLemmas.{state_at}
use Rattle.fragment.proofs.paginate.flow_pages.Given as goal

abbrev pub invariant-loop-turn : goal.invariant-loop-turn
invariant-loop-turn g l = record {
  holds : Holds l.flow.main l.from.at;
  count : length l.pages.items + 1 ≡ l.index;
  turns : l.turn ≤ length l.pages.items;
  few : length l.pages.items ≤ 100000;
  carries : AreCarried l.flow l.from.at l.carried;
  stands : All (IsAtSolid l.flow.notes) l.carried;
  run : (name : NameId) × Leads l.faces l.flow (g.Fr.Frames.view l.frames) (state_at l.from.at l.from.kept l.index l.demand l.carried name) l.pages.items × HasLookedTo l.faces l.flow (g.Fr.Frames.view l.frames) l.fn.lines.kept l.fn.steps l.steps (state_at l.from.at l.from.kept l.index l.demand l.carried name) l.pages.items;
  near : HaveNearTops l.pages.items;
  kept : AreFlowLines l.faces l.flow l.lines;
  keeps : KeepsHeld l.fn.lines.kept l.lines.kept;
  takes : TakesSteps l.fn.lines.kept l.lines.kept l.fn.steps l.steps;
  ahead : IsAhead l.faces l.flow.main l.lines.kept l.ahead;
  held : ArePagesHeld l.flow l.lines.kept l.pages.items;
}
