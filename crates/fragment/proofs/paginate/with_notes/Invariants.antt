use Rattle.std.proofs.Common.{◌≡◌, ◌+◌, ◌≤◌, true, None, All, length}
use Rattle.cursor.specs.Asks.{KeepsHeld, TakesSteps}
use Rattle.note_list.specs.Kept.{AreFlowLines}
use Rattle.fragment.specs.Kept.{ArePagesHeld}
use Rattle.note_list.specs.Conditions.{AreCarried, IsAtSolid}
use Rattle.page_list.specs.Cuts.{place_after}
use Rattle.page_list.specs.Pages.{HaveNearTops, State}
use Rattle.fragment.specs.Runs.{Leads}
use Rattle.fragment.proofs.PagesLookLemmas.{LooksPast}
use Rattle.fragment.proofs.paginate.with_notes.Given as goal

abbrev pub invariant-loop-turn : goal.invariant-loop-turn
invariant-loop-turn g l = record {
  turns : l.turn ≤ length l.pages.items;
  few : length l.pages.items ≤ 100000;
  carries : AreCarried l.flow (place_after l.flow.main None) l.carried;
  stands : All (IsAtSolid l.flow.notes) l.carried;
  run : (s : State) × Leads l.faces l.flow (g.Fr.Frames.view l.frames) s l.pages.items × (s.done ≡ true) × (length l.pages.items + 1 ≡ s.index) × (s.name ≡ l.name) × (s.carried ≡ l.carried);
  looks : LooksPast l.faces l.flow (g.Fr.Frames.view l.frames) l.fn.lines.kept l.fn.made l.fn.steps l.steps (record { pages = l.pages; name = l.name; carried = l.carried });
  near : HaveNearTops l.pages.items;
  kept : AreFlowLines l.faces l.flow l.lines;
  keeps : KeepsHeld l.fn.lines.kept l.lines.kept;
  takes : TakesSteps l.fn.lines.kept l.lines.kept l.fn.steps l.steps;
  held : ArePagesHeld l.flow l.lines.kept l.pages.items;
}
