use Rattle.std.proofs.Common.{◌≤◌, ◌<◌, ◌+◌, ◌-◌, ℕ, List, Bool}
use Rattle.boxes.specs.declared.flow.Flow.{Flow}
use Rattle.boxes.specs.declared.page.Page.{Page}
use Rattle.line_fill.specs.Kept.{AreKept, Asked}
use Rattle.note_list.specs.Known.{AreKnown}
use Rattle.passes.specs.Looked.{ArePlacedLines, LookIn}
use Rattle.passes.specs.Passes.{IsOpenAfter}
use Rattle.passes.specs.Settles.{work_of}
use Rattle.passes.proofs.settle.settle_for.Given as goal

abbrev pub invariant-passes : goal.invariant-passes
invariant-passes g l = ((0 < l.passes) × (l.passes ≤ l.limit) × IsOpenAfter (work_of l.input (g.Fr.Frames.view l.frames) (g.Fr.Frames.per l.frames) l.targets) (l.passes - 1) l.table)
    × AreKept l.input.faces.now l.lines.kept
    × ((placed : Flow → List Page → Asked → Bool) → ArePlacedLines placed → (before : Asked → Bool) × (lines : ℕ) ×
    LookIn (work_of l.input (g.Fr.Frames.view l.frames) (g.Fr.Frames.per l.frames) l.targets) placed (l.passes - 1) l.table before lines ×
    AreKnown before l.lines.kept × (l.steps ≤ l.fn.steps + lines))

abbrev pub decreases-passes : goal.decreases-passes
decreases-passes g l = l.limit - l.passes
