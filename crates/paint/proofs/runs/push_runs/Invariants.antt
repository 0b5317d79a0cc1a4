use Rattle.std.proofs.Common.{◌≡◌, ◌++◌, map, drop}
use Rattle.std.specs.List.{All}
use Rattle.paint.specs.Items.{run_item}
use Rattle.paint.specs.Views.{HasItemFace, items_in}
use Rattle.paint.proofs.runs.push_runs.Given as goal

abbrev pub invariant-loop-run : goal.invariant-loop-run
invariant-loop-run l = record {
  items : items_in l.canvas.faces.now l.out.items ++ map (run_item l.canvas.faces.now l.leaf l.left l.baseline) (drop l.run-index l.runs) ≡ items_in l.canvas.faces.now l.initial.out.items ++ map (run_item l.canvas.faces.now l.leaf l.left l.baseline) l.runs;
  faces : All (HasItemFace l.canvas.faces.now) l.out.items;
}
