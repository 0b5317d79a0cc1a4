use Rattle.std.proofs.Common.{◌≡◌, ◌++◌, map, drop}
use Rattle.cascade.specs.Selected.{selected_in, selected_by}
use Rattle.cascade.proofs.selected.push_selected.Given as goal

abbrev pub invariant-loop-selector : goal.invariant-loop-selector
invariant-loop-selector l = map selected_in l.all.items ++ map (selected_by l.place l.origin l.decls) (drop l.selector-index l.selectors) ≡ map selected_in l.fn.all.items ++ map (selected_by l.place l.origin l.decls) l.selectors
