use Rattle.std.proofs.Common.{◌≡◌, ◌++◌, map, drop}
use Rattle.cascade.specs.Selected.{ruled_in, selected_in, selected_from}
use Rattle.cascade.proofs.selected.selected_of.Given as goal

abbrev pub invariant-loop-place : goal.invariant-loop-place
invariant-loop-place l = map selected_in l.selected.items ++ selected_from l.place (map ruled_in (drop l.place l.rules)) ≡ selected_from 0 (map ruled_in l.rules)
