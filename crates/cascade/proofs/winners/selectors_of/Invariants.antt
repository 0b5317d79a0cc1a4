use Rattle.std.proofs.Common.{◌≡◌, ◌++◌, map, drop}
use Rattle.cascade.specs.Selected.{selected_in, selectors_of}
use Rattle.cascade.proofs.winners.selectors_of.Given as goal

abbrev pub invariant-loop-one : goal.invariant-loop-one
invariant-loop-one l = map (λ s. s.now) l.selectors.items ++ selectors_of (map selected_in (drop l.one-index l.selected)) ≡ selectors_of (map selected_in l.selected)
