use Rattle.std.proofs.Common.{◌≡◌, ◌++◌, map, drop}
use Rattle.std.specs.List.{filter_map}
use Rattle.cascade.specs.Candidates.{applied_in}
use Rattle.cascade.specs.Selected.{selected_in, named_at}
use Rattle.cascade.proofs.selected.named.Given as goal

abbrev pub invariant-loop-place : goal.invariant-loop-place
invariant-loop-place l = map applied_in l.rules.items ++ filter_map (named_at (map selected_in l.selected) l.wanted) (drop l.place-index l.places) ≡ filter_map (named_at (map selected_in l.selected) l.wanted) l.places
