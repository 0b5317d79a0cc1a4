use Rattle.std.proofs.Common.{◌≡◌, ◌++◌, drop}
use Rattle.cascade.specs.Sharing.{places_in}
use Rattle.cascade.proofs.winners.places_in.Given as goal

abbrev pub invariant-loop-group : goal.invariant-loop-group
invariant-loop-group l = l.places.items ++ places_in l.matched.groups (drop l.group-index l.groups) ≡ places_in l.matched.groups l.groups
