use Rattle.std.proofs.Common.{map}
use Rattle.match_table.specs.Groups.{AreGrouped}
use Rattle.match_table.proofs.groups.groups_of.Given as goal

abbrev pub invariant-loop-place : goal.invariant-loop-place
invariant-loop-place l = AreGrouped (map (λ s. s.now) l.selectors) l.place (map (λ s. s.now) l.groups.firsts.items) l.groups.places.items
