use Rattle.std.proofs.Common.{map}
use Rattle.match_table.specs.All.{MatchesAt}
use Rattle.cascade.specs.Selected.{selected_in, selectors_of}
use Rattle.cascade.proofs.PlaceLemmas.{ArePassed}
use Rattle.cascade.proofs.winners.places_at.Given as goal

abbrev pub invariant-loop-place : goal.invariant-loop-place
invariant-loop-place l = ArePassed (λ k. MatchesAt l.dom (selectors_of (map selected_in l.selected)) k l.node.0) l.place l.places.items
