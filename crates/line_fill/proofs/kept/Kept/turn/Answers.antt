use Rattle.std.proofs.Common.{nat_eq}
use Rattle.std.specs.HashMap.{get}
use Rattle.line_fill.proofs.TurnLemmas.{sound_turn, has_turned, kept_turn, places_turn}
use Rattle.line_fill.proofs.kept.Kept.turn.Goals as goal

pub invariant_of-self : goal.invariant_of-self
invariant_of-self c = sound_turn c.self.inside.leaves.items c.turn_leaves.new.leaves.items c.turn_leaves.ensures (λ q. get nat_eq c.self.inside.lasts q) c.self.invariant

pub returns-clause-turned : goal.returns-clause-turned
returns-clause-turned c = rw (← c.self.view_is) (has_turned c.self.inside.leaves.items c.turn_leaves.new.leaves.items c.turn_leaves.ensures)

pub returns-clause-kept : goal.returns-clause-kept
returns-clause-kept c = rw (← c.self.view_is) (λ faces k. kept_turn c.self.inside.leaves.items c.turn_leaves.new.leaves.items c.turn_leaves.ensures faces k)

pub returns-clause-places : goal.returns-clause-places
returns-clause-places c = rw (← c.self.view_is) (places_turn c.self.inside.leaves.items c.turn_leaves.new.leaves.items c.turn_leaves.ensures)
