use Rattle.std.proofs.Common.{◌≡◌, drop, length, map}
use Rattle.std.specs.String.{string_bytes}
use Rattle.named_lists.specs.Lists.{no_lists}
use Rattle.counters.specs.Gather.{with_changes}
use Rattle.counters.specs.Log.{events_in, of_asked}
use Rattle.counters.proofs.number.asked_events.Given as goal

abbrev pub invariant-loop-row : goal.invariant-loop-row
invariant-loop-row l = (with_changes l.events (of_asked (map (λ k. string_bytes k) l.asked.keys) (events_in (drop l.row-index l.rows))) ≡ with_changes no_lists (of_asked (map (λ k. string_bytes k) l.asked.keys) (events_in l.rows))) × (length l.events.names ≡ length l.events.lists)
