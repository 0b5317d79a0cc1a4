-- What a document does to its counters, as it is kept: place by place, in document order.
use Rattle.std.specs.Prelude.{ℕ, List, filter, map}
use Rattle.std.specs.Borrow.{Bor}
use Rattle.std.specs.List.{flat_map}
use Rattle.bk_num.specs.Names.{has_name}
use Rattle.counters.specs.declared.scopes.Act.{Act}
use Rattle.counters.specs.declared.scopes.CounterEvent.{CounterEvent}
use Rattle.counters.specs.declared.log.EventPlace.{EventPlace}
use Rattle.counters.specs.declared.log.LogRow.{LogRow}
use Rattle.counters.specs.Document.{named, not_page}

-- the events of what a place does
abbrev pub placed : EventPlace → List (List ℕ × Act) → List (List ℕ × CounterEvent)
placed p changes = named p.at p.end (not_page changes)

-- changes, of borrowed names
abbrev pub changes_in : List (Bor (List ℕ) × Act) → List (List ℕ × Act)
changes_in l = map (λ c. (c.0.now, c.1)) l

-- the events of a row: what is done at its place
abbrev pub events_at : LogRow → List (List ℕ × CounterEvent)
events_at r = named r.at r.end r.changes.value

-- the events of rows, one row after the other
abbrev pub events_in : List LogRow → List (List ℕ × CounterEvent)
events_in rows = flat_map events_at rows

-- the events of the counters that are asked for
abbrev pub of_asked : List (List ℕ) → List (List ℕ × CounterEvent) → List (List ℕ × CounterEvent)
of_asked asked events = filter (λ e. has_name asked e.0) events
