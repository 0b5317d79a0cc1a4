-- The values of counters at the places of a document, as they are kept.
use Rattle.std.specs.Prelude.{◌≡◌, ℕ, ◌<◌, ◌^◌, true, List, [], ◌∷◌, Option, None, Some, map, slice_get, ℤ, pos}
use Rattle.std.specs.Str.{bytes_eq}
use Rattle.std.specs.List.{position}
use Rattle.std.specs.String.{string_bytes}
use Rattle.bk_num.specs.Names.{has_name}
use Rattle.bk_num.specs.declared.values.Pseudo.{Pseudo}
use Rattle.named_lists.specs.Lists.{of_name}
use Rattle.counters.specs.declared.scopes.ScopeMark.{ScopeMark}
use Rattle.counters.specs.declared.scopes.CounterEvent.{CounterEvent}
use Rattle.counters.specs.declared.at.Spot.{Spot}
use Rattle.counters.specs.declared.at.CounterAt.TheInside.{Inside}
use Rattle.counters.specs.Chains.{kept_values, AreMarks}
use Rattle.counters.specs.Scopes.{AreNested}
use Rattle.counters.specs.Document.{place_number, values_up_to}
use Rattle.counters.specs.Log.{events_in}

-- what is kept: what the document does to its counters, in its order, and the steps into each node and out of it
pub record Kept : Type 0 where
  pub events : List (List ℕ × CounterEvent)
  pub spots : List Spot

-- the number of an element's or a pseudo-element's place, if it has one
abbrev pub place_in : Option Spot → Pseudo → Option ℕ
place_in None p = None
place_in (Some s) p = place_number s.into s.out p

-- the values of a counter at an element or a pseudo-element, the outermost scope first
abbrev pub counter_values : Kept → ℕ → Pseudo → List ℕ → List ℤ
counter_values c node p name = values_up_to (of_name c.events name) (place_in (slice_get c.spots node) p)

-- what is kept, as values
abbrev pub kept_in : Inside → Kept
kept_in a = record { events = events_in a.rows.items; spots = a.spots.items }

-- a number that is small, if it is there
abbrev pub IsSmall : Option ℕ → Type 0
IsSmall None = Unit {0}
IsSmall (Some i) = i < 2 ^ 28

-- the numbers of all nodes are small
abbrev pub AreSmall : List Spot → Type 0
AreSmall spots = (n : ℕ) (s : Spot) → slice_get spots n ≡ Some s → IsSmall s.into × IsSmall s.out

-- the events of each counter are in document order
abbrev pub AreAllNested : List (List ℕ × CounterEvent) → Type 0
AreAllNested events = (name : List ℕ) → AreNested (of_name events name)

-- ---- the marks of the counters that are asked for

-- the values at a place by marks; 0 alone where there are none
abbrev pub values_of_marks : Option (List ScopeMark) → ℕ → List ℤ
values_of_marks None k = pos 0 ∷ []
values_of_marks (Some marks) k = kept_values marks k

-- the marks of the counter of a number
abbrev pub marks_by : List (List ScopeMark) → Option ℕ → Option (List ScopeMark)
marks_by lists None = None
marks_by lists (Some i) = slice_get lists i

-- the marks of the counter of a name
abbrev pub marks_named : List (List ℕ) → List (List ScopeMark) → List ℕ → Option (List ScopeMark)
marks_named names lists name = marks_by lists (position (bytes_eq name) names)

-- the marks of all counters
abbrev pub AreAllMarks : List (List ScopeMark) → Type 0
AreAllMarks lists = (i : ℕ) (marks : List ScopeMark) → slice_get lists i ≡ Some marks → AreMarks marks

-- the marks of each counter that is asked for keep its values at every place
abbrev pub KeepAsked :
    List (List ℕ) → List (List ℕ) → List (List ScopeMark) → List (List ℕ × CounterEvent) → Type 0
KeepAsked asked names lists events =
    (name : List ℕ) (k : ℕ) → has_name asked name ≡ true →
    values_of_marks (marks_named names lists name) k ≡ values_up_to (of_name events name) (Some k)

-- what holds of the fields
pub record IsSound (a : Inside) : Type 0 where
  pub marks : AreAllMarks a.lists.items
  pub spots : AreSmall a.spots.items
  pub nested : AreAllNested (events_in a.rows.items)
  pub asked : KeepAsked (map (λ k. string_bytes k) a.asked.keys) (map (λ k. string_bytes k) a.names.keys)
      a.lists.items (events_in a.rows.items)
