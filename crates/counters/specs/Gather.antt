-- What is gathered in one walk: the steps into nodes and out of them, and events by their counters' names.
use Rattle.std.specs.Prelude.{◌≡◌, ℕ, Bool, false, if◌then◌else◌, ◌&&◌, ◌==◌, ◌+◌, ◌-◌, ◌*◌, List, [], ◌∷◌, Option, None, Some, fold, length, slice_get, pos}
use Rattle.std.specs.Option.{option_or}
use Rattle.std.specs.Ordering.{int_eq}
use Rattle.dom.specs.declared.walk.Step.{Step}
use Rattle.dom.specs.declared.walk.Step.TheVariants.{Enter, Leave}
use Rattle.named_lists.specs.Lists.{ListsOf, items_of, with_item}
use Rattle.counters.specs.declared.scopes.Act.{Act}
use Rattle.counters.specs.declared.scopes.Act.TheVariants as act
use Rattle.counters.specs.declared.scopes.CounterEvent.{CounterEvent}
use Rattle.counters.specs.declared.at.Spot.{Spot}
use Rattle.std.specs.List.Sorted.{IsNonDecreasingBy}
use Rattle.counters.specs.declared.scopes.ScopeMark.{ScopeMark}
use Rattle.counters.specs.Chains.{AreMarks, AreMarked}
use Rattle.counters.specs.Document.{into, out_of}

-- the spot of a node, which has no steps where the list ends
abbrev pub spot_at : Option Spot → Spot
spot_at None = record { into = None; out = None }
spot_at (Some s) = s

-- the first steps into each node and out of it
abbrev pub AreSpots : List Step → List Spot → Type 0
AreSpots steps spots = (n : ℕ) → spot_at (slice_get spots n) ≡ record { into = into steps n; out = out_of steps n }

-- a spot with a step more
abbrev pub stepped : ℕ → Step → Spot → Spot
stepped i (Enter n) s = record { into = option_or s.into (Some i); out = s.out }
stepped i (Leave n) s = record { into = s.into; out = option_or s.out (Some i) }

-- the number after the last place within a node that is left by this step
abbrev pub end_after : ℕ → Option ℕ → ℕ
end_after count None = 4 * count
end_after count (Some i) = 4 * i + 1

-- where scopes end that begin at a child of a node, by the spots and how many steps there are
abbrev pub end_below : ℕ → List Spot → Option ℕ → ℕ
end_below count spots None = 4 * count
end_below count spots (Some p) = end_after count (spot_at (slice_get spots p)).out

-- whether an event stands at a place
abbrev pub is_at : ℕ → Option CounterEvent → Bool
is_at k None = false
is_at k (Some e) = e.at == k

-- a use: 0 is added
abbrev pub is_use : Act → Bool
is_use (act.Reset n) = false
is_use (act.Add n) = int_eq n (pos 0)

-- a use adds nothing where the last event of its counter stands at the same place: a scope holds there
abbrev pub adds_nothing : List CounterEvent → CounterEvent → Bool
adds_nothing events e = is_at e.at (slice_get events (length events - 1)) && is_use e.act

-- one event more under its counter's name, unless it adds nothing
abbrev pub with_change : ListsOf CounterEvent → List ℕ × CounterEvent → ListsOf CounterEvent
with_change l p = if adds_nothing (items_of l p.0) p.1 then l else with_item l p

-- events one after the other
abbrev pub with_changes : ListsOf CounterEvent → List (List ℕ × CounterEvent) → ListsOf CounterEvent
with_changes l pairs = fold with_change l pairs

-- whether the last event before stands at a place
abbrev pub is_same : Option ℕ → ℕ → Bool
is_same None k = false
is_same (Some j) k = j == k

-- events without uses that add nothing, where the last one before them stands at a place
abbrev pub needed : Option ℕ → List CounterEvent → List CounterEvent
needed at [] = []
needed at (e ∷ more) = if is_same at e.at && is_use e.act then needed at more else e ∷ needed (Some e.at) more

-- each list is in document order
abbrev pub AreInOrder : List (List CounterEvent) → Type 0
AreInOrder lists = (i : ℕ) (l : List CounterEvent) → slice_get lists i ≡ Some l → IsNonDecreasingBy (λ e. e.at) l

-- the marks of one list
pub record IsMarksOf (events : List CounterEvent) (kept : List ScopeMark) : Type 0 where
  pub are : AreMarks kept
  pub marked : AreMarked events kept

-- the marks of each list
pub record AreMarksOf (lists : List (List CounterEvent)) (all : List (List ScopeMark)) : Type 0 where
  pub len : length all ≡ length lists
  pub each :
      (i : ℕ) (m : List ScopeMark) → slice_get all i ≡ Some m →
      (l : List CounterEvent) × (slice_get lists i ≡ Some l) × IsMarksOf l m
