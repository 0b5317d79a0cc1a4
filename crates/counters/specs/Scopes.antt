-- Scopes and values of one counter (CSS 2.1, 12.4 and 12.4.1), by what is done to it, in document order.
use Rattle.std.specs.Prelude.{ℕ, ◌<◌, ◌≤◌, nat_lt, nat_le, not, ◌==◌, if◌then◌else◌, List, [], ◌∷◌, ◌++◌, fold, filter, map, reverse, length, ℤ, pos, ◌+ℤ◌}
use Rattle.counters.specs.declared.scopes.Act.{Act}
use Rattle.counters.specs.declared.scopes.Act.TheVariants as act
use Rattle.counters.specs.declared.scopes.CounterEvent.{CounterEvent}

-- a scope: its place among all scopes of the counter; where it ends, which is after its parent's last place, and so
-- after the following siblings with all that is in them; and the number that its reset gives
pub record Scope : Type 0 where
  pub id : ℕ
  pub end : ℕ
  pub number : ℤ

-- the scopes, latest first, less those of which a later reset takes the rest: one on a following sibling or on the
-- element itself. The scopes of one parent's children end at one place
abbrev pub live : List Scope → List Scope
live [] = []
live (s ∷ older) = s ∷ filter (λ t. not (t.end == s.end)) (live older)

-- those in which a place stands that comes at or after all of them
abbrev pub holding : ℕ → List Scope → List Scope
holding k scopes = filter (λ s. nat_lt k s.end) (live scopes)

-- a scope of the next number
abbrev pub new_scope : List Scope → ℕ → ℤ → Scope
new_scope scopes end number = record { id = length scopes; end = end; number = number }

-- an increment or a use outside every scope first resets the counter to 0
abbrev pub implied : List Scope → ℕ → List Scope → List Scope
implied scopes end [] = new_scope scopes end (pos 0) ∷ scopes
implied scopes end (s ∷ more) = scopes

-- the scopes with the one that an event begins
abbrev pub opened_by : List Scope → ℕ → ℕ → Act → List Scope
opened_by scopes at end (act.Reset n) = new_scope scopes end n ∷ scopes
opened_by scopes at end (act.Add n) = implied scopes end (holding at scopes)

-- the scopes after an event
abbrev pub opened : List Scope → CounterEvent → List Scope
opened scopes e = opened_by scopes e.at e.end e.act

-- an increment belongs to the last of the scopes in which its place stands
abbrev pub share : List Scope → Act → List (ℕ × ℤ)
share [] a = []
share (s ∷ more) (act.Reset n) = []
share (s ∷ more) (act.Add n) = (s.id, n) ∷ []

-- all scopes up to an event, and all increments with the scopes that they belong to, latest first
pub record History : Type 0 where
  pub scopes : List Scope
  pub increments : List (ℕ × ℤ)

-- no scopes and no increments
abbrev pub nothing_yet : History
nothing_yet = record { scopes = []; increments = [] }

-- the history after one more event
abbrev pub with_event : History → CounterEvent → History
with_event h e = record {
  scopes = opened h.scopes e;
  increments = share (holding e.at (opened h.scopes e)) e.act ++ h.increments;
}

-- the history of events from the first on
abbrev pub history_of : List CounterEvent → History
history_of events = fold with_event nothing_yet events

-- the increments that belong to a scope
abbrev pub total : ℕ → List (ℕ × ℤ) → ℤ
total id [] = pos 0
total id (i ∷ more) = total id more +ℤ (if i.0 == id then i.1 else pos 0)

-- a scope's value: its reset's number and the increments that belong to it
abbrev pub value_of : List (ℕ × ℤ) → Scope → ℤ
value_of increments s = s.number +ℤ total s.id increments

-- 0 alone where no scope holds a place
abbrev pub or_zero : List ℤ → List ℤ
or_zero [] = pos 0 ∷ []
or_zero (v ∷ more) = v ∷ more

-- the values at a place by a history, outermost first
abbrev pub values_in : ℕ → History → List ℤ
values_in k h = or_zero (reverse (map (value_of h.increments) (holding k h.scopes)))

-- the values at a place of the scopes in which it stands, the outermost first, by the events up to it; 0 where it
-- stands in none
abbrev pub values_by : List CounterEvent → ℕ → List ℤ
values_by events k = values_in k (history_of (filter (λ e. nat_le e.at k) events))

-- ---- what the events of a document are like

-- P holds of each
abbrev pub Each : {A : Type 0} → (A → Type 0) → List A → Type 0
Each P [] = Unit {0}
Each P (x ∷ xs) = P x × Each P xs

-- a later place comes after, and where it stands among an earlier one's following siblings or in them, its own
-- following siblings do
abbrev pub IsAfter : CounterEvent → CounterEvent → Type 0
IsAfter d e = (d.at ≤ e.at) × (e.at < d.end → e.end ≤ d.end)

-- events in document order
abbrev pub AreNested : List CounterEvent → Type 0
AreNested [] = Unit {0}
AreNested (e ∷ more) = (e.at < e.end) × Each (IsAfter e) more × AreNested more
