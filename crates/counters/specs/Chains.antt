-- What is kept of a counter: a mark for each event, with the way to the scopes outside.
use Rattle.std.specs.Prelude.{◌≡◌, ℕ, zero, suc, ◌<◌, nat_le, if◌then◌else◌, List, [], ◌∷◌, Option, None, Some, map, reverse, length, slice_get, filter, take, fold, ◌+◌, ◌^◌, ℤ, pos, ◌+ℤ◌, FitsSigned}
use Rattle.std.specs.Int.{w64}
use Rattle.std.specs.List.Sorted.{IsNonDecreasingBy}
use Rattle.bk_num.specs.Numbers.{last_of}
use Rattle.counters.specs.Scopes.{or_zero, AreNested, values_by}
use Rattle.counters.specs.declared.scopes.ScopeMark.{ScopeMark}
use Rattle.counters.specs.declared.scopes.CounterEvent.{CounterEvent}
use Rattle.counters.specs.declared.scopes.Act.{Act}
use Rattle.counters.specs.declared.scopes.Act.TheVariants as act

-- a mark and those outwards from it
abbrev pub link : (Option ℕ → List ScopeMark) → Option ScopeMark → List ScopeMark
link more None = []
link more (Some m) = m ∷ more m.outer

-- a mark and those of the scopes outside, the innermost first; the first argument bounds how many
unfoldable pub chain : ℕ → List ScopeMark → Option ℕ → List ScopeMark
chain zero marks o = []
chain (suc most) marks None = []
chain (suc most) marks (Some i) = link (chain most marks) (slice_get marks i)

-- the marks without those at the front whose scopes have ended
abbrev pub beyond : ℕ → List ScopeMark → List ScopeMark
beyond k [] = []
beyond k (m ∷ more) = if nat_le m.end k then beyond k more else m ∷ more

-- the mark at the front
abbrev pub front : List ScopeMark → Option ScopeMark
front [] = None
front (m ∷ more) = Some m

-- the mark that counts at a place: the last one up to it
abbrev pub seen_to : ℕ → List ScopeMark → ℕ
seen_to k marks = length (filter (λ m. nat_le m.at k) marks)

-- the last mark up to a place
abbrev pub mark_at : ℕ → List ScopeMark → Option ℕ
mark_at k marks = last_of (seen_to k marks)

-- the values at a place by marks, outermost first; 0 alone where no scope holds it
abbrev pub kept_values : List ScopeMark → ℕ → List ℤ
kept_values marks k = or_zero (reverse (map (λ m. m.value) (beyond k (chain (length marks) marks (mark_at k marks)))))

-- ---- what the marks keep: for each event the scopes that hold after it, the innermost first, each as its end with its
-- value

-- where a mark's scope ends, and its value
abbrev pub pair : ScopeMark → ℕ × ℤ
pair m = (m.end, m.value)

-- those that reach past a place: ends grow outwards
abbrev pub past : ℕ → List (ℕ × ℤ) → List (ℕ × ℤ)
past k [] = []
past k (p ∷ more) = if nat_le p.0 k then past k more else p ∷ more

-- the innermost value grows; where no scope holds the place, one begins (CSS 2.1, 12.4.1)
abbrev pub with_added : ℕ → ℤ → List (ℕ × ℤ) → List (ℕ × ℤ)
with_added end n [] = (end, n) ∷ []
with_added end n (p ∷ more) = (p.0, p.1 +ℤ n) ∷ more

-- the scopes that hold a place after an act there, innermost first
abbrev pub after_act : ℕ → ℕ → List (ℕ × ℤ) → Act → List (ℕ × ℤ)
after_act at end held (act.Reset n) = (end, n) ∷ past end held
after_act at end held (act.Add n) = with_added end n (past at held)

-- the same after an event
abbrev pub after_event : List (ℕ × ℤ) → CounterEvent → List (ℕ × ℤ)
after_event held e = after_act e.at e.end held e.act

-- the value of the innermost scope
abbrev pub innermost_of : List (ℕ × ℤ) → ℤ
innermost_of [] = pos 0
innermost_of (p ∷ more) = p.1

-- the same after events from the first on
abbrev pub held_after : List CounterEvent → List (ℕ × ℤ)
held_after events = fold after_event [] events

-- a mark and all those outwards from it
abbrev pub all_of : List ScopeMark → Option ℕ → List ScopeMark
all_of marks o = chain (length marks) marks o

-- the mark of an event among the first n
pub record IsMarked (events : List CounterEvent) (marks : List ScopeMark) (n : ℕ) (m : ScopeMark) : Type 0 where
  pub held : map pair (all_of marks (Some n)) ≡ held_after (take (n + 1) events)
  pub at : (e : CounterEvent) → slice_get events n ≡ Some e → m.at ≡ e.at

-- marks of events, one for each
pub record AreMarked (events : List CounterEvent) (marks : List ScopeMark) : Type 0 where
  pub count : length marks ≡ length events
  pub each : (n : ℕ) (m : ScopeMark) → slice_get marks n ≡ Some m → IsMarked events marks n m

-- a new mark for an event
pub record IsNext (marks : List ScopeMark) (e : CounterEvent) (m : ScopeMark) : Type 0 where
  pub at : m.at ≡ e.at
  pub held : map pair (m ∷ all_of marks m.outer) ≡ after_event (map pair (all_of marks (last_of (length marks)))) e
  pub falls : (j : ℕ) → m.outer ≡ Some j → j < length marks

-- the value that an event gives to the innermost scope is no number of 64 bits
abbrev pub IsPastLong : List ScopeMark → CounterEvent → Type 0
IsPastLong marks e =
    FitsSigned w64 (innermost_of (after_event (map pair (all_of marks (last_of (length marks)))) e)) → ⊥

-- each mark's outer one is an earlier one
abbrev pub AreFalling : List ScopeMark → Type 0
AreFalling marks = (i j : ℕ) (m : ScopeMark) → slice_get marks i ≡ Some m → m.outer ≡ Some j → j < i

-- what holds of the marks of a counter
pub record AreMarks (marks : List ScopeMark) : Type 0 where
  pub falling : AreFalling marks
  pub sorted : IsNonDecreasingBy (λ m. m.at) marks
  pub few : length marks < 2 ^ 32

-- ---- law

-- the marks of events in document order keep the values of every place
abbrev pub MarksKeepValues : Type 0
MarksKeepValues =
    (events : List CounterEvent) (marks : List ScopeMark) (k : ℕ) → AreNested events → AreMarked events marks →
    kept_values marks k ≡ values_by events k
