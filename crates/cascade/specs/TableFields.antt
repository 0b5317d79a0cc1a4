-- What the table of winners keeps, and what is seen of it.
use Rattle.std.specs.Prelude.{◌≡◌, ℕ, List, [], Option, None, Some, map, slice_get}
use Rattle.cascade.specs.declared.table.NodeWinners.{NodeWinners}
use Rattle.cascade.specs.declared.table.Shared.{Shared}
use Rattle.cascade.specs.declared.table.WinnerTable.TheInside.{Inside}
use Rattle.cascade.specs.Table.{WinnersOf}

-- what wins where nothing is declared
abbrev pub nothing_wins : NodeWinners
nothing_wins = record { own = []; before = []; after = []; call = []; marker = [] }

-- what wins by an entry
abbrev pub winners_in : Option Shared → NodeWinners
winners_in None = nothing_wins
winners_in (Some s) = s.winners

-- the first of an entry's nodes
abbrev pub first_in : Option Shared → ℕ
first_in None = 0
first_in (Some s) = s.first.0

-- what an entry says, by its number
abbrev pub numbered : {A : Type 0} → (Option Shared → A) → List Shared → ℕ → A
numbered said shared i = said (slice_get shared i)

-- the same for each node
abbrev pub seen : {A : Type 0} → (Option Shared → A) → List Shared → List ℕ → List A
seen said shared numbers = map (numbered said shared) numbers

-- what wins for each node, and the first of its like
abbrev pub table_of : List Shared → List ℕ → WinnersOf
table_of shared numbers = record { winners = seen winners_in shared numbers; firsts = seen first_in shared numbers }

-- what is seen of the fields
abbrev pub all_of : Inside → WinnersOf
all_of a = table_of a.shared.items a.numbers.items

-- a number is that of an entry, whose first node has this number
pub record IsNumber (shared : List Shared) (numbers : List ℕ) (i : ℕ) : Type 0 where
  pub entry : Shared
  pub there : slice_get shared i ≡ Some entry
  pub first : slice_get numbers entry.first.0 ≡ Some i

-- each number is that of an entry
abbrev pub AreNumbers : List Shared → List ℕ → Type 0
AreNumbers shared numbers = (k i : ℕ) → slice_get numbers k ≡ Some i → IsNumber shared numbers i

-- what holds of the table's fields
abbrev pub IsSound : Inside → Type 0
IsSound a = AreNumbers a.shared.items a.numbers.items
