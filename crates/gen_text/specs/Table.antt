-- Numbers of pages by the targets of references.
use Rattle.std.specs.Prelude.{ℕ, ◌==◌, if◌then◌else◌, List, [], ◌∷◌, Option, None, Some, ℤ}
use Rattle.std.specs.List.Sorted.{IsNonDecreasingBy}
use Rattle.bk_num.specs.declared.values.NumStyle.{NumStyle}
use Rattle.counters.specs.Numerals.{number_text}
use Rattle.gen_text.specs.declared.table.Entry.{Entry}
use Rattle.gen_text.specs.declared.table.Table.TheInside.{Inside}

-- a node's number in the table
abbrev pub number_in : List Entry → ℕ → Option ℤ
number_in [] n = None
number_in (e ∷ more) n = if e.node.0 == n then Some e.number else number_in more n

-- the number of a target, where there is one
abbrev pub number_for : List Entry → Option ℕ → Option ℤ
number_for entries None = None
number_for entries (Some n) = number_in entries n

-- the text of a page reference to a target: the number of its page, or nothing (css-gcpm-3, "target-counter()")
abbrev pub page_text : List Entry → Option ℕ → NumStyle → List ℕ
page_text entries target style = number_text style (number_for entries target)

-- the nodes ascend
abbrev pub Ascend : List Entry → Type 0
Ascend entries = IsNonDecreasingBy (λ e. e.node.0) entries

-- the entries of a table
abbrev pub entries_of : Inside → List Entry
entries_of a = a.entries

-- the entries of a table ascend
abbrev pub IsSoundTable : Inside → Type 0
IsSoundTable a = Ascend a.entries
