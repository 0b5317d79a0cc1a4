-- What the styles of nodes keep, and what is seen of them.
use Rattle.std.specs.Prelude.{◌≡◌, ℕ, List, Some, length, map, slice_get}
use Rattle.bk_num.specs.declared.values.Pseudo.{Pseudo}
use Rattle.bk_num.specs.declared.values.Pseudo.TheVariants as pseudo
use Rattle.style.specs.declared.style.Style.{Style}
use Rattle.style.specs.declared.styles.NodeRow.{NodeRow}
use Rattle.style.specs.declared.styles.Styles.TheInside.{Inside}
use Rattle.style.specs.declared.styles.StyleTable.TheInside.{Inside as TableInside}
use Rattle.style.specs.Nodes.{NodeNumbers, NodeStyles, NumberedStyles, IsNumber, numbered}

-- what a row of numbers stands for
abbrev pub node_of : List Style → NodeRow → NodeStyles
node_of styles r = record {
  own = numbered styles r.own;
  before = numbered styles r.before;
  after = numbered styles r.after;
  call =
      numbered styles r.call;
  marker = numbered styles r.marker;
  shown = r.shown;
  note = r.note;
  in_note = r.in_note;
}

-- what each node has
abbrev pub nodes_of : Inside → List NodeStyles
nodes_of a = map (node_of a.styles.items) a.rows.items

-- a row with a number more
abbrev pub with_number : Pseudo → ℕ → NodeRow → NodeRow
with_number pseudo.Element i r = record r { own = Some i }
with_number pseudo.Before i r = record r { before = Some i }
with_number pseudo.After i r = record r { after = Some i }
with_number pseudo.Call i r = record r { call = Some i }
with_number pseudo.Marker i r = record r { marker = Some i }

-- each number of a row is below a count
pub record HasNumbers (count : ℕ) (r : NodeRow) : Type 0 where
  pub own : IsNumber count r.own
  pub before : IsNumber count r.before
  pub after : IsNumber count r.after
  pub call : IsNumber count r.call
  pub marker : IsNumber count r.marker

-- each row's numbers are below a count
abbrev pub AreNumbered : ℕ → List NodeRow → Type 0
AreNumbered count rows = (k : ℕ) (r : NodeRow) → slice_get rows k ≡ Some r → HasNumbers count r

-- each number of a row is that of a style
abbrev pub RowsHaveStyles : Inside → Type 0
RowsHaveStyles a = AreNumbered (length a.styles.items) a.rows.items

-- the numbers of a row
abbrev pub numbers_of : NodeRow → NodeNumbers
numbers_of r = record { own = r.own; before = r.before; after = r.after; call = r.call; marker = r.marker }

-- what a table is seen as: its styles, and the numbers of each node
abbrev pub table_of : TableInside → NumberedStyles
table_of t = record { styles = t.styles.now; nodes = map numbers_of t.rows.now }

-- each number of a row of a table is that of a style
abbrev pub TableHasStyles : TableInside → Type 0
TableHasStyles t = AreNumbered (length t.styles.now) t.rows.now
