-- Tables of page references: the numbers of the pages on which elements begin.
use Rattle.std.specs.Prelude.{◌≡◌, ◌<◌, ℕ, ◌==◌, ℤ, pos, List, Option, None, Some, find, length, map, slice_get, unwrap_or}
use Rattle.std.specs.List.Sorted.{IsNonDecreasingBy, IsStrictlyIncreasing}
use Rattle.bk_num.specs.declared.ids.NodeId.{NodeId}
use Rattle.boxes.specs.declared.flow.Flow.{Flow}
use Rattle.boxes.specs.declared.flow.Start.{Start}
use Rattle.boxes.specs.declared.page.Page.{Page}
use Rattle.gen_text.specs.Table.{number_in}
use Rattle.gen_text.specs.declared.table.Entry.{Entry}
use Rattle.page_seq.specs.Numbers.{numbers_of}
use Rattle.refs.specs.Begins.{page_of_start}

-- the numbers of elements ascend
abbrev pub NodesAscend : List NodeId → Type 0
NodesAscend nodes = IsNonDecreasingBy (λ (n : NodeId). n.0) nodes

-- where an element begins: the first start of its node; none where the flow doesn't have it
abbrev pub start_of : List Start → NodeId → Option Start
start_of starts node = find (λ s. s.node.0 == node.0) starts

-- the number of a page; 0 where the list has no page at this place
abbrev pub number_at : List ℤ → ℕ → ℤ
number_at numbers page = unwrap_or (slice_get numbers page) (pos 0)

-- the number of the page on which an element begins; 0 where it doesn't begin
abbrev pub number_from : Flow → List Page → Option Start → ℤ
number_from flow pages None = pos 0
number_from flow pages (Some s) = number_at (numbers_of flow.main pages flow.resets) (page_of_start flow pages s)

-- the entry of an element: the number of the page on which it begins
abbrev pub entry_of : Flow → List Page → NodeId → Entry
entry_of flow pages node = record { node = node; number = number_from flow pages (start_of flow.starts node) }

-- the table that a page list shows: for each node the number of the page on which its element begins (css-gcpm-3,
-- "target-counter()" with the counter `page`; css-page-3, page-based counters)
abbrev pub table_of : Flow → List Page → List NodeId → List Entry
table_of flow pages nodes = map (entry_of flow pages) nodes

-- the table before there are pages: 0 for each node
abbrev pub opening_of : List NodeId → List Entry
opening_of nodes = map (λ (node : NodeId). record { node = node; number = pos 0 }) nodes

-- ---- laws

-- tables have the nodes that they are made for, in order
pub record TablesHaveNodes : Type 0 where
  pub shown : (flow : Flow) (pages : List Page) (nodes : List NodeId) →
      map (λ e. e.node) (table_of flow pages nodes) ≡ nodes
  pub opening : (nodes : List NodeId) → map (λ e. e.node) (opening_of nodes) ≡ nodes

-- a reference to one of the nodes finds the number of the page on which its element begins
abbrev pub ReferencesFindNumbers : Type 0
ReferencesFindNumbers = (flow : Flow) (pages : List Page) (nodes : List NodeId) (k : ℕ) (node : NodeId) →
    slice_get nodes k ≡ Some node →
    number_in (table_of flow pages nodes) node.0 ≡ Some (number_from flow pages (start_of flow.starts node))

-- where there is a page, an element that the flow has begins on one of the list, and has its number
abbrev pub ElementsHavePages : Type 0
ElementsHavePages = (flow : Flow) (pages : List Page) (s : Start) → 0 < length pages →
    slice_get (numbers_of flow.main pages flow.resets) (page_of_start flow pages s) ≡
    Some (number_from flow pages (Some s))

-- nodes that rise strictly, as targets do, ascend
abbrev pub TargetsAscend : Type 0
TargetsAscend = (nodes : List NodeId) → IsStrictlyIncreasing (map (λ n. n.0) nodes) → NodesAscend nodes
