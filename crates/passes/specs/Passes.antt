-- Passes: page references settle where the pages that are made under a table of their numbers show that very table.
use Rattle.std.specs.Prelude.{◌≡◌, ◌≢◌, ℕ, zero, suc, ℤ, ◌<◌, ◌≤◌, List, [], Some, length, slice_get, codes, unwrap_or}
use Rattle.bk_num.specs.Limits.{most_pages, most_text_bytes}
use Rattle.boxes.specs.declared.flow.Flow.{Flow}
use Rattle.boxes.specs.declared.page.Page.{Page}
use Rattle.box_gen.specs.Notes.{bytes_in}
use Rattle.dom.specs.Nodes.{Node, attribute_at}
use Rattle.gen_text.specs.declared.table.Entry.{Entry}
use Rattle.page_list.specs.Pages.{IsPaged, LeavesSome}
use Rattle.page_seq.specs.Folds.{fold_of}
use Rattle.refs.specs.Differences.{IsFirstDifference}
use Rattle.refs.specs.Tables.{opening_of, table_of}
use Rattle.passes.specs.Work.{Work, IsFlowUnder}

-- a pass: the flow under a table, its one list of frames, and the table that the pages show on which these stand
pub record IsPass (w : Work) (table : List Entry) (flow : Flow) (pages : List Page) (next : List Entry) : Type 0 where
  pub flow_is : IsFlowUnder w table flow
  pub fits : bytes_in flow ≤ most_text_bytes
  pub paged : IsPaged w.faces flow w.frames pages
  pub few : length pages ≤ most_pages
  pub shown : next ≡ table_of flow (fold_of w.per pages) w.targets

-- a pass under a table shows a table
abbrev pub Shows : Work → List Entry → List Entry → Type 0
Shows w table next = (flow : Flow) × (pages : List Page) × IsPass w table flow pages next

-- the table after k passes none of which settled: zeros at first, then what a pass shows under the table before, from
-- which it differs
abbrev pub IsOpenAfter : Work → ℕ → List Entry → Type 0
IsOpenAfter w zero table = table ≡ opening_of w.targets
IsOpenAfter w (suc k) table = (before : List Entry) × IsOpenAfter w k before × Shows w before table × (before ≢ table)

-- the value of an element's id
abbrev pub id_of : List Node → ℕ → List ℕ
id_of nodes n = unwrap_or (attribute_at nodes n (codes "id")) (codes "")

-- how passes end: they settle, after so many, with a flow, its frames and its table; they don't settle, for a target of
-- an id whose numbers in the last two tables differ; a flow has more text than is laid out; the most frames leave
-- something of it unplaced
pub data End : Type 0 where
  settled : ℕ → Flow → List Page → List Entry → End
  unsettled : List ℕ → ℤ → ℤ → End
  long : End
  many : End

-- how the pass after k others ends all, which goes by a table
pub data IsLast (w : Work) (limit k : ℕ) (table : List Entry) : End → Type 0 where
  settles : (flow : Flow) (pages : List Page) → IsPass w table flow pages table →
      IsLast w limit k table (settled (suc k) flow pages table)
  differs : (a b : Entry) (next : List Entry) → suc k ≡ limit → Shows w table next → (place : ℕ) →
      IsFirstDifference table next place →
      slice_get table place ≡ Some a → slice_get next place ≡ Some b →
      IsLast w limit k table (unsettled (id_of w.nodes a.node.0) a.number b.number)
  too_long : (flow : Flow) → IsFlowUnder w table flow → most_text_bytes < bytes_in flow → IsLast w limit k table long
  too_many : (flow : Flow) → IsFlowUnder w table flow → bytes_in flow ≤ most_text_bytes →
      LeavesSome w.faces flow w.frames most_pages →
      IsLast w limit k table many

-- how passes end, of which there are at most so many
abbrev pub EndsIn : Work → ℕ → End → Type 0
EndsIn w limit end = (k : ℕ) × (k < limit) × (table : List Entry) × IsOpenAfter w k table × IsLast w limit k table end

-- they end in one way
abbrev pub HaveOneEnd : Type 0
HaveOneEnd = (w : Work) (limit : ℕ) (a b : End) → EndsIn w limit a → EndsIn w limit b → a ≡ b

-- the first pass is the last: it settles, or it can't be laid out
abbrev pub IsAtOnce : End → Type 0
IsAtOnce (settled passes flow pages table) = passes ≡ 1
IsAtOnce (unsettled target before after) = ⊥
IsAtOnce long = Unit {0}
IsAtOnce many = Unit {0}

-- without page references the first pass settles, if it can be laid out
abbrev pub SettleAtOnce : Type 0
SettleAtOnce = (w : Work) (limit : ℕ) (end : End) → w.targets ≡ [] → EndsIn w limit end → IsAtOnce end
