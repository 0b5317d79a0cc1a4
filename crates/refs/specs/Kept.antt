-- What is kept while a table is made.
use Rattle.std.specs.Prelude.{◌≡◌, ◌<◌, ℕ, ◌==◌, Bool, List, Option, None, Some, length, map, slice_get, slice_index_or, unwrap_or, if◌then◌else◌}
use Rattle.std.specs.List.{range_with_len}
use Rattle.std.specs.Option.{option_or}
use Rattle.bk_num.specs.declared.ids.NodeId.{NodeId}
use Rattle.boxes.specs.declared.flow.Flow.{Flow}
use Rattle.boxes.specs.declared.flow.Start.{Start}
use Rattle.boxes.specs.declared.page.Page.{Page}
use Rattle.page_seq.specs.Finder.{AreEndsOf}
use Rattle.page_seq.specs.Noted.{begins_on}
use Rattle.page_seq.specs.Numbers.{numbers_of}
use Rattle.page_seq.specs.Places.{first_place}
use Rattle.refs.specs.Tables.{start_of}
use Rattle.refs.specs.declared.numbers.PageNumbers.{PageNumbers}

-- for each of so many notes the page on which it begins
abbrev pub begins_of : List Page → ℕ → List (Option ℕ)
begins_of pages count = map (begins_on pages) (range_with_len 0 count)

-- a page is written for each note that stands on it and for which none was written
abbrev pub AreNotedOn : (ℕ → Bool) → ℕ → List (Option ℕ) → List (Option ℕ) → Type 0
AreNotedOn here page old new =
    (n : ℕ) (d : Option ℕ) → n < length old →
    slice_index_or new n d ≡ option_or (slice_index_or old n d) (if here n then Some page else None)

-- the first place of a node in a list of nodes
abbrev pub place_of : List NodeId → NodeId → Option ℕ
place_of nodes node = first_place (λ n. n.0 == node.0) nodes

-- each node's start stands at the first place of the node
abbrev pub AreStartsOf : List NodeId → List Start → List (Option Start) → Type 0
AreStartsOf nodes starts found =
    (node : NodeId) (k : ℕ) → place_of nodes node ≡ Some k → slice_get found k ≡ Some (start_of starts node)

-- what is kept of the start of an element, by its number
abbrev pub start_at : List (Option Start) → Option ℕ → Option Start
start_at found None = None
start_at found (Some k) = unwrap_or (slice_get found k) None

-- what is known of the pages of a flow: the page of each place, the page on which each note begins, the number of each
-- page
pub record AreNumbersOf (flow : Flow) (pages : List Page) (known : PageNumbers) : Type 0 where
  pub finder : AreEndsOf pages known.finder
  pub notes : known.notes.items ≡ begins_of pages (length flow.notes)
  pub numbers : known.numbers.items ≡ numbers_of flow.main pages flow.resets
