-- Assignments by name, as a map keeps them.
use Rattle.std.specs.Prelude.{ℕ, suc, Bool, List, [], ◌∷◌, ◌++◌, Some, if◌then◌else◌, filter, map, slice_get, unwrap_or}
use Rattle.std.specs.Str.{bytes_eq}
use Rattle.std.specs.String.{string_bytes}
use Rattle.std.specs.declared.string.String.{String}
use Rattle.indexmap.specs.IndexMap.{IndexMap, get_by_text}
use Rattle.boxes.specs.Tree.{Tree}
use Rattle.boxes.specs.declared.flow.Assign.{Assign}
use Rattle.boxes.specs.declared.page.Page.{Page}
use Rattle.page_seq.specs.Places.{page_of}
use Rattle.strings.specs.Assigned.{Named, PagesNeverFall}
use Rattle.strings.specs.Shown.{starts_page}
use Rattle.strings.specs.declared.assigned.Mark.{Mark}
use Rattle.strings.specs.declared.assigned.Strings.TheInside.{Inside}

-- an assignment by its place in the flow's list, on a page
abbrev pub mark_on : Tree → List Page → Assign → ℕ → ℕ → Mark
mark_on t pages assign place page =
    record { assign = place; page = page; starts = starts_page t (slice_get pages page) (Some assign) }

-- each assignment from a place of the flow's list on, with its name and the page that it belongs to
abbrev pub marked : Tree → List Page → ℕ → List Assign → List (List ℕ × Mark)
marked t pages place [] = []
marked t pages place (a ∷ assigns) =
    (a.name, mark_on t pages a place (page_of t pages a.at)) ∷ marked t pages (suc place) assigns

-- the assignments of a name, in their order
abbrev pub marks_with : Tree → List Page → List Assign → List ℕ → List Mark
marks_with t pages assigns name = map (λ e. e.1) (filter (λ e. bytes_eq e.0 name) (marked t pages 0 assigns))

-- the assignments of a name in a map
abbrev pub marks_in : {Y S : Type 0} → IndexMap (String Y) (List Mark) S → List ℕ → List Mark
marks_in named name = unwrap_or (get_by_text named name) []

-- the assignments of a name after one more, which may have another name
abbrev pub with_mark : List Mark → Mark → Bool → List Mark
with_mark marks mark here = if here then marks ++ mark ∷ [] else marks

-- the names and their assignments
abbrev pub named_of : Inside → Named
named_of a = map (λ e. (string_bytes e.0, e.1)) a.named.entries

-- pages never fall along the assignments of each name
abbrev pub AreInOrder : Inside → Type 0
AreInOrder a = (name : List ℕ) → PagesNeverFall (marks_in a.named name)
