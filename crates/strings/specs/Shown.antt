-- What a page shows of a running string (css-gcpm-3, 1.1.2). A page is its place in the page list, an assignment its
-- place in the list of assignments.
use Rattle.std.specs.Prelude.{ℕ, ◌==◌, ◌&&◌, nat_lt, nat_eq, not, Bool, false, List, [], Option, None, Some, length, map, slice_get, if◌then◌else◌}
use Rattle.std.specs.Option.{option_or}
use Rattle.std.specs.Cmp.Lexicographic.{pointwise}
use Rattle.boxes.specs.Tree.{Tree}
use Rattle.boxes.specs.declared.flow.Assign.{Assign}
use Rattle.boxes.specs.declared.page.Page.{Page}
use Rattle.style.specs.declared.content.Keyword.{Keyword}
use Rattle.style.specs.declared.content.Keyword.TheVariants as keyword
use Rattle.strings.specs.declared.shown.Shown.{Shown}
use Rattle.page_seq.specs.Places.{anchor_of, first_place, last_place, page_of, solid_at}

-- the page that an assignment of a name belongs to; none for an assignment of another name
abbrev pub mark_of : Tree → List Page → List ℕ → Assign → Option ℕ
mark_of t pages name assign = if pointwise nat_eq assign.name name then Some (page_of t pages assign.at) else None

-- on which page each assignment of a name stands, none for those of other names
abbrev pub marks_of : Tree → List Page → List Assign → List ℕ → List (Option ℕ)
marks_of t pages assigns name = map (mark_of t pages name) assigns

-- an assignment stands on a page, or on one before it
abbrev pub is_on : ℕ → Option ℕ → Bool
is_on page None = false
is_on page (Some number) = number == page

-- whether an assignment stands on an earlier page
abbrev pub is_earlier : ℕ → Option ℕ → Bool
is_earlier page None = false
is_earlier page (Some number) = nat_lt number page

-- the first and the last assignment on a page, and the last one before it, which holds where the page begins
abbrev pub first_on : ℕ → List (Option ℕ) → Option ℕ
first_on page marks = first_place (is_on page) marks

-- the last assignment on a page
abbrev pub last_on : ℕ → List (Option ℕ) → Option ℕ
last_on page marks = last_place (is_on page) marks

-- the last assignment before a page
abbrev pub entry_of : ℕ → List (Option ℕ) → Option ℕ
entry_of page marks = last_place (is_earlier page) marks

-- what belongs to a page stands on its first solid; a page without solids has none
abbrev pub starts_page : Tree → Option Page → Option Assign → Bool
starts_page t None assign = false
starts_page t (Some page) None = false
starts_page t (Some page) (Some assign) = not (length page.solids == 0) && (solid_at page (anchor_of t assign.at) == 0)

-- an assignment by its place in the list
abbrev pub assign_at : List Assign → Option ℕ → Option Assign
assign_at assigns None = None
assign_at assigns (Some number) = slice_get assigns number

-- the other assignment, where the first is not there
abbrev pub unless : Option ℕ → Option ℕ → Option ℕ
unless None other = other
unless (Some number) other = None

-- which assignment a page shows by a keyword; None is the empty text
abbrev pub shown_by : Keyword → Shown → Option ℕ
shown_by keyword.First s = option_or s.first s.entry
shown_by keyword.Start s = if s.starts then option_or s.first s.entry else s.entry
shown_by keyword.Last s = option_or s.last s.entry
shown_by keyword.FirstExcept s = unless s.first s.entry

-- what a page knows of a string, by the marks of its assignments
abbrev pub shown_in : Tree → List Page → List Assign → List (Option ℕ) → ℕ → Shown
shown_in t pages assigns marks page =
    record {
      first = first_on page marks;
      last = last_on page marks;
      entry = entry_of page marks;
      starts =
          starts_page t (slice_get pages page) (assign_at assigns (first_on page marks));
    }

-- what a page of a list knows of a string
abbrev pub shown_on : Tree → List Page → List Assign → List ℕ → ℕ → Shown
shown_on t pages assigns name page = shown_in t pages assigns (marks_of t pages assigns name) page

-- the text of an assignment, the empty text without one
abbrev pub value_of : Option Assign → List ℕ
value_of None = []
value_of (Some assign) = assign.value

-- the text of a running string on a page
abbrev pub string_of : Tree → List Page → List Assign → ℕ → List ℕ → Keyword → List ℕ
string_of t pages assigns page name k = value_of (assign_at assigns (shown_by k (shown_on t pages assigns name page)))
