-- The assignments of running strings by name, with the pages that they belong to (css-gcpm-3, 1.1).
use Rattle.std.specs.Prelude.{◌≡◌, ℕ, ◌<◌, ◌==◌, nat_lt, false, List, [], None, length, filter, slice_get, option_map, unwrap_or}
use Rattle.std.specs.List.{last_or}
use Rattle.std.specs.List.Sorted.{IsNonDecreasingBy}
use Rattle.std.specs.Map.{lookup}
use Rattle.std.specs.Option.{option_map_or}
use Rattle.std.specs.Str.{bytes_eq}
use Rattle.boxes.specs.Tree.{Tree}
use Rattle.boxes.specs.declared.flow.Assign.{Assign}
use Rattle.boxes.specs.declared.page.Page.{Page}
use Rattle.style.specs.declared.content.Keyword.{Keyword}
use Rattle.strings.specs.Shown.{shown_on, string_of}
use Rattle.strings.specs.declared.assigned.Mark.{Mark}
use Rattle.strings.specs.declared.shown.Shown.{Shown}

-- each name with its assignments, in their order
abbrev pub Named : Type 0
Named = List (List ℕ × List Mark)

-- the assignments of a name; none where no assignment has it
abbrev pub marks_named : Named → List ℕ → List Mark
marks_named s name = unwrap_or (lookup (bytes_eq name) s) []

-- pages never fall along the assignments of a name
abbrev pub PagesNeverFall : List Mark → Type 0
PagesNeverFall marks = IsNonDecreasingBy (λ (m : Mark). m.page) marks

-- the assignments on a page, and those on the pages before it
abbrev pub on_page : ℕ → List Mark → List Mark
on_page page marks = filter (λ m. m.page == page) marks

-- the assignments before a page
abbrev pub before_page : ℕ → List Mark → List Mark
before_page page marks = filter (λ m. nat_lt m.page page) marks

-- what a page knows of a string by the string's assignments on it and before it: the first and the last on it, the last
-- before it, and whether the first one stands on the page's first solid
abbrev pub shown_of : List Mark → List Mark → Shown
shown_of here before =
    record {
      first = option_map (λ m. m.assign) (slice_get here 0);
      last = option_map (λ m. m.assign) (last_or None here);
      entry = option_map (λ m. m.assign) (last_or None before);
      starts = option_map_or (λ m. m.starts) (slice_get here 0) false;
    }

-- what a page knows of a string by the marks of its assignments
abbrev pub shown_from : Named → ℕ → List ℕ → Shown
shown_from s page name = shown_of (on_page page (marks_named s name)) (before_page page (marks_named s name))

-- each page knows of each string by these assignments what it knows by those of the flow
abbrev pub AreStrings : Tree → List Page → List Assign → Named → Type 0
AreStrings t pages assigns s =
    (page : ℕ) (name : List ℕ) → page < length pages → shown_from s page name ≡ shown_on t pages assigns name page

-- a text is that of a string on a page of each list whose strings these are
abbrev pub IsTextFrom : Tree → List Assign → Named → ℕ → List ℕ → Keyword → List ℕ → Type 0
IsTextFrom t assigns s page name k text =
    (pages : List Page) → AreStrings t pages assigns s → page < length pages →
    text ≡ string_of t pages assigns page name k
