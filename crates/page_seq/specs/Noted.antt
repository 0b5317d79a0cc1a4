-- On which page of a page list a note begins (css-gcpm-3, 2: footnotes).
use Rattle.std.specs.Prelude.{ℕ, ◌==◌, Bool, List, Option}
use Rattle.std.specs.List.{list_any}
use Rattle.boxes.specs.declared.page.Page.{Page}
use Rattle.page_seq.specs.Places.{first_place}

-- whether a page holds a solid of a note
abbrev pub has_note : ℕ → Page → Bool
has_note n p = list_any (λ s. s.0 == n) p.notes

-- the page on which a note begins, by its place in the list: the first that holds a solid of it
abbrev pub begins_on : List Page → ℕ → Option ℕ
begins_on pages n = first_place (has_note n) pages
