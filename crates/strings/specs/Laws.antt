-- A law of running strings.
use Rattle.std.specs.Prelude.{◌≡◌, ℕ, true, List, filter}
use Rattle.bk_num.specs.Names.{has_name}
use Rattle.boxes.specs.Tree.{Tree}
use Rattle.boxes.specs.declared.flow.Assign.{Assign}
use Rattle.boxes.specs.declared.page.Page.{Page}
use Rattle.style.specs.declared.content.Keyword.{Keyword}
use Rattle.strings.specs.Shown.{string_of}

-- what a page shows of a string stays the same where assignments of names that aren't asked for are left out
abbrev pub UnaskedChangeNothing : Type 0
UnaskedChangeNothing = (t : Tree) (pages : List Page) (assigns : List Assign) (asked : List (List ℕ)) (page : ℕ)
    (name : List ℕ) (k : Keyword) → has_name asked name ≡ true →
    string_of t pages (filter (λ a. has_name asked a.name) assigns) page name k ≡ string_of t pages assigns page name k
