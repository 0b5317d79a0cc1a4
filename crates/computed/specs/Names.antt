-- The names of a document's pages: which are given, and how they are numbered.
use Rattle.std.specs.Prelude.{ℕ, List, [], ◌∷◌, ◌++◌, Option, None, Some, fold}
use Rattle.std.specs.List.{flat_map, zip}
use Rattle.std.specs.Option.{option_to_list}
use Rattle.style.specs.Nodes.{NodeStyles}
use Rattle.bk_num.specs.Names.{with_name}
use Rattle.style.specs.declared.style.Style.{Style}
use Rattle.style.specs.declared.long.Long.{Long}
use Rattle.style.specs.declared.long.Long.TheVariants as long
use Rattle.style.specs.declared.long.Given.TheVariants as given
use Rattle.cascade.specs.declared.table.NodeWinners.{NodeWinners}

-- the page name that winners give; `inherit` and `initial` act as `auto`, which gives none (css-page-3, 5.3)
abbrev pub named : Option (List ℕ) → Long → Option (List ℕ)
named found (long.Page (given.Value name)) = name
named found (long.Page given.Inherit) = None
named found (long.Page given.Initial) = None
named found l = found

-- the page name that an element's winners give
abbrev pub page_in : List Long → Option (List ℕ)
page_in winners = fold named None winners

-- the name that is given for an element or a pseudo-element, where it is there: one or none
abbrev pub given_names : List Long → Option Style → List (List ℕ)
given_names winners None = []
given_names winners (Some style) = option_to_list (page_in winners)

-- the names that are given for a node and then for each of its pseudo-elements
abbrev pub node_names : NodeWinners → NodeStyles → List (List ℕ)
node_names w r =
    given_names w.own r.own ++
    (given_names w.before r.before ++ (given_names w.after r.after ++
    (given_names w.call r.call ++ given_names w.marker r.marker)))

-- those of a document, in the order of its nodes
abbrev pub page_names : List NodeWinners → List NodeStyles → List (List ℕ)
page_names winners rows = flat_map (λ node. node_names node.0 node.1) (zip winners rows)

-- names, and more that are numbered after them in the order in which they are first seen
abbrev pub with_names : List (List ℕ) → List (List ℕ) → List (List ℕ)
with_names names more = fold with_name names more

-- the numbered names of a document: 0 is no name, and each other name stands once, where it is first seen
abbrev pub names_of : List NodeWinners → List NodeStyles → List (List ℕ)
names_of winners rows = with_names ([] ∷ []) (page_names winners rows)
