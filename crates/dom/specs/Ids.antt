-- The first element of each id, as a map keeps it.
use Rattle.std.specs.Prelude.{ℕ, List, Option}
use Rattle.std.specs.declared.string.String.{String}
use Rattle.indexmap.specs.IndexMap.{IndexMap, get_by_text}
use Rattle.dom.specs.Nodes.{flat}

-- the element that a map has for an id
abbrev pub first_in : {Y S : Type 0} → IndexMap (String Y) (Option ℕ) S → List ℕ → Option ℕ
first_in ids id = flat (get_by_text ids id)
