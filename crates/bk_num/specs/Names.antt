-- Lists of names.
use Rattle.std.specs.Prelude.{ℕ, Bool, List, [], ◌∷◌, ◌++◌, if◌then◌else◌}
use Rattle.std.specs.Str.{bytes_eq}
use Rattle.std.specs.List.{list_any}

-- whether a name is among the names
abbrev pub has_name : List (List ℕ) → List ℕ → Bool
has_name names name = list_any (bytes_eq name) names

-- the names with this one: at their end, where it isn't among them
abbrev pub with_name : List (List ℕ) → List ℕ → List (List ℕ)
with_name names name = if has_name names name then names else names ++ name ∷ []
