-- The places of leaves, as they are noted.
use Rattle.std.specs.Prelude.{ℕ, suc, ℤ, Bool, true, ◌&&◌, List, [], ◌∷◌, Option, Some, None, slice_get, nat_eq, if◌then◌else◌}
use Rattle.std.specs.Option.{option_flatten}
use Rattle.std.specs.Ordering.{int_eq}
use Rattle.cursor.specs.KeptLines.{LeafAtMeasure}
use Rattle.cursor.specs.declared.leaf_places.NotedPlace.{NotedPlace}

-- the place that is noted for the leaf with a number
abbrev pub noted_at : List (Option NotedPlace) → ℕ → Option NotedPlace
noted_at firsts leaf = option_flatten (slice_get firsts leaf)

-- the entries of the leaves of the main tree, which has the number 0, from one with a number on
abbrev pub entries_from : ℕ → List (Option NotedPlace) → List (LeafAtMeasure × ℕ)
entries_from leaf [] = []
entries_from leaf (None ∷ firsts) = entries_from (suc leaf) firsts
entries_from leaf (Some noted ∷ firsts) = ((0, leaf, noted.measure), noted.at) ∷ entries_from (suc leaf) firsts

-- a place, where it is noted at a measure
abbrev pub at_measure : Option NotedPlace → ℤ → Option ℕ
at_measure None measure = None
at_measure (Some noted) measure = if int_eq noted.measure measure then Some noted.at else None

-- the place of a leaf at a measure, among those of the main tree
abbrev pub first_in : List (Option NotedPlace) → LeafAtMeasure → Option ℕ
first_in firsts of = if nat_eq of.0 0 then at_measure (noted_at firsts of.1) of.2 else None

-- whether no other measure is noted
abbrev pub is_free : Option NotedPlace → ℤ → Bool
is_free None measure = true
is_free (Some noted) measure = int_eq noted.measure measure

-- whether the place of a leaf at a measure goes among those of the main tree
abbrev pub goes_first : List (Option NotedPlace) → LeafAtMeasure → Bool
goes_first firsts of = nat_eq of.0 0 && is_free (noted_at firsts of.1) of.2
