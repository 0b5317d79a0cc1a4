-- The choice among declarations, one after another, for the contracts of private functions.
use Rattle.std.specs.Prelude.{ℕ, ◌+◌, Bool, true, false, List, [], ◌∷◌, ◌++◌, map, Option, None, Some, option_map, slice_get, slice_set, if◌then◌else◌}
use Rattle.style.specs.declared.long.Long.{Long}
use Rattle.cascade.specs.declared.weight.DeclWeight.{DeclWeight}
use Rattle.cascade.specs.declared.decl.ReadDecl.{ReadDecl}
use Rattle.cascade.specs.declared.choice.Candidate.{Candidate}
use Rattle.cascade.specs.Weights.{is_above, of_decl, at_place}
use Rattle.cascade.specs.Candidates.{Declared, slot_of}

-- the same with the longhand as a value
abbrev pub candidate_in : Candidate → Declared
candidate_in c = record { weight = c.weight; long = c.long.now }

-- the best of each longhand so far, as values
abbrev pub views : List (Option Candidate) → List (Option Declared)
views best = map (option_map candidate_in) best

-- the better of a declaration and the best so far
abbrev pub better_of : Declared → Option Declared → Option Declared
better_of c None = Some c
better_of c (Some b) = if is_above c.weight b.weight then Some c else Some b

-- nothing has won yet
abbrev pub are_none : List (Option Declared) → Bool
are_none [] = true
are_none (None ∷ best) = are_none best
are_none (Some c ∷ best) = false

-- the best of each longhand after one more declaration, whose longhand has this best so far
abbrev pub offered_at : List (Option Declared) → Declared → Option (Option Declared) → List (Option Declared)
offered_at best c None = best
offered_at best c (Some o) = slice_set best (slot_of c.long) (better_of c o)

-- the best of each longhand after one more declaration
abbrev pub offered : List (Option Declared) → Declared → List (Option Declared)
offered best c = offered_at best c (slice_get best (slot_of c.long))

-- the longhands of a declaration, from the q-th on
abbrev pub longs_from : DeclWeight → ℕ → List Long → List Declared
longs_from w q [] = []
longs_from w q (l ∷ ls) = record { weight = at_place w q; long = l } ∷ longs_from w (q + 1) ls

-- the longhands of the declarations of a rule, from the j-th on
abbrev pub decls_from : DeclWeight → ℕ → List ReadDecl → List Declared
decls_from w j [] = []
decls_from w j (d ∷ ds) = longs_from (of_decl w d.important j) 0 d.longs ++ decls_from w (j + 1) ds

-- what won, in the order of the longhands
abbrev pub longs_in : List (Option Declared) → List Long
longs_in [] = []
longs_in (None ∷ best) = longs_in best
longs_in (Some d ∷ best) = d.long ∷ longs_in best
