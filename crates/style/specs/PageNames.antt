-- Names of pages, numbered in the order in which they are first seen. The number 0 is no name.
use Rattle.std.specs.Prelude.{ℕ, ◌<◌, length, List, [], ◌∷◌, map}
use Rattle.std.specs.String.{string_bytes}
use Rattle.style.specs.declared.names.Names.TheInside.{Inside}

-- the names as texts: that of number 0 is empty
abbrev pub texts_of : Inside → List (List ℕ)
texts_of a = [] ∷ map (λ s. string_bytes s) a.names.keys

-- the numbers of the names have 32 bits
abbrev pub IsShort : Inside → Type 0
IsShort a = length a.names.keys < 4294967295
