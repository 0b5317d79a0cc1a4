-- What a buffer before a sink and the sink hold together.
use Rattle.std.specs.Prelude.{◌≡◌, ℕ, List, ◌++◌, Option, MatchResult, Result, take}
use Rattle.std.specs.Io.KnownBytes.{Appends}

-- some bytes were appended, and they and what waits now are what waited before and then these bytes
abbrev pub Passes : Option (List ℕ) → List ℕ → Option (List ℕ) → List ℕ → List ℕ → Type 0
Passes old waited new waits bytes = (more : List ℕ) × Appends old new more × (more ++ waits ≡ waited ++ bytes)

-- a prefix of what waited and of these bytes was appended
abbrev pub TakesPrefix : Option (List ℕ) → List ℕ → Option (List ℕ) → List ℕ → Type 0
TakesPrefix old waited new bytes = (n : ℕ) × Appends old new (take n (waited ++ bytes))

-- the bytes passed, or a prefix of them was appended
abbrev pub Gives : {E : Type 0} → Option (List ℕ) → List ℕ → Option (List ℕ) → List ℕ → List ℕ →
    Result Unit E → Type 0
Gives old waited new waits bytes result =
    MatchResult result (λ _. Passes old waited new waits bytes) (λ _. TakesPrefix old waited new bytes)
