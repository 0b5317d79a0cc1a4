-- What a print puts.
use Rattle.std.specs.Prelude.{ℕ, List, take, Option, Result, Ok, Err}
use Rattle.std.specs.Io.KnownBytes.{Appends, Keeps}
use Rattle.bk_io.specs.Causes.{Rose}
use Rattle.listing.specs.declared.print.PrintErr.{PrintErr}
use Rattle.listing.specs.declared.print.PrintErr.TheVariants as err

-- the bytes were put; or a put failed, and a prefix of them was; or memory ran out, and nothing was
abbrev pub Puts : Option (List ℕ) → Option (List ℕ) → List ℕ → Result Unit PrintErr → Type 0
Puts old new bytes (Ok done) = Appends old new bytes
Puts old new bytes (Err err.Failed) = (n : ℕ) × Appends old new (take n bytes)
Puts old new bytes (Err err.NoMemory) = Keeps old new

-- a put fails only where the count of faults rose
abbrev pub HasPutCause : ℕ → ℕ → Result Unit PrintErr → Type 0
HasPutCause before now (Ok done) = Unit {0}
HasPutCause before now (Err err.Failed) = Rose before now
HasPutCause before now (Err err.NoMemory) = Unit {0}
