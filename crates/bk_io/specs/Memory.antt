-- Shelves and sinks in memory: what they are seen as, and what their calls answer.
use Rattle.std.specs.Prelude.{◌≡◌, ℕ, ◌+◌, ◌-◌, ◌^◌, List, [], ◌∷◌, min, map, Vec, if◌then◌else◌, nat_eq, Option, Some, Result, Ok, Err}
use Rattle.std.specs.Global.{Global}
use Rattle.std.specs.Cmp.Lexicographic.{pointwise}
use Rattle.bk_io.specs.Shelf.{Told, absent, holds}

-- files by their names, in their order
abbrev pub Files : Type 0
Files = List (List ℕ × List ℕ)

-- the files that a list of names and bytes makes
abbrev pub files_in : List (List ℕ × Vec ℕ Global) → Files
files_in files = map (λ f. (f.0, f.1.items)) files

-- what is told of a name: the bytes of the first file of this name, if there is one
abbrev pub told_of : Files → List ℕ → Told
told_of [] name = absent
told_of (file ∷ files) name = if pointwise nat_eq file.0 name then holds file.1 else told_of files name

-- how many bytes a fetch gives: as far as bytes and room are there
abbrev pub fetched : ℕ → ℕ → ℕ → ℕ
fetched len from room = min (len - from) room

-- a sink in memory: the bytes taken, the room for them all, and the count of faults
pub record Taken : Type 0 where
  pub bytes : List ℕ
  pub room : ℕ
  pub faults : ℕ

-- a shelf with calls that fail: its files, the numbers of these calls, the calls and faults so far, and the name of the
-- last fault
pub record Failing : Type 0 where
  pub files : Files
  pub fail : List ℕ
  pub calls : ℕ
  pub faults : ℕ
  pub last : Option (List ℕ)

-- the count of faults rose by one, up to the greatest u64, last for this name
pub record HasFaultMore (old new : Failing) (name : List ℕ) : Type 0 where
  pub faults : new.faults ≡ min (old.faults + 1) (2 ^ 64 - 1)
  pub last : new.last ≡ Some name

-- the faults so far are those of before
pub record HasSameFaults (old new : Failing) : Type 0 where
  pub faults : new.faults ≡ old.faults
  pub last : new.last ≡ old.last

-- the count of faults after a put: one more, up to the greatest u64, exactly where it failed
abbrev pub faults_after : {T E : Type 0} → ℕ → Result T E → ℕ
faults_after before (Ok x) = before
faults_after before (Err e) = min (before + 1) (2 ^ 64 - 1)

-- a sink with calls that fail, and the most bytes of one call
pub record FailingTaken : Type 0 where
  pub bytes : List ℕ
  pub room : ℕ
  pub step : ℕ
  pub fail : List ℕ
  pub calls : ℕ
  pub faults : ℕ
