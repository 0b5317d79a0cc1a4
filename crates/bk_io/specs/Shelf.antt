-- What a shelf of named files tells of its bytes, and what a fetch and a whole read answer.
use Rattle.std.specs.Prelude.{◌≡◌, ℕ, ◌≤◌, ◌<◌, List, length, take, drop, Ok, Err, IfSome, ◌⊎◌, Result, Option, vec_len, Vec}
use Rattle.std.specs.Global.{Global}
use Rattle.bk_io.specs.Causes.{Rose}
use Rattle.bk_io.specs.declared.shelf.FetchErr.{FetchErr}
use Rattle.bk_io.specs.declared.shelf.FetchErr.TheVariants as fetching
use Rattle.bk_io.specs.declared.read_all.ReadErr.{ReadErr}
use Rattle.bk_io.specs.declared.read_all.ReadErr.TheVariants as reading

-- what a shelf tells of one name: nothing, that there is no such file, or the file's bytes
pub data Told : Type 0 where
  untold : Told
  absent : Told
  holds : List ℕ → Told

-- a refusal has a cause: there is no such file, or the count of faults rose, last for this name where that is told
abbrev pub Faulted : Told → List ℕ → ℕ → ℕ → Option (List ℕ) → Type 0
Faulted told name before now last = (told ≡ absent) ⊎ (Rose before now × IfSome last (λ n. n ≡ name))

-- the count never falls, stays for a name that is absent, and has the cause of a call that failed
pub record HasFault (told : Told) (name : List ℕ) (before now : ℕ) (last : Option (List ℕ))
    (Fails : Type 0) : Type 0 where
  pub later : before ≤ now
  pub failed : Fails → Faulted told name before now last
  pub absent : told ≡ absent → now ≡ before

-- these bytes are what the file has from this place on, and there are none only at or past its end
pub record Fetches (file : List ℕ) (from : ℕ) (given : List ℕ) : Type 0 where
  pub bytes : given ≡ take (length given) (drop from file)
  pub end : length given ≡ 0 → length file ≤ from

-- there is such a file where the shelf tells, and what it tells of the bytes holds
pub record IfHolds (told : Told) (P : List ℕ → Type 0) : Type 0 where
  pub present : told ≡ absent → ⊥
  pub bytes : (file : List ℕ) → told ≡ holds file → P file

-- what a whole read answers: the file's bytes where they are at most so many, too large exactly where they are more
abbrev pub ReadAnswers : Told → ℕ → Result (Vec ℕ Global) ReadErr → Type 0
ReadAnswers told limit (Ok v) = (vec_len v ≤ limit) × IfHolds told (λ file. v.items ≡ file)
ReadAnswers told limit (Err reading.TooLarge) = IfHolds told (λ file. limit < length file)
ReadAnswers told limit (Err reading.Failed) = Unit {0}
ReadAnswers told limit (Err reading.NoMemory) = Unit {0}

-- why a file wasn't read, by why its fetch failed
abbrev pub read_err_of : FetchErr → ReadErr
read_err_of fetching.Failed = reading.Failed
read_err_of fetching.NoMemory = reading.NoMemory
