-- What a put does to the bytes taken, and its cause of failing.
use Rattle.std.specs.Prelude.{ℕ, ◌≤◌, ◌<◌, List, length, take, OnErr, IfOk, MatchResult, Result, Option}
use Rattle.std.specs.Io.KnownBytes.{Appends}
use Rattle.bk_io.specs.Causes.{Rose}

-- at least one byte of a piece that isn't empty is taken, and at most all
pub record Takes {E : Type 0} (piece : List ℕ) (result : Result ℕ E) : Type 0 where
  pub most : IfOk result (λ n. n ≤ length piece)
  pub least : 0 < length piece → IfOk result (λ n. 0 < n)

-- the count never falls, and a refusal comes only where it rose
pub record HasCause {T E : Type 0} (before now : ℕ) (result : Result T E) : Type 0 where
  pub later : before ≤ now
  pub failed : OnErr result (Rose before now)

-- all was appended, or a part of it from its start
abbrev pub AppendsAllOrPrefix : {E : Type 0} → Option (List ℕ) → Option (List ℕ) → List ℕ → Result Unit E → Type 0
AppendsAllOrPrefix old new bytes result =
    MatchResult result (λ _. Appends old new bytes) (λ _. (n : ℕ) × Appends old new (take n bytes))
