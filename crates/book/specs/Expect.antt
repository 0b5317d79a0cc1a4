-- What is expected of a run: nothing, where the shelf doesn't tell; a refusal; or a value.
use Rattle.std.specs.Prelude.{◌≡◌}
use Rattle.book.specs.declared.outcome.Outcome.{Outcome}
use Rattle.book.specs.declared.outcome.Outcome.TheVariants.{NoMemory}

-- what is expected: anything, a refusal, or a value
pub data Expect (A : Type 0) : Type 0 where
  free : Expect A
  refused : Outcome → Expect A
  given : A → Expect A

-- the next step, where the step before gave a value
infixl 10 ◌>>=◌
abbrev pub ◌>>=◌ : {A B : Type 0} → Expect A → (A → Expect B) → Expect B
free >>= f = free
(refused o) >>= f = refused o
(given x) >>= f = f x

-- this value is the one that is expected
abbrev pub IsGiven : {A : Type 0} → Expect A → A → Type 0
IsGiven free x = Unit {0}
IsGiven (refused o) x = ⊥
IsGiven (given y) x = x ≡ y

-- this refusal is the one that is expected
abbrev pub IsRefused : {A : Type 0} → Expect A → Outcome → Type 0
IsRefused free o = Unit {0}
IsRefused (refused p) o = o ≡ p
IsRefused (given y) o = ⊥

-- the same, but want of memory is free
abbrev pub IsRefusedUnlessMemory : {A : Type 0} → Expect A → Outcome → Type 0
IsRefusedUnlessMemory e NoMemory = Unit {0}
IsRefusedUnlessMemory e o = IsRefused e o
