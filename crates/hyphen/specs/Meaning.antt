-- What patterns stand for: the value of each place of each word.
use Rattle.std.specs.Prelude.{◌≡◌, ℕ, List, Result, Ok, Err, MatchResult}
use Rattle.hyphen.specs.declared.fault.PatErr.{PatErr}
use Rattle.hyphen.specs.declared.fault.PatErr.TheVariants as fault
use Rattle.hyphen.specs.declared.patterns.Patterns.{Patterns}
use Rattle.hyphen.specs.Fields.{two_values}
use Rattle.hyphen.specs.Pattern.{Pattern, value_at}
use Rattle.hyphen.specs.Pieces.{pieces_value}

-- the value that patterns give a place of a word
unfoldable pub value_in : Patterns → List ℕ → ℕ → ℕ
value_in p word place = pieces_value (two_values p.anywhere p.at_start) word place

-- patterns that were read give each place of each word the greatest value that a pattern of the text puts there, and a
-- bad line is the first; memory may run out
abbrev pub IsReading : Result (List Pattern) ℕ → Result Patterns PatErr → Type 0
IsReading said (Ok p) =
    MatchResult said (λ ps. (word : List ℕ) (place : ℕ) → value_in p word place ≡ value_at ps word place) (λ _. ⊥)
IsReading said (Err (fault.Line n)) = said ≡ Err n
IsReading said (Err fault.NoMemory) = Unit {0}
