-- The patterns text: its lines, and the patterns that they spell or the first line that has no reading.
use Rattle.std.specs.Prelude.{ℕ, ◌+◌, ◌-◌, Bool, not, List, [], ◌∷◌, ◌++◌, length, take, drop, nat_le, ◌==◌, ◌&&◌, ◌||◌, if◌then◌else◌, cond, slice_index, Option, Some, None, Result, Ok, Err, is_some, unwrap_or}
use Rattle.std.specs.List.{list_all}
use Rattle.std.specs.Char.{is_ascii_digit}
use Rattle.std.specs.Str.{chars}
use Rattle.std.specs.Str.Lines.{lines}
use Rattle.hyphen.specs.Pattern.{Pattern}

-- spaces and tabs
unfoldable pub is_blank : ℕ → Bool
is_blank c = c == 32 || c == 9

-- white space
unfoldable pub is_white : ℕ → Bool
is_white c = is_blank c || c == 10 || c == 12 || c == 13

-- a letter: any character but white space, digits and the dot
unfoldable pub is_letter : ℕ → Bool
is_letter c = not (is_white c || is_ascii_digit c || c == 46)

-- a line without the blanks at its end
unfoldable pub trimmed : List ℕ → List ℕ
trimmed [] = []
trimmed (c ∷ cs) = if list_all is_blank (c ∷ cs) then [] else c ∷ trimmed cs

-- letters, with a value before each and after the last
pub record Marks : Type 0 where
  pub letters : List ℕ
  pub values : List ℕ

-- one more letter before others, after its value
unfoldable pub with_letter : ℕ → ℕ → Option Marks → Option Marks
with_letter v c None = None
with_letter v c (Some m) = Some (record { letters = c ∷ m.letters; values = v ∷ m.values })

-- the letters that these characters spell, each after at most one digit, the last before at most one; a digit may have
-- been read before
unfoldable pub marks_of : Option ℕ → List ℕ → Option Marks
marks_of d [] = Some (record { letters = []; values = unwrap_or d 0 ∷ [] })
marks_of d (c ∷ cs) =
    if is_ascii_digit c then (if is_some d then None else marks_of (Some (c - 48)) cs)
    else if is_letter c then with_letter (unwrap_or d 0) c (marks_of None cs) else None

-- the pattern of these letters, of which there are 1 to 32
unfoldable pub anchored : Bool → Bool → Option Marks → Option Pattern
anchored starts ends None = None
anchored starts ends (Some m) = if nat_le 1 (length m.letters) && nat_le (length m.letters) 32
    then Some (record { starts = starts; letters = m.letters; values = m.values; ends = ends })
    else None

-- 1 where it holds
abbrev pub one_if : Bool → ℕ
one_if b = cond b 1 0

-- whether a dot begins a line
unfoldable pub has_front_dot : List ℕ → Bool
has_front_dot cs = slice_index cs 0 == 46

-- whether a dot ends a line
unfoldable pub has_end_dot : List ℕ → Bool
has_end_dot cs = slice_index cs (length cs - 1) == 46

-- what stands before a dot at the end
unfoldable pub before_end_dot : List ℕ → List ℕ
before_end_dot cs = take (length cs - one_if (has_end_dot cs)) cs

-- what stands after a dot at the front
unfoldable pub after_front_dot : List ℕ → List ℕ
after_front_dot cs = drop (one_if (has_front_dot cs)) cs

-- the pattern that a line spells, if it has a reading: a dot or none, the letters and values, a dot or none
unfoldable pub pattern_of : List ℕ → Option Pattern
pattern_of cs = anchored (has_front_dot cs) (has_end_dot (after_front_dot cs))
    (marks_of None (before_end_dot (after_front_dot cs)))

-- whether a line is skipped: it is blank, or a `#` or `%` begins it
unfoldable pub is_skipped : List ℕ → Bool
is_skipped cs = length (trimmed cs) == 0 || slice_index cs 0 == 35 || slice_index cs 0 == 37

-- the patterns that a line has, one or none, if it has a reading
unfoldable pub single : Option Pattern → Option (List Pattern)
single None = None
single (Some p) = Some (p ∷ [])

unfoldable pub entry_of : List ℕ → Option (List Pattern)
entry_of cs = if is_skipped cs then Some [] else single (pattern_of (trimmed cs))

-- the patterns of a line of a number and of those after it, or the first of them without a reading
unfoldable pub with_entry : ℕ → Option (List Pattern) → Result (List Pattern) ℕ → Result (List Pattern) ℕ
with_entry n None r = Err n
with_entry n (Some ps) (Ok qs) = Ok (ps ++ qs)
with_entry n (Some ps) (Err m) = Err m

-- the patterns of these lines, of which the first has this number, or the first line that has no reading
unfoldable pub patterns_from : ℕ → List (List ℕ) → Result (List Pattern) ℕ
patterns_from n [] = Ok []
patterns_from n (line ∷ rest) = with_entry n (entry_of (chars line)) (patterns_from (n + 1) rest)

-- the patterns of a text, or the number of the first line that has no reading; lines end with LF, and a CR before it is
-- dropped
unfoldable pub patterns_of : List ℕ → Result (List Pattern) ℕ
patterns_of text = patterns_from 1 (lines text)
