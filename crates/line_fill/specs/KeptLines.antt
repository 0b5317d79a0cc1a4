-- The lines of a leaf at a measure, in order.
use Rattle.std.specs.Prelude.{◌≡◌, ◌≢◌, ◌⊎◌, ℕ, ◌<◌, ◌≤◌, List, Option, Some, None, length, slice_get, Bool, true, false}
use Rattle.boxes.specs.Lines.{LineView}
use Rattle.line_fill.specs.declared.lines.KeptLine.{KeptLine}
use Rattle.line_fill.specs.declared.lines.Pass.{Pass}
use Rattle.line_fill.specs.declared.lines.Pass.TheVariants.{Now, Before, Ahead}

-- each line begins after the one before it
abbrev pub AreRising : List KeptLine → Type 0
AreRising lines = (i j : ℕ) (a b : KeptLine) → i < j → slice_get lines i ≡ Some a → slice_get lines j ≡ Some b →
    a.line.from < b.line.from

-- the place of the first line that begins at an offset or after it
pub record IsPlace (lines : List KeptLine) (from place : ℕ) : Type 0 where
  pub within : place ≤ length lines
  pub before : (k : ℕ) (a : KeptLine) → k < place → slice_get lines k ≡ Some a → a.line.from < from
  pub after : (k : ℕ) (a : KeptLine) → place ≤ k → slice_get lines k ≡ Some a → from ≤ a.line.from

-- the line at a place, if it begins at an offset
abbrev pub IsFound : List KeptLine → ℕ → ℕ → Option KeptLine → Type 0
IsFound lines place from None = (a : KeptLine) → slice_get lines place ≡ Some a → a.line.from ≢ from
IsFound lines place from (Some a) = (slice_get lines place ≡ Some a) × (a.line.from ≡ from)

-- whether a pass is this one
abbrev pub is_this : Pass → Bool
is_this Now = true
is_this Before = false
is_this Ahead = false

-- whether a pass is this one or the one before
abbrev pub is_past : Pass → Bool
is_past Now = true
is_past Before = true
is_past Ahead = false

-- whether this pass asked for a line
abbrev pub is_now : KeptLine → Bool
is_now line = is_this line.pass

-- whether this pass or the one before asked for it
abbrev pub is_asked : KeptLine → Bool
is_asked line = is_past line.pass

-- a line of the pass before
abbrev pub before_of : KeptLine → KeptLine
before_of line = record line { pass = Before }

-- lines are put that no pass asked for yet, each with a property, beside those that stand
pub record PutsAhead (Chosen : LineView → Type 0) (old new : List KeptLine) : Type 0 where
  pub rising : AreRising new
  pub stays : (k : ℕ) (l : KeptLine) → slice_get old k ≡ Some l → (j : ℕ) × (slice_get new j ≡ Some l)
  pub comes : (k : ℕ) (l : KeptLine) → slice_get new k ≡ Some l →
      ((j : ℕ) × (slice_get old j ≡ Some l)) ⊎ ((is_asked l ≡ false) × Chosen l.line)
