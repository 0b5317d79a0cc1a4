-- What is kept of a page's solids once the seam before the next one is seen.
use Rattle.std.specs.Prelude.{◌≡◌, ℕ, ℤ, ◌≤◌, List, [], ◌∷◌, ◌++◌, Option, None, Some, Bool, true}
use Rattle.cuts.specs.declared.row.SolidRow.{SolidRow}
use Rattle.cuts.specs.declared.look.Look.{Look}
use Rattle.cuts.specs.Cuts.{NoteLists}
use Rattle.cuts.specs.Prefixes.{HasFitted, HasMissed, IsGoing}
use Rattle.cuts.specs.Rows.{is_joined}

-- no point is known to have no room, the next solid's included, and its widows count with those of its leaf's lines
pub record SeesOn (kept : Bool) (height : ℤ) (list : NoteLists) (c : ℕ) (rows : List SolidRow) (r : SolidRow)
    (old new : Look) : Type 0 where
  pub going : IsGoing kept height list c rows old
  pub own : r.widows ≤ new.least
  pub more : is_joined r ≡ true → old.least ≤ new.least
  pub fitted : new.fitted ≡ true → HasFitted kept height list c (rows ++ r ∷ [])

-- what is kept then, before and after a point without room
abbrev pub seen_by : Bool → ℤ → NoteLists → ℕ → List SolidRow → SolidRow → Look → Look → Option ℕ → Type 0
seen_by kept height list c rows r old new None = SeesOn kept height list c rows r old new
seen_by kept height list c rows r old new (Some left) = HasMissed kept height list c (rows ++ r ∷ []) left

-- what is kept then
abbrev pub HasSeen : Bool → ℤ → NoteLists → ℕ → List SolidRow → SolidRow → Look → Look → Type 0
HasSeen kept height list c rows r old new = seen_by kept height list c rows r old new new.left
