-- How much of a page is read: behind the first solid that ends below the frame, few lines (css-break-3, 4.4).
use Rattle.std.specs.Prelude.{◌≡◌, ℕ, suc, ℤ, ◌+◌, ◌<◌, ◌≤◌, ◌<ℤ◌, List, [], ◌∷◌, Option, None, Some, Bool, true, false, length, max, slice_get, take, if◌then◌else◌}
use Rattle.cuts.specs.declared.row.SolidRow.{SolidRow}
use Rattle.cuts.specs.declared.look.Look.{Look}
use Rattle.cuts.specs.Prefixes.{is_break}
use Rattle.cuts.specs.Rows.{rows_bottom}

-- the bottom of a solid is below the frame
abbrev pub IsOver : Bool → List SolidRow → ℤ → ℕ → Type 0
IsOver kept rows height m = (m < length rows) × (height <ℤ rows_bottom kept rows (suc m))

-- behind a solid whose bottom is below the frame no break point stands before a place
abbrev pub IsQuiet : Bool → ℤ → List SolidRow → ℕ → Type 0
IsQuiet kept height rows to = (m k : ℕ) (r : SolidRow) → IsOver kept rows height m → m < k → k < to →
    slice_get rows k ≡ Some r → is_break r ≡ false

-- where each point had room so far, no break point stands behind a solid below the frame; else none does before the
-- point without room, and from there on as many solids are read, or will be with `left` more, as widows ask for, at
-- least one
abbrev pub short_by : Bool → ℤ → ℕ → List SolidRow → Option ℕ → Type 0
short_by kept height widest rows None = IsQuiet kept height rows (length rows)
short_by kept height widest rows (Some left) = (j : ℕ) × (j < length rows) ×
    (length rows + left ≤ j + max 1 widest) × IsQuiet kept height rows j

-- no more is read of a page than may be, where no block asks for more than `widest` widows
pub record IsShort (kept : Bool) (height : ℤ) (widest : ℕ) (rows : List SolidRow) (l : Look) : Type 0 where
  pub least : l.least ≤ widest
  pub short : short_by kept height widest rows l.left

-- how many of some solids are lines, by a flag for each
abbrev pub count_of : List Bool → ℕ
count_of [] = 0
count_of (b ∷ flags) = (if b then 1 else 0) + count_of flags

-- between two lines stands a break point
abbrev pub AreParted : List SolidRow → List Bool → Type 0
AreParted rows flags = (i k : ℕ) → i < k → slice_get flags i ≡ Some true → slice_get flags k ≡ Some true →
    (at : ℕ) × (i < at) × (at ≤ k) × ((r : SolidRow) → slice_get rows at ≡ Some r → is_break r ≡ true)

-- of a page with a solid below the frame at most so many lines are read: those before that solid, the next one, and one
-- more than widows ask for
abbrev pub ReadsFew : Type 0
ReadsFew = (kept : Bool) (height : ℤ) (widest : ℕ) (rows : List SolidRow) (flags : List Bool) (l : Look) (m : ℕ) →
    length flags ≡ length rows → AreParted rows flags → IsShort kept height widest rows l → IsOver kept rows height m →
    count_of flags ≤ count_of (take m flags) + 1 + (widest + 1)
