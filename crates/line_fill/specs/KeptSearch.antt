-- How the lines of a leaf are found: those whose texts have the same print are chained, from the last on.
use Rattle.std.specs.Prelude.{◌≡◌, ◌≢◌, ℕ, ◌<◌, List, Option, Some, None, slice_get}
use Rattle.line_fill.specs.declared.kept.KeptLeaf.{KeptLeaf}
use Rattle.line_fill.specs.Keys.{key_in, print_of}

-- the last of the first n leaves whose print is p
abbrev pub IsLast : List KeptLeaf → ℕ → ℕ → Option ℕ → Type 0
IsLast leaves n p None = (j : ℕ) (x : KeptLeaf) → j < n → slice_get leaves j ≡ Some x → x.print ≢ p
IsLast leaves n p (Some i) = (x : KeptLeaf) × (i < n) × (slice_get leaves i ≡ Some x) × (x.print ≡ p) ×
    ((j : ℕ) (y : KeptLeaf) → i < j → j < n → slice_get leaves j ≡ Some y → y.print ≢ p)

-- each leaf has the last one before it with the same print
abbrev pub AreChained : List KeptLeaf → Type 0
AreChained leaves = (i : ℕ) (x : KeptLeaf) → slice_get leaves i ≡ Some x → IsLast leaves i x.print x.before

-- each leaf has its print
abbrev pub ArePrinted : List KeptLeaf → Type 0
ArePrinted leaves = (i : ℕ) (x : KeptLeaf) → slice_get leaves i ≡ Some x →
    x.print ≡ print_of (key_in x) x.measure
