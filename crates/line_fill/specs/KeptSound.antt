-- What is true of kept lines at all times.
use Rattle.std.specs.Prelude.{◌≡◌, ℕ, List, Option, Some, length, slice_get, nat_eq}
use Rattle.std.specs.HashMap.{get}
use Rattle.line_fill.specs.KeptLines.{AreRising}
use Rattle.line_fill.specs.KeptSearch.{AreChained, ArePrinted, IsLast}
use Rattle.line_fill.specs.declared.kept.KeptLeaf.{KeptLeaf}
use Rattle.line_fill.specs.declared.kept.Kept.TheInside.{Inside}
use Rattle.line_fill.specs.Keys.{key_in}

-- each leaf stands once at a measure and is found by its print, and its lines are in order
pub record IsSoundBy (leaves : List KeptLeaf) (last : ℕ → Option ℕ) : Type 0 where
  pub chained : AreChained leaves
  pub printed : ArePrinted leaves
  pub lasts : (p : ℕ) → IsLast leaves (length leaves) p (last p)
  pub rising : (i : ℕ) (x : KeptLeaf) → slice_get leaves i ≡ Some x → AreRising x.lines.items
  pub once : (i j : ℕ) (x y : KeptLeaf) → slice_get leaves i ≡ Some x → slice_get leaves j ≡ Some y →
      key_in x ≡ key_in y → x.measure ≡ y.measure → i ≡ j

-- what holds of the fields at any time
abbrev pub IsSound : Inside → Type 0
IsSound k = IsSoundBy k.leaves.items (λ q. get nat_eq k.lasts q)
