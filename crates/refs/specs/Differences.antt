-- Where two tables differ.
use Rattle.std.specs.Prelude.{◌≡◌, ◌≢◌, ℕ, List, slice_get, take}
use Rattle.gen_text.specs.declared.table.Entry.{Entry}

-- the first place at which two tables differ, in an entry or because one of them ends there: before it they are equal
pub record IsFirstDifference (a b : List Entry) (k : ℕ) : Type 0 where
  pub same : take k a ≡ take k b
  pub differ : slice_get a k ≢ slice_get b k

-- ---- laws

-- two tables have one first difference at most, and equal ones have none
pub record AreDifferences : Type 0 where
  pub one : (a b : List Entry) (i j : ℕ) → IsFirstDifference a b i → IsFirstDifference a b j → i ≡ j
  pub apart : (a b : List Entry) (k : ℕ) → IsFirstDifference a b k → a ≢ b
