-- The winner of each longhand among declarations (CSS 2.1, 6.4).
use Rattle.std.specs.Prelude.{◌≡◌, ◌<◌, ℕ, false, List, Some, slice_get}
use Rattle.style.specs.declared.long.Long.{Long}
use Rattle.cascade.specs.Weights.{is_above}
use Rattle.cascade.specs.Candidates.{Declared, slot_of}

-- a declaration of a longhand than which none is greater
pub record IsWinner (IsThere : Declared → Type 0) (slot : ℕ) (d : Declared) : Type 0 where
  pub there : IsThere d
  pub of_slot : slot_of d.long ≡ slot
  pub greatest : (e : Declared) → IsThere e → slot_of e.long ≡ slot → is_above e.weight d.weight ≡ false

-- The longhands that win: each entry wins for its longhand, each longhand that is declared has an entry, and they stand
-- in the order of the longhands.
pub record AreWinners (IsThere : Declared → Type 0) (longs : List Long) : Type 0 where
  pub each :
      (k : ℕ) (long : Long) → slice_get longs k ≡ Some long →
      (d : Declared) × (d.long ≡ long) × IsWinner IsThere (slot_of long) d
  pub all :
      (e : Declared) → IsThere e → (k : ℕ) × (long : Long) × (slice_get longs k ≡ Some long) ×
      (slot_of long ≡ slot_of e.long)
  pub ordered :
      (j k : ℕ) (a b : Long) → j < k → slice_get longs j ≡ Some a → slice_get longs k ≡ Some b → slot_of a < slot_of b
