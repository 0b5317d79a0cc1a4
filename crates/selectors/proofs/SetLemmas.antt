use Rattle.std.proofs.Common.{◌≡◌, ℕ, suc, ◌<◌, ◌≤◌, Bool, true, false, ◌||◌, ◌&&◌, eqb, ltb, max, sym, ◌∙◌, arith, ◌^◌, ◌*◌, ◌%◌, ◌≢◌, w16, inl, inr, length}
use Rattle.std.specs.Prelude.{bit_or}
use Rattle.std.specs.Int.{bit_at}
use Rattle.std.proofs.lemmas.Bool.Decides.{nat_tests}
use Rattle.std.proofs.lemmas.Nat.Bits.{bit_at-zero, bit_at_or, bit_at-lt, bit_at_set_same, bit_at_set_other}
use Rattle.std.proofs.lemmas.Bool.{cases_lt, lt-ltb, le-ltb}
use Rattle.std.proofs.lemmas.Option.{slice_get_past}
use Rattle.selectors.specs.declared.types.Join.{Join}
use Rattle.selectors.specs.Match.{Tree, fits, joins_by}
use Rattle.selectors.specs.Selectors.{SelectorView}
use Rattle.selectors.specs.Sets.{has}

pub has_none : (k : ℕ) → has 0 k ≡ false
unfolding has
has_none k = rw (bit_at-zero k)

either_one : (a b : ℕ) → a < 2 → b < 2 → eqb (max a b) 1 ≡ (eqb a 1 || eqb b 1)
either_one a b small small' = grind (arith, nat_tests)

pub has_union : (a b k : ℕ) → has (bit_or a b) k ≡ (has a k || has b k)
unfolding has
has_union a b k = rw (bit_at_or a b k) (either_one (bit_at a k) (bit_at b k) (bit_at-lt a k) (bit_at-lt b k))

pub has_with : (set k : ℕ) → k < 16 → has (bit_or set (1 * 2 ^ k % 65536)) k ≡ true
unfolding has
has_with set k within = rw (bit_at_set_same w16 set k within)

pub has_other : (set k j : ℕ) → k < 16 → j ≢ k → has (bit_or set (1 * 2 ^ k % 65536)) j ≡ has set j
unfolding has
has_other set k j within other = rw (bit_at_set_other w16 set k within j other)

-- what holds of the numbers below a bound, where the rest has nothing
pub bounded : (f g : ℕ → Bool) (n : ℕ) → ((k : ℕ) → f k ≡ (ltb k n && g k)) → ((k : ℕ) → n ≤ k → g k ≡ false) → (k : ℕ) → f k ≡ g k
bounded f g n is past k = elim (cases_lt k n) [
  | inl within ↦ is k ∙ rw (lt-ltb k n within)
  | inr above ↦ is k ∙ rw (le-ltb k n above) (sym (past k above))
]

pub fits_past : (dom : Tree) (s : SelectorView) (k n : ℕ) → length s.parts ≤ k → fits dom s k n ≡ false
unfolding fits
fits_past dom s k n past = rw (slice_get_past s.parts k past)

pub joins_past : (s : SelectorView) (join : Join) (k : ℕ) → length s.joins ≤ k → joins_by s join k ≡ false
unfolding joins_by
joins_past s join k past = rw (slice_get_past s.joins k past)

pub bounded_suc : (f g : ℕ → Bool) (n : ℕ) → ((k : ℕ) → f k ≡ (ltb (suc k) n && g k)) → ((k : ℕ) → n ≤ suc k → g k ≡ false) → (k : ℕ) → f k ≡ g k
bounded_suc f g n is past k = elim (cases_lt (suc k) n) [
  | inl within ↦ is k ∙ rw (lt-ltb (suc k) n within)
  | inr above ↦ is k ∙ rw (le-ltb (suc k) n above) (sym (past k above))
]
