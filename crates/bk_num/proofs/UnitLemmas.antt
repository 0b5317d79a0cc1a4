-- Rounding and clamping keep the order, and what isn't below 0.
use Rattle.std.proofs.Common.{◌≡◌, ℕ, ◌*◌, ◌^◌, ◌<◌, ◌≤◌, ◌/◌, ℤ, pos, negsuc, ◌≤ℤ◌, ◌+ℤ◌, ◌*ℤ◌, unsigned_abs, arith, rules}
use Rattle.std.proofs.lemmas.Int.{ints, clamps}
use Rattle.std.proofs.Math.Nat.{div-mul-le_self}
use Rattle.std.proofs.lemmas.Nat.{le-div}
use Rattle.bk_num.specs.Units.{clamped, floor_div, rounded}
use Rattle.bk_num.specs.Numbers.{Number}
use Rattle.bk_num.specs.Lengths.{part}

pub clamped-order : (x y : ℤ) → x ≤ℤ y → clamped x ≤ℤ clamped y
unfolding clamped
clamped-order x y h = omega (arith, ints, clamps)

pub clamped-small : (x : ℤ) → unsigned_abs x ≤ 2 ^ 27 → clamped x ≡ x
unfolding clamped
clamped-small x h = grind (arith, ints)

pub clamped-bounds : (x : ℤ) → unsigned_abs (clamped x) ≤ 2 ^ 27
unfolding clamped
clamped-bounds x = grind (arith, ints)

div-order : (a b d : ℕ) → 0 < d → a ≤ b → a / d ≤ b / d
div-order a b d h e = let low : a / d * d ≤ a = div-mul-le_self a d in le-div (a / d) b d h (omega arith)

floor-order : (x y : ℤ) (d : ℕ) → 0 < d → x ≤ℤ y → floor_div x d ≤ℤ floor_div y d
floor-order (pos a) (pos b) d h k = let e : a ≤ b = omega (arith, ints) in omega (arith, ints, div-order a b d h e)
floor-order (pos a) (negsuc b) d h k = absurd (omega (arith, ints))
floor-order (negsuc a) (pos b) d h k = omega (arith, ints)
floor-order (negsuc a) (negsuc b) d h k = let e : b ≤ a = omega (arith, ints) in omega (arith, ints, div-order b a d h e)

pub rounded-order : (x y : ℤ) (d : ℕ) → 0 < d → x ≤ℤ y → rounded x d ≤ℤ rounded y d
unfolding rounded
rounded-order x y d h k = floor-order (pos 2 *ℤ x +ℤ pos d) (pos 2 *ℤ y +ℤ pos d) (2 * d) (omega arith) (omega (arith, ints))

-- ---- what isn't below 0

pub times-least : (a b : ℤ) → pos 0 ≤ℤ a → pos 0 ≤ℤ b → pos 0 ≤ℤ (a *ℤ b)
times-least (pos a) (pos b) h g = omega (arith, ints)
times-least (pos a) (negsuc b) h g = absurd (omega (arith, ints))
times-least (negsuc a) b h g = absurd (omega (arith, ints))

pub rounded-least : (n : ℤ) (d : ℕ) → pos 0 ≤ℤ n → pos 0 ≤ℤ rounded n d
unfolding rounded
rounded-least (pos n) d h = search (rules, ints)
rounded-least (negsuc n) d h = absurd (omega (arith, ints))

pub clamped-least : (z : ℤ) → pos 0 ≤ℤ z → pos 0 ≤ℤ clamped z
unfolding clamped
clamped-least z h = omega (arith, ints, clamps)

pub part-least : (d : Number) (base : ℤ) (den : ℕ) → pos 0 ≤ℤ d.units → pos 0 ≤ℤ base → pos 0 ≤ℤ part d base den
part-least d base den h g =
    clamped-least (rounded (d.units *ℤ base) (10 ^ d.places * den))
    (rounded-least (d.units *ℤ base) (10 ^ d.places * den) (times-least d.units base h g))
