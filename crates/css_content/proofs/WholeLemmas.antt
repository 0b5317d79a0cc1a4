-- A number without decimals is at most its greatest integer part.
use Rattle.std.proofs.Common.{◌≡◌, ℕ, ◌≤◌, Bool, true, false, List, [], ◌∷◌, length, unsigned_abs, arith}
use Rattle.bk_num.specs.Written.{most_whole}
use Rattle.css_tok.specs.Numbers.{decimal_of, scaled, signed, is_minus, unsigned, digits_at, decimals}

scaled_small : (ds part : List ℕ) → length part ≡ 0 → scaled ds part ≤ most_whole
scaled_small ds [] e = omega arith
scaled_small ds (b ∷ bs) e = absurd (omega arith)

signed_small : (m : Bool) (n : ℕ) → n ≤ most_whole → unsigned_abs (signed m n) ≤ most_whole
signed_small true n h = grind arith
signed_small false n h = h

pub whole_small : (bs : List ℕ) → (decimal_of bs).places ≡ 0 → unsigned_abs (decimal_of bs).units ≤ most_whole
unfolding decimal_of
whole_small bs e = signed_small (is_minus bs) _ (scaled_small (digits_at (unsigned bs)) (decimals (unsigned bs)) e)
