-- Numbers, a digit at a time.
use Rattle.std.proofs.Common.{◌≡◌, ℕ, zero, suc, ◌+◌, ◌-◌, ◌*◌, ◌<◌, ◌≤◌, min, List, [], ◌∷◌, drop, length, get_or, refl, arith}
use Rattle.bk_num.specs.Written.{most_whole}
use Rattle.selectors.specs.AnPlusB.{number_from}

pub number_step : (n : ℕ) (ds : List ℕ) (at : ℕ) → at < length ds → number_from n (drop at ds) ≡ number_from (min most_whole (n * 10 + (get_or ds at 0 - 48))) (drop (at + 1) ds)
unfolding number_from
number_step n [] at within = absurd (omega arith)
number_step n (d ∷ ds) zero within = refl
number_step n (d ∷ ds) (suc at) within = let e : suc at + 1 ≡ suc (at + 1) = omega arith in rw e (number_step n ds at (omega arith))

pub number_end : (n : ℕ) (ds : List ℕ) (at : ℕ) → length ds ≤ at → number_from n (drop at ds) ≡ n
unfolding number_from
number_end n [] zero past = refl
number_end n [] (suc at) past = refl
number_end n (d ∷ ds) zero past = absurd (omega arith)
number_end n (d ∷ ds) (suc at) past = number_end n ds at (omega arith)
