-- Lines in order.
use Rattle.std.proofs.Common.{◌≡◌, ℕ, ◌<◌, ◌≤◌, ◌⊎◌, inl, inr, List, get_or, length, arith, subst}
use Rattle.std.specs.List.Sorted.{IsNonDecreasingBy}
use Rattle.std.proofs.lemmas.Bool.{cases_lt}
use Rattle.std.proofs.lemmas.Option.{slice_get-get_or}
use Rattle.line_fill.specs.KeptLines.{AreRising}
use Rattle.line_fill.specs.declared.lines.KeptLine.{KeptLine}

pub line_rise : (xs : List KeptLine) → AreRising xs → IsNonDecreasingBy (λ (x : KeptLine). x.line.from) xs
line_rise xs up = λ i j d h l. by i j d h l (cases_lt i j)
  where
    by : (i j : ℕ) (d : KeptLine) → i ≤ j → j < length xs → (i < j) ⊎ (j ≤ i) → (get_or xs i d).line.from ≤ (get_or xs j d).line.from
    by i j d h l (inl lt) = let t : (get_or xs i d).line.from < (get_or xs j d).line.from = up i j (get_or xs i d) (get_or xs j d) lt (slice_get-get_or xs i d (omega arith)) (slice_get-get_or xs j d l) in omega arith
    by i j d h l (inr ge) = let e : i ≡ j = omega arith in subst (λ (k : ℕ). (get_or xs i d).line.from ≤ (get_or xs k d).line.from) e (omega arith)
