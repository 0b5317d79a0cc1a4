-- How much a line costs at most.
use Rattle.std.proofs.Common.{◌≡◌, ℕ, ◌+◌, ◌*◌, ◌^◌, ◌≤◌, ◌-ℤ◌, ◌≤ℤ◌, ℤ, pos, unsigned_abs, arith, List, length, Bool, true, false, cond, eqb, refl, inl, inr}
use Rattle.std.proofs.lemmas.Bool.{cond-true, cond-false, cond_both, eq-eqb, ne_eqb, cases_eq}
use Rattle.std.proofs.lemmas.Int.{ints, clamps}
use Rattle.std.proofs.Math.Nat.{mul-le-mul}
use Rattle.bk_num.specs.Numbers.{IsWithin}
use Rattle.total_fit.specs.declared.plan.Stop.{Stop}
use Rattle.total_fit.specs.declared.plan.Measures.{Measures}
use Rattle.total_fit.specs.Lines.{AreGoodMeasures, Fits, cost_of, hyphen_cost, measure_of, width_of, stop_of, square}

-- what is left of a measure
pub left-small : (measure width : ℤ) → IsWithin (2 ^ 41) measure → pos 0 ≤ℤ width → width ≤ℤ measure → unsigned_abs (measure -ℤ width) ≤ 2 ^ 41
left-small measure width good low fits = omega (arith, ints)

pub square-small : (n : ℕ) → n ≤ 2 ^ 41 → n * n ≤ 2 ^ 82
square-small n h = mul-le-mul h h

one_of-small : (b : Bool) → cond b 0 1048576 ≤ 1048576
one_of-small true = omega arith
one_of-small false = omega arith

pub hyphen-small : (hyphen : ℤ) → hyphen_cost hyphen ≤ 1048576
hyphen-small hyphen = one_of-small _

-- what a line costs that isn't the last
pub cost-before : (stops : List Stop) (measures : Measures) (i j : ℕ) → (j ≡ length stops → ⊥) →
    cost_of stops measures i j ≡ square (unsigned_abs (measure_of measures i -ℤ width_of stops i j)) + hyphen_cost (stop_of stops j).hyphen
unfolding cost_of
cost-before stops measures i j h = cond-false (eqb j (length stops)) _ _ (ne_eqb j (length stops) h)

pub cost-last : (stops : List Stop) (measures : Measures) (i : ℕ) → cost_of stops measures i (length stops) ≡ 0
unfolding cost_of
cost-last stops measures i = cond-true (eqb (length stops) (length stops)) _ _ (eq-eqb (length stops) (length stops) refl)

pub measure-good : (measures : Measures) (i : ℕ) → AreGoodMeasures measures → IsWithin (2 ^ 41) (measure_of measures i)
measure-good measures i good =
    cond_both (eqb i 0) measures.first measures.rest (λ (z : ℤ). IsWithin (2 ^ 41) z) (λ h. good.first) (λ h. good.rest)

pub width-low : (stops : List Stop) (i j : ℕ) → pos 0 ≤ℤ width_of stops i j
unfolding width_of
width-low stops i j = omega (arith, ints, clamps)

pub fits-at : (stops : List Stop) (measures : Measures) (i j : ℕ) → Fits stops measures i j → width_of stops i j ≤ℤ measure_of measures i
unfolding Fits
fits-at stops measures i j fits = fits

-- a line that fits costs at most 2^83
pub cost-small : (stops : List Stop) (measures : Measures) (i j : ℕ) → AreGoodMeasures measures → Fits stops measures i j →
    cost_of stops measures i j ≤ 2 ^ 83
cost-small stops measures i j good fits =
    elim (cases_eq j (length stops)) [
      | inl e ↦ rw e (rw cost-last (omega arith))
      | inr ne ↦ rw (cost-before stops measures i j ne)
          (let left = left-small _ _ (measure-good measures i good) (width-low stops i j) (fits-at stops measures i j fits) in
          let sq = square-small _ left in
          let hy = hyphen-small (stop_of stops j).hyphen in
          omega (arith, sq, hy))
    ]

-- a cost that is made of what is left and a hyphen's cost
pub cost-made : (stops : List Stop) (measures : Measures) (i j left hyphen : ℕ) → (j ≡ length stops → ⊥) →
    left ≡ unsigned_abs (measure_of measures i -ℤ width_of stops i j) → hyphen ≡ hyphen_cost (stop_of stops j).hyphen →
    left * left + hyphen ≡ cost_of stops measures i j
cost-made stops measures i j left hyphen ne l h = rw (cost-before stops measures i j ne, ← l, ← h) refl
