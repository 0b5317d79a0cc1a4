use Rattle.std.proofs.Common.{◌≡◌, ℕ, zero, suc, ◌+◌, ◌<◌, ◌≤◌, true, List, [], ◌∷◌, drop, length, get_or, refl, arith, length-drop, drop-drop}
use Rattle.css_tok.specs.declared.lengths.Class.{Class}
use Rattle.css_tok.specs.declared.lengths.Class.TheVariants as class
use Rattle.css_tok.specs.Lengths.{unit_len, run_from, run_len, is_blank}

-- what is left of a unit is passed
pub run_from-drop : (c : Class) (n : ℕ) (bs : List ℕ) → n ≤ length bs → run_from c n bs ≡ n + run_len c (drop n bs)
unfolding run_from
run_from-drop c zero bs h = grind arith
run_from-drop c (suc n) [] h = absurd (omega arith)
run_from-drop c (suc n) (b ∷ bs) h = rw (run_from-drop c n bs (omega arith)) (omega arith)

-- a run goes on after its first unit
run_step : (c : Class) (u b : ℕ) (bs : List ℕ) → unit_len c (b ∷ bs) ≡ u → 0 < u → u ≤ length (b ∷ bs) → run_len c (b ∷ bs) ≡ u + run_len c (drop u (b ∷ bs))
unfolding run_from
run_step c zero b bs is more within = absurd (omega arith)
run_step c (suc u) b bs is more within =
    let e : run_from c u bs ≡ u + run_len c (drop (suc u) (b ∷ bs)) = run_from-drop c u bs (omega arith) in
    rw (is, e) (omega arith)

pub run_goes : (c : Class) (bs : List ℕ) → 0 < unit_len c bs → unit_len c bs ≤ length bs → run_len c bs ≡ unit_len c bs + run_len c (drop (unit_len c bs) bs)
run_goes c [] more within = absurd (omega arith)
run_goes c (b ∷ bs) more within = run_step c (unit_len c (b ∷ bs)) b bs refl more within

pub run_ends : (c : Class) (bs : List ℕ) → unit_len c bs ≡ 0 → run_len c bs ≡ 0
unfolding run_from
run_ends c [] none = refl
run_ends c (b ∷ bs) none = rw none

-- a loop's step and its end
pub run_moves : (c : Class) (bs : List ℕ) (at unit : ℕ) → unit ≡ unit_len c (drop at bs) → 0 < unit → at + unit ≤ length bs → run_len c bs ≡ at + run_len c (drop at bs) → run_len c bs ≡ at + unit + run_len c (drop (at + unit) bs)
run_moves c bs at unit is more within passed =
    let fits : unit_len c (drop at bs) ≤ length (drop at bs) = omega (arith, length-drop at bs) in
    let moves : 0 < unit_len c (drop at bs) = omega arith in
    let step : run_len c (drop at bs) ≡ unit_len c (drop at bs) + run_len c (drop (unit_len c (drop at bs)) (drop at bs)) = run_goes c (drop at bs) moves fits in
    let next : drop unit (drop at bs) ≡ drop (at + unit) bs = drop-drop unit at bs in
    rw (← next) (rw is (omega (arith, passed, step)))

pub run_stops : (c : Class) (bs : List ℕ) (at : ℕ) → unit_len c (drop at bs) ≡ 0 → run_len c bs ≡ at + run_len c (drop at bs) → at ≡ run_len c bs
run_stops c bs at none passed = omega (arith, run_ends c (drop at bs) none)

pub run_some : (c : Class) (bs : List ℕ) → 0 < unit_len c bs → unit_len c bs ≤ length bs → 0 < run_len c bs
run_some c bs more within = omega (arith, run_goes c bs more within)

pub blank_run : (bs : List ℕ) → 0 < length bs → is_blank (get_or bs 0 0) ≡ true → 0 < run_len class.Blank bs
unfolding unit_len
blank_run [] some blank = absurd (omega arith)
blank_run (b ∷ bs) some blank =
    let is : unit_len class.Blank (b ∷ bs) ≡ 1 = rw blank in
    run_some class.Blank (b ∷ bs) (omega (arith, is)) (omega (arith, is))
