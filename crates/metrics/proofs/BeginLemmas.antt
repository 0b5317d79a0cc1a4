-- Where the pairs of a first character begin, and what stands between two such places.
use Rattle.std.proofs.Common.{◌≡◌, ℕ, zero, suc, ◌+◌, ◌-◌, ◌<◌, ◌≤◌, pos, Bool, true, false, ltb, List, [], ◌∷◌, Some, length, length-drop, get_or, take, drop, refl, arith, ⊎_elim, ap, ◌∙◌, cond}
use Rattle.std.specs.List.{find, slice_range}
use Rattle.std.specs.List.Sorted.{IsNonDecreasingBy, IsPartitionPoint}
use Rattle.std.proofs.lemmas.Bool.{cases_lt}
use Rattle.std.proofs.lemmas.Bool.Decides.{nat_tests}
use Rattle.std.proofs.lemmas.List.{get_or-drop, get_or-take, length-take}
use Rattle.metrics.specs.declared.pair.KernPair.{KernPair}
use Rattle.metrics.specs.Face.{AreRising, is_later, is_pair_of}
use Rattle.metrics.specs.Table.{IsBegin}
use Rattle.metrics.proofs.PairLemmas.{far_pairs}

later_first : (p q : KernPair) → is_later p q ≡ true → p.first ≤ q.first
unfolding is_later
later_first p q h = grind (arith, nat_tests)

pub first_rises : (ps : List KernPair) → AreRising ps → IsNonDecreasingBy (λ (p : KernPair). p.first) ps
first_rises ps up i j d l h = ⊎_elim
    (λ (g : i < j). later_first (get_or ps i d) (get_or ps j d) (far_pairs ps up i j d g h))
    (λ (g : j ≤ i). let e : i ≡ j = omega arith in rw e (omega arith))
    (cases_lt i j)

pub begins_there : (ps : List KernPair) (first n : ℕ) → n ≤ length ps → IsPartitionPoint (λ (p : KernPair). ltb p.first first ≡ true) (λ (p : KernPair). ltb p.first first ≡ false) ps n → IsBegin ps first n
begins_there ps first n within point = record {
  within = within;
  point = (λ k d g h. let t : ltb (get_or ps k d).first first ≡ true = point.0 k d g h in grind (arith, nat_tests), λ k d g h. let t : ltb (get_or ps k d).first first ≡ false = point.1 k d g h in grind (arith, nat_tests));
}

-- elements that don't pass, before or behind what is sought, count nothing
find_drop : {X : Type 0} (p : X → Bool) (xs : List X) (n : ℕ) (d : X) → n ≤ length xs → ((k : ℕ) → k < n → p (get_or xs k d) ≡ false) → find p (drop n xs) ≡ find p xs
find_drop p xs zero d h none = refl
find_drop p [] (suc n) d h none = refl
find_drop p (x ∷ xs) (suc n) d h none =
    let no : p x ≡ false = none 0 (omega arith) in
    rw no (find_drop p xs n d (omega arith) (λ k l. none (suc k) (omega arith)))

find_take : {X : Type 0} (p : X → Bool) (xs : List X) (n : ℕ) (d : X) → ((k : ℕ) → n ≤ k → k < length xs → p (get_or xs k d) ≡ false) → find p (take n xs) ≡ find p xs
find_take p [] zero d none = refl
find_take p [] (suc n) d none = refl
find_take p (x ∷ xs) zero d none =
    let no : p x ≡ false = none 0 (omega arith) (omega arith) in
    rw no (find_take p xs zero d (λ k l h. none (suc k) (omega arith) (omega arith)))
find_take p (x ∷ xs) (suc n) d none = ap (λ o. cond (p x) (Some x) o) (find_take p xs n d (λ k l h. none (suc k) (omega arith) (omega arith)))

first_not : (first c : ℕ) (p : KernPair) → p.first < first → is_pair_of first c p ≡ false
unfolding is_pair_of
first_not first c p h = grind (arith, nat_tests)

first_past : (first c : ℕ) (p : KernPair) → first < p.first → is_pair_of first c p ≡ false
unfolding is_pair_of
first_past first c p h = grind (arith, nat_tests)

module _ (ps : List KernPair) (first from to : ℕ) (begin : IsBegin ps first from) (end : IsBegin ps (first + 1) to) where
  abbrev none : KernPair
  none = record { first = 0; second = 0; change = pos 0 }

  pub begins_rise : from ≤ to
  begins_rise = ⊎_elim
      (λ (g : to < from).
      let a : (get_or ps to none).first < first = begin.point.0 to none (omega arith) g in
      let b : first + 1 ≤ (get_or ps to none).first = end.point.1 to none (omega arith) (omega (arith, begin.within)) in
      absurd (omega arith))
      (λ (g : from ≤ to). g)
      (cases_lt to from)

  pub find_between : (c : ℕ) → find (is_pair_of first c) (slice_range ps from to) ≡ find (is_pair_of first c) ps
  find_between c =
      find_take (is_pair_of first c) (drop from ps) (to - from) none (λ k l h.
      let i : from + k < length ps = omega (arith, length-drop from ps) in
      let past : first + 1 ≤ (get_or ps (from + k) none).first = end.point.1 (from + k) none (omega (arith, begins_rise)) i in
      rw (get_or-drop from ps k none) (first_past first c (get_or ps (from + k) none) (omega arith)))
      ∙ find_drop (is_pair_of first c) ps from none begin.within (λ k l. first_not first c (get_or ps k none) (begin.point.0 k none (omega arith) l))

pub between_rises : (ps : List KernPair) (from to : ℕ) → AreRising ps → to ≤ length ps → AreRising (slice_range ps from to)
between_rises ps from to up within k d h =
    let l : k + 1 < to - from = omega (arith, length-take (to - from) (drop from ps)) in
    let m : from + k + 1 < length ps = omega arith in
    let e : from + (k + 1) ≡ from + k + 1 = omega arith in
    rw (get_or-take (to - from) (drop from ps) k d (omega arith), get_or-take (to - from) (drop from ps) (k + 1) d l, get_or-drop from ps k d, get_or-drop from ps (k + 1) d, e) (up (from + k) d m)
