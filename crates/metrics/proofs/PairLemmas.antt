-- Kerning pairs in order, and which one is that of two characters.
use Rattle.std.proofs.Common.{◌≡◌, ℕ, zero, suc, ◌+◌, ◌-◌, ◌<◌, ◌≤◌, ◌/◌, ◌%◌, ℤ, pos, ◌+ℤ◌, ◌≤ℤ◌, unsigned_abs, Bool, true, false, cond, ◌||◌, eqb, List, [], ◌∷◌, ◌++◌, length, get_or, Option, Some, None, refl, arith, ⊎_elim, add-one, length-append}
use Rattle.std.specs.Option.{IfSome, option_map_or}
use Rattle.std.specs.List.{find, All}
use Rattle.std.specs.List.Sorted.{IsPartitionedBy, IsPartitionPoint}
use Rattle.std.proofs.lemmas.Bool.{cases_lt}
use Rattle.std.proofs.lemmas.Bool.Decides.{nat_tests}
use Rattle.std.proofs.lemmas.Int.{ints}
use Rattle.std.proofs.lemmas.List.Elements.{All-head, All-push, All-tail}
use Rattle.std.proofs.lemmas.List.{get_or_default}
use Rattle.std.proofs.Math.ListN.{get_or-append}
use Rattle.std.proofs.Math.Seq.{get_or-append_seam}
use Rattle.metrics.specs.declared.pair.KernPair.{KernPair}
use Rattle.metrics.specs.Face.{AreRising, IsKept, FontFace, IsWithinLimits, advance_number, change_of, is_later, is_pair_of, paired_number}
use Rattle.metrics.specs.Table.{IsPairTable}
use Rattle.metrics.specs.Text.{is_kept, is_next_pair, with_kern}
use Rattle.metrics.proofs.RangeLemmas.{find-at, find-none, number_small}

later_trans : (a b c : KernPair) → is_later a b ≡ true → is_later b c ≡ true → is_later a c ≡ true
unfolding is_later
later_trans a b c h k = grind (arith, nat_tests)

-- a pair stands before each later one
pub far_pairs : (ps : List KernPair) → AreRising ps → (j k : ℕ) (d : KernPair) → j < k → k < length ps → is_later (get_or ps j d) (get_or ps k d) ≡ true
far_pairs ps up j zero d l h = absurd (omega arith)
far_pairs ps up j (suc k) d l h =
    let step : is_later (get_or ps k d) (get_or ps (suc k) d) ≡ true = rw add-one at (up k d (omega arith)) in
    ⊎_elim
    (λ (g : j < k). later_trans (get_or ps j d) (get_or ps k d) (get_or ps (suc k) d) (far_pairs ps up j k d g (omega arith)) step)
    (λ (g : k ≤ j). let e : j ≡ k = omega arith in rw e step)
    (cases_lt j k)

-- one more pair, behind the last one
rising_push : (ps : List KernPair) (p : KernPair) → AreRising ps → (eqb (length ps) 0 || is_later (get_or ps (length ps - 1) p) p) ≡ true → AreRising (ps ++ p ∷ [])
rising_push ps p up next k d h = ⊎_elim
    (λ (g : k + 1 < length ps). rw (get_or-append ps (p ∷ []) d k (omega arith), get_or-append ps (p ∷ []) d (k + 1) g) (up k d g))
    (λ (g : length ps ≤ k + 1).
    let e : k + 1 ≡ length ps = omega (arith, simp length-append at h) in
    let i : k ≡ length ps - 1 = omega arith in
    let last : is_later (get_or ps k d) p ≡ true = rw i (last_before (omega arith)) in
    rw (get_or-append ps (p ∷ []) d k (omega arith), e, get_or-append_seam ps p [] d) last)
    (cases_lt (k + 1) (length ps))
  where
    last_before : 0 < length ps → is_later (get_or ps (length ps - 1) d) p ≡ true
    last_before some =
        let no : eqb (length ps) 0 ≡ false = grind (arith, nat_tests) in
        let a : is_later (get_or ps (length ps - 1) p) p ≡ true = rw no at next in
        let e : get_or ps (length ps - 1) d ≡ get_or ps (length ps - 1) p = get_or_default ps (length ps - 1) d p (omega arith) in
        rw e a

kept_is : (f : FontFace) (p : KernPair) → is_kept f p ≡ true → IsKept f p
unfolding is_kept
kept_is f p h = (grind (arith, ints), grind (arith, ints))

next_rises : (f : FontFace) (p : KernPair) → is_next_pair f p ≡ true → AreRising f.pairs → AreRising (f.pairs ++ p ∷ [])
unfolding is_next_pair
next_rises f p next up = rising_push f.pairs p up next

-- a pair changes no advance
same-number : (f : FontFace) (p : KernPair) (c : ℕ) → advance_number (with_kern f p) c ≡ advance_number f c
unfolding advance_number
same-number f p c = refl

pub pair_push : (f : FontFace) (p : KernPair) → IsWithinLimits f → is_next_pair f p ≡ true → is_kept f p ≡ true → IsWithinLimits (with_kern f p)
pair_push f p in_limits next kept = record {
  name = in_limits.name;
  some_units = in_limits.some_units;
  units = in_limits.units;
  ascent = in_limits.ascent;
  descent = in_limits.descent;
  fallback = in_limits.fallback;
  advances = in_limits.advances;
  ascending = in_limits.ascending;
  rising = next_rises f p next in_limits.rising;
  kept = λ k d m. rw (same-number f p (get_or (f.pairs ++ p ∷ []) k d).second) (All-push (IsKept f) f.pairs p in_limits.kept (kept_is f p kept) k d m);
}

-- what `partition_point` asks of the pairs before that of two characters
pub before_parted : (ps : List KernPair) (asked : KernPair) → AreRising ps → IsPartitionedBy (λ p. is_later p asked) ps
before_parted ps asked up i j d l h passes = ⊎_elim
    (λ (g : i < j). later_trans (get_or ps i d) (get_or ps j d) asked (far_pairs ps up i j d g h) passes)
    (λ (g : j ≤ i). let e : i ≡ j = omega arith in rw e passes)
    (cases_lt i j)

-- a pair before that of two characters isn't theirs, and neither is one behind a pair that isn't before
before_not : (p asked : KernPair) → is_later p asked ≡ true → is_pair_of asked.first asked.second p ≡ false
unfolding is_later is_pair_of
before_not p asked h = grind (arith, nat_tests)

behind_not : (p q asked : KernPair) → is_later p asked ≡ false → is_later p q ≡ true → is_pair_of asked.first asked.second q ≡ false
unfolding is_later is_pair_of
behind_not p q asked h k = grind (arith, nat_tests)

module _ (ps : List KernPair) (up : AreRising ps) (asked : KernPair) (at : ℕ)
    (point : IsPartitionPoint (λ (p : KernPair). is_later p asked ≡ true) (λ (p : KernPair). is_later p asked ≡ false) ps at) where
  pub pair_found : (d : KernPair) → at < length ps → is_pair_of asked.first asked.second (get_or ps at d) ≡ true → find (is_pair_of asked.first asked.second) ps ≡ Some (get_or ps at d)
  pair_found d h passes = find-at (is_pair_of asked.first asked.second) ps at d (λ k l. before_not (get_or ps k d) asked (point.0 k d (omega arith) l)) h passes

  pub pair_missed : (d : KernPair) → (at < length ps → is_pair_of asked.first asked.second (get_or ps at d) ≡ false) → find (is_pair_of asked.first asked.second) ps ≡ None
  pair_missed d not_here = find-none (is_pair_of asked.first asked.second) ps d (λ k h. ⊎_elim
      (λ (g : k < at). before_not (get_or ps k d) asked (point.0 k d (omega arith) g))
      (λ (g : at ≤ k). ⊎_elim
      (λ (l : at < k). behind_not (get_or ps at d) (get_or ps k d) asked (point.1 at d (omega arith) (omega arith)) (far_pairs ps up at k d l h))
      (λ (l : k ≤ at). let e : k ≡ at = omega arith in rw e (not_here (omega arith)))
      (cases_lt at k))
      (cases_lt k at))

-- what is found is an element, and passes
find-both : {X : Type 0} (P : X → Type 0) (p : X → Bool) (xs : List X) → All P xs → IfSome (find p xs) (λ x. P x × (p x ≡ true))
find-both P p [] all = tt
find-both P p (x ∷ xs) all = by (p x) refl (find-both P p xs (All-tail P x xs all))
  where
    by : (b : Bool) → p x ≡ b → IfSome (find p xs) (λ x. P x × (p x ≡ true)) → IfSome (cond b (Some x) (find p xs)) (λ x. P x × (p x ≡ true))
    by true e h = (All-head P x xs all, e)
    by false e h = h

second_is : (first second : ℕ) (p : KernPair) → is_pair_of first second p ≡ true → p.second ≡ second
unfolding is_pair_of
second_is first second p h = grind (arith, nat_tests)

-- an advance with the change of a pair is within the limits
pub paired_within : (f : FontFace) (first c : ℕ) → IsWithinLimits f → (pos 0 ≤ℤ (pos (advance_number f c) +ℤ change_of f first c)) × ((pos (advance_number f c) +ℤ change_of f first c) ≤ℤ pos 16384)
unfolding change_of
paired_within f first c in_limits = by (find (is_pair_of first c) f.pairs) (find-both (IsKept f) (is_pair_of first c) f.pairs in_limits.kept)
  where
    by : (o : Option KernPair) → IfSome o (λ p. IsKept f p × (is_pair_of first c p ≡ true)) → (pos 0 ≤ℤ (pos (advance_number f c) +ℤ option_map_or (λ (p : KernPair). p.change) o (pos 0))) × ((pos (advance_number f c) +ℤ option_map_or (λ (p : KernPair). p.change) o (pos 0)) ≤ℤ pos 16384)
    by None h = (omega (arith, ints, number_small f c in_limits), omega (arith, ints, number_small f c in_limits))
    by (Some p) h = rw (← second_is first c p h.1) h.0

pub paired_small : (f : FontFace) (first c : ℕ) → IsWithinLimits f → paired_number f (Some first) c ≤ 16384
unfolding paired_number
paired_small f first c in_limits = let b = paired_within f first c in_limits in omega (arith, ints)

-- and so is each one of a table
pub table_small : (f : FontFace) (table : List ℕ) (k d : ℕ) → IsWithinLimits f → IsPairTable f table → k < length table → get_or table k d ≤ 16384
table_small f table k d in_limits t l =
    let e : get_or table k d ≡ get_or table k 0 = get_or_default table k d 0 l in
    rw (e, t.known k l) (paired_small f (k / 128) (k % 128) in_limits)

-- a face without pairs changes no advance
pub plain_number : (f : FontFace) (first c : ℕ) → length f.pairs ≡ 0 → paired_number f (Some first) c ≡ advance_number f c
unfolding paired_number change_of
plain_number f first c none = by f.pairs none
  where
    by : (ps : List KernPair) → length ps ≡ 0 → unsigned_abs (pos (advance_number f c) +ℤ option_map_or (λ (p : KernPair). p.change) (find (is_pair_of first c) ps) (pos 0)) ≡ advance_number f c
    by [] e = omega (arith, ints)
    by (p ∷ ps) e = absurd (omega arith)
