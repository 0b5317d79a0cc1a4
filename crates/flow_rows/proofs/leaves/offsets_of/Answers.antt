use Rattle.std.proofs.Common.{◌≡◌, ℕ, ◌+◌, ◌-◌, ◌<◌, ◌≤◌, List, [], ◌∷◌, ◌++◌, length, get_or, arith, ⊎_elim, length-append, rules}
use Rattle.std.specs.List.{All}
use Rattle.std.specs.List.Sorted.{IsStrictlyIncreasing}
use Rattle.std.specs.Str.{IsCharBoundary}
use Rattle.std.proofs.lemmas.Bool.{cases_lt}
use Rattle.std.proofs.lemmas.List.Elements.{All-push, All-weaker}
use Rattle.std.proofs.Math.ListN.{get_or-append}
use Rattle.std.proofs.Math.Seq.{get_or-append_seam}
use Rattle.flow_rows.proofs.leaves.offsets_of.Goals as goal

push_rises : (xs : List ℕ) (y : ℕ) → IsStrictlyIncreasing xs → All (λ p. p < y) xs → IsStrictlyIncreasing (xs ++ y ∷ [])
push_rises xs y up below = λ k h. ⊎_elim
    (λ (l : k + 1 < length xs). rw (get_or-append xs (y ∷ []) 0 k (omega arith), get_or-append xs (y ∷ []) 0 (k + 1) l) (up k l))
    (λ (l : length xs ≤ k + 1).
    let e : k + 1 ≡ length xs = omega (arith, simp length-append at h) in
    let last : get_or xs k 0 < y = below k 0 (omega arith) in
    rw (get_or-append xs (y ∷ []) 0 k (omega arith), e, get_or-append_seam xs y [] 0) last)
    (cases_lt (k + 1) (length xs))

pub loop-at-preserved : goal.loop-at-preserved
loop-at-preserved c =
    let xs : List ℕ = c.loop-at.offsets in
    let y : ℕ = c.from.result in
    let is = c.from.ensures in
    let less : c.loop-at.last < y = omega arith in
    let stands : IsCharBoundary c.args.text.now y = search rules in
    rw c.in_ok-push.ensures.ok (record {
      ascend = push_rises xs y c.loop-at.invariant.ascend (All-weaker (λ p. p ≤ c.loop-at.last) (λ p. p < y) (λ x h. omega (arith, h, less)) xs c.loop-at.invariant.below);
      stand = All-push (IsCharBoundary c.args.text.now) xs y c.loop-at.invariant.stand stands;
      below = All-push (λ p. p ≤ get_or c.args.list.now c.loop-at.at-index 0) xs y (All-weaker (λ p. p ≤ c.loop-at.last) (λ p. p ≤ get_or c.args.list.now c.loop-at.at-index 0) (λ x h. omega (arith, h, less, is)) xs c.loop-at.invariant.below) (omega (arith, is));
    })
