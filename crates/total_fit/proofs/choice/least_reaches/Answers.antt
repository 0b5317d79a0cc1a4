use Rattle.std.proofs.Common.{ℕ, ◌-◌, ◌≤◌, ◌<◌, ◌≤ℤ◌, ℤ, pos, List, length, arith, rules, set, inl, inr, length-set, get_or-set_same, get_or-set_other}
use Rattle.std.proofs.lemmas.Bool.{cases_eq}
use Rattle.std.proofs.lemmas.Int.{ints, to_z-of_z}
use mir.Syntax.{w64}
use mir.Val.{SFits, to_z}
use Rattle.total_fit.specs.declared.plan.Stop.{Stop}
use Rattle.total_fit.specs.Lines.{reach_of, stop_of}
use Rattle.total_fit.proofs.choice.least_reaches.Invariants.{IsListed}
use Rattle.total_fit.proofs.choice.least_reaches.Goals as goal

listed-more : (ss : List Stop) (reaches : List ℤ) (least new : ℤ) (at : ℕ) → 0 < at → IsListed ss reaches least at → new ≤ℤ least →
    new ≤ℤ reach_of (stop_of ss at) → IsListed ss (set reaches (at - 1) new) new (at - 1)
listed-more ss reaches least new at some h less here =
    let c = h.count in
    let w = h.high in
    let low : (j : ℕ) → at - 1 < j → j ≤ length ss → new ≤ℤ reach_of (stop_of ss j) =
    λ j l m. elim (cases_eq j at) [ inl e ↦ rw e here | inr ne ↦ (let t = h.low j (omega arith) m in omega (arith, ints)) ] in
    record {
      count = simp length-set h.count;
      high = omega arith;
      low = low;
      listed = λ k j l m n. elim (cases_eq k (at - 1)) [
        | inl e ↦ rw e (rw (get_or-set_same reaches (at - 1) new (pos 0) (omega arith)) (low j (omega arith) n))
        | inr ne ↦ rw (get_or-set_other reaches (at - 1) k new (pos 0) ne) (h.listed k j (omega arith) m n)
      ];
    }

pub loop-at-preserved : goal.loop-at-preserved
loop-at-preserved c =
    let f : SFits w64 c.min-least.result = search rules in
    let g : SFits w64 c.reach_at.result = search rules in
    let h = c.min-least.ensures in
    let here : c.min-least.result ≤ℤ reach_of (stop_of c.args.stops.now c.loop-at.at) = rw (← c.reach_at.ensures.reach) (simp to_z-of_z at h.other_bound) in
    simp to_z-of_z (listed-more c.args.stops.now c.loop-at.reaches.items (to_z w64 c.loop-at.least-bits) c.min-least.result c.loop-at.at
    c.loop-at-test.true c.loop-at.invariant h.self_bound here)
