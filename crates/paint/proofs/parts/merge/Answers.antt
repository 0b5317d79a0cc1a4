use Rattle.std.proofs.Common.{◌≡◌, ◌-◌, ℕ, suc, List, length, ap, sym, ◌∙◌, subst, arith}
use Rattle.std.proofs.lemmas.List.{length-map}
use Rattle.paint.specs.Parts.{AreMarks, HaveFrom, bare}
use Rattle.paint.specs.declared.parts.Fragment.{Fragment}
use Rattle.paint.proofs.ReachLemmas.{bare_step, merge_step, outers_step, spine_same}
use Rattle.paint.proofs.parts.merge.Goals as goal

pub loop-at-preserved : goal.loop-at-preserved
loop-at-preserved c =
    let old : List Fragment = c.loop-at.parts.items in
    let new : List Fragment = c.hand_on.new.parts.items in
    let at : ℕ = c.loop-at.at - 1 in
    let next : c.loop-at.at ≡ suc at = omega arith in
    let rest = bare_step old new at c.hand_on.ensures in
    let size : length new ≡ length old = sym (length-map new bare) ∙ ap length rest ∙ length-map old bare in
    record {
      within = (let w = c.loop-at.invariant.within in omega arith);
      rest = rest ∙ c.loop-at.invariant.rest;
      outers = outers_step old new at c.hand_on.ensures c.loop-at.invariant.outers;
      from = λ marks are first. merge_step old new at marks c.hand_on.ensures (subst (λ x. AreMarks x marks) (sym (spine_same c.args.parts.now.items old c.loop-at.invariant.rest)) are) (subst (λ n. HaveFrom n old marks) next (c.loop-at.invariant.from marks are first));
    }
