use Rattle.std.proofs.Common.{◌≡◌, map, option_map, drop}
use Rattle.std.specs.Prelude.{fold}
use Rattle.page_ctx.specs.Groups.{all_own}
use Rattle.page_ctx.specs.Index.{selector_in}
use Rattle.page_ctx.specs.Winners.{applied_in, numbered_in}
use Rattle.page_ctx.proofs.AppliedLemmas.{all_rules, going, with_one}
use Rattle.page_ctx.proofs.applied.applied_to.Given as goal

abbrev pub invariant-loop-entry : goal.invariant-loop-entry
invariant-loop-entry l =
    all_rules (fold (with_one l.classes) (going (map applied_in l.found.items) (option_map numbered_in l.last)) (map selector_in (drop l.entry-index l.own.selectors.now)))
    ≡ all_own (option_map (λ n. n.now) l.own.asked) l.classes l.own.rules.now
