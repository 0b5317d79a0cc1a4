use Rattle.std.proofs.Common.{◌∙◌, None, ap, map, option_map}
use Rattle.std.specs.Prelude.{fold}
use Rattle.page_ctx.specs.Index.{selector_in}
use Rattle.page_ctx.specs.Winners.{applied_in}
use Rattle.page_ctx.proofs.AppliedLemmas.{all_rules, are-applied, going, with_one}
use Rattle.page_ctx.proofs.applied.applied_to.Goals as goal

pub loop-entry-init : goal.loop-entry-init
loop-entry-init c =
    let own = map selector_in c.args.own.selectors.now in
    ap (λ z. all_rules (fold (with_one c.args.classes) (going (map applied_in z) None) own)) c.new-found.ensures.items
    ∙ are-applied (option_map (λ n. n.now) c.args.own.asked) c.args.classes c.args.own.rules.now own c.requires
