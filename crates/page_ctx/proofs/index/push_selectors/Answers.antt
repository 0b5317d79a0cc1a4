use Rattle.std.proofs.Common.{refl}
use Rattle.page_ctx.specs.Index.{of_rule, selector_in}
use Rattle.page_ctx.proofs.IndexLemmas.{map-more}
use Rattle.page_ctx.proofs.index.push_selectors.Goals as goal

pub loop-selector-preserved : goal.loop-selector-preserved
loop-selector-preserved c =
    map-more selector_in (of_rule c.args.number c.args.rule.now) c.loop-selector.all.items c.push.new.self.items _ c.as_slice-selector-items.result.now c.selector-item.result c.loop-selector.selector-index _ c.loop-selector-test.true c.selector-item.is refl c.in_ok-push.ensures.items c.loop-selector.invariant
