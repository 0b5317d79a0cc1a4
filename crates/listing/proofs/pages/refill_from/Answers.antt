use Rattle.std.proofs.Common.{subst, sym}
use Rattle.boxes.specs.declared.page.Page.{Page}
use Rattle.paint.specs.Order.{IsPageOf}
use Rattle.listing.proofs.pages.refill_from.Goals as goal

pub push_items-requires-clause-page : goal.push_items-requires-clause-page
push_items-requires-clause-page c = subst (λ (p : Page). IsPageOf c.args.printer.now.flow.now p) (sym c.frame-item.is) (c.requires.pages c.loop-frame.frame-index c.frame-item.result c.loop-frame-test.true)
