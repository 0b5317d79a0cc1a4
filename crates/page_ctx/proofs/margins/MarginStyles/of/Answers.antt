use Rattle.std.proofs.Common.{◌∙◌, ap, map}
use Rattle.page_ctx.specs.Margins.{cells_in, filled, style_of}
use Rattle.page_ctx.proofs.GoodLemmas.{good_of}
use Rattle.page_ctx.proofs.margins.MarginStyles.of.Goals as goal

pub returns-clause-good : goal.returns-clause-good
returns-clause-good c =
    good_of c.style_in.result _ (c.style_in.ensures ∙ ap (λ rows. style_of (filled (map cells_in rows)) c.args.index c.args.name c.args.kind c.args.place) c.as_slice.ensures)
    (λ s h. c.self.invariant c.args.index c.args.name c.args.kind c.args.place s h)
