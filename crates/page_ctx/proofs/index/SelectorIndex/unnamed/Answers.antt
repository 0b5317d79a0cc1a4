use Rattle.std.proofs.Common.{◌∙◌, ap, map}
use Rattle.page_ctx.specs.Index.{selector_in}
use Rattle.page_ctx.proofs.IndexLemmas.{are-unnamed}
use Rattle.page_ctx.proofs.index.SelectorIndex.unnamed.Goals as goal

pub returns-clause-own : goal.returns-clause-own
returns-clause-own c = ap (map selector_in) c.as_slice.ensures ∙ are-unnamed c.args.self.now c.requires
