use Rattle.std.proofs.Common.{◌∙◌, ap, map}
use Rattle.page_ctx.specs.Index.{selector_in}
use Rattle.page_ctx.proofs.IndexLemmas.{are-named}
use Rattle.page_ctx.proofs.index.SelectorIndex.named.Goals as goal

pub returns-clause-own : goal.returns-clause-own
returns-clause-own c = ap (map selector_in) c.of.ensures ∙ are-named c.args.self.now c.args.name.now c.requires
