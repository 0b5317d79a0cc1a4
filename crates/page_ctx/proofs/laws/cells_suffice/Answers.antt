use Rattle.page_ctx.proofs.TableLemmas.{cells_suffice}
use Rattle.page_ctx.proofs.laws.cells_suffice.Goals as goal

pub returns : goal.returns
returns c = cells_suffice
