use Rattle.std.proofs.lemmas.Result.{IfOk-weaker}
use Rattle.flow_rows.proofs.Ranges.{styles_in_range}
use Rattle.flow_rows.proofs.documents.styles_of.Goals as goal

pub returns : goal.returns
returns c = IfOk-weaker c.styles.result _ _ (λ r s. styles_in_range c.args.dom.now c.args.sheets.now r.1 r.0 c.len-count.ensures.tree s c.styles_keep_ranges.ensures) c.styles.ensures
