use Rattle.std.proofs.lemmas.Result.{IfOk-weaker}
use Rattle.book.proofs.Ranges.{styles_in_range, root_shown}
use Rattle.book.proofs.styled.styles_of.Goals as goal

pub returns-clause-ranges : goal.returns-clause-ranges
returns-clause-ranges c = IfOk-weaker c.styles.result _ _ (λ r s. styles_in_range c.args.dom.now c.args.sheets.now r.1 r.0 c.len-count.ensures.tree s c.styles_keep_ranges.ensures) c.styles.ensures

pub returns-clause-shown : goal.returns-clause-shown
returns-clause-shown c = IfOk-weaker c.styles.result _ _ (λ r s. root_shown c.args.dom.now c.args.sheets.now r.1 r.0 c.len-count.ensures.tree s c.root_is_shown.ensures) c.styles.ensures
