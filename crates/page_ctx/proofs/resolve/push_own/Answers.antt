use Rattle.std.proofs.Common.{◌∙◌, [], ap, map, refl, slice_get}
use Rattle.std.proofs.lemmas.Result.{err_from_is_err_and}
use Rattle.bk_num.proofs.ListLemmas.{get-keep}
use Rattle.page_ctx.specs.Margins.{boxes_of_name, cells_in, filled}
use Rattle.page_ctx.proofs.FilledLemmas.{filled-more}
use Rattle.page_ctx.proofs.resolve.push_own.Goals as goal

pub returns-clause-boxes : goal.returns-clause-boxes
returns-clause-boxes c = ap filled c.in_ok-push_row.ensures.boxes ∙ filled-more (map cells_in c.args.rows.now.boxes) (boxes_of_name c.args.rules.now.index.rules.now []) (boxes_of_name c.args.rules.now.index.rules.now c.args.name.now) (boxes_of_name c.args.rules.now.index.rules.now c.args.name.now) c.requires.first refl

pub returns-clause-first : goal.returns-clause-first
returns-clause-first c = ap (λ z. slice_get z 0) c.in_ok-push_row.ensures.boxes ∙ get-keep (map cells_in c.args.rows.now.boxes) _ 0 _ c.requires.first

pub returns-in_err-push_row-clause-table : goal.returns-in_err-push_row-clause-table
returns-in_err-push_row-clause-table c =
    let p = err_from_is_err_and c.from_residual.result c.from_residual.ensures.1 in
    rw p.1 tt
