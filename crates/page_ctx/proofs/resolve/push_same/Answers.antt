use Rattle.std.proofs.Common.{◌++◌, ◌∷◌, [], ◌∙◌, ap, map}
use Rattle.bk_num.proofs.ListLemmas.{map-more}
use Rattle.page_ctx.specs.Margins.{cells_in}
use Rattle.page_ctx.proofs.resolve.push_same.Goals as goal

pub returns-clause-boxes : goal.returns-clause-boxes
returns-clause-boxes c = map-more cells_in c.args.rows.now.boxes c.push.new.self _ c.in_ok-push.ensures.ok ∙ ap (λ z. map cells_in c.args.rows.now.boxes ++ cells_in z ∷ []) c.new.ensures
