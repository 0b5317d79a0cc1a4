use Rattle.std.proofs.Common.{◌++◌, ◌∷◌, [], ◌∙◌, ap, map, sym, subst}
use Rattle.std.specs.List.{All}
use Rattle.std.proofs.lemmas.List.Elements.{All-push}
use Rattle.bk_num.proofs.ListLemmas.{map-more}
use Rattle.page_ctx.specs.Bounds.{AreGoodCells}
use Rattle.page_ctx.specs.Margins.{boxes_of_name, cells_in}
use Rattle.page_ctx.proofs.resolve.push_row.Goals as goal

pub returns-clause-table : goal.returns-clause-table
returns-clause-table c = c.in_ok-push-2.ensures.ok ∙ ap (λ r. c.args.rows.now.table ++ r ∷ []) c.in_ok-row.ensures.row

pub returns-clause-boxes : goal.returns-clause-boxes
returns-clause-boxes c =
    map-more cells_in c.args.rows.now.boxes c.push.new.self _ c.in_ok-push.ensures.ok
    ∙ ap (λ z. map cells_in c.args.rows.now.boxes ++ z ∷ []) (c.in_ok-row.ensures.boxes ∙ ap (λ z. cells_in z ++ boxes_of_name c.args.rules.now.index.rules.now c.args.name.now) c.new-boxes.ensures)

pub returns-clause-good : goal.returns-clause-good
returns-clause-good c = λ good. subst (All AreGoodCells) (sym c.in_ok-push-2.ensures.ok) (All-push AreGoodCells c.args.rows.now.table _ good c.in_ok-row.ensures.good)
