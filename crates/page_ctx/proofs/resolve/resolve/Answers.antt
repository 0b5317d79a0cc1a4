use Rattle.std.proofs.Common.{sym, ◌∙◌, ap, subst, map}
use Rattle.page_ctx.specs.Tables.{IsTable, row_by, texts_of}
use Rattle.page_ctx.specs.Margins.{AreMarginStyles, boxes_of_name, cells_in, filled}
use Rattle.page_ctx.proofs.GoodLemmas.{styles_good}
use Rattle.page_ctx.proofs.MarginLemmas.{are_styles}
use Rattle.page_ctx.proofs.TableLemmas.{frames_good, is_table, rows_good}
use Rattle.page_ctx.proofs.resolve.resolve.Goals as goal

pub of_names-requires : goal.of_names-requires
of_names-requires c =
    let boxes = c.in_ok-rows.ensures.boxes ∙ ap (λ r. map (boxes_of_name r) (texts_of c.args.names.now)) c.in_ok-grouped.ensures.rules in
    styles_good c.args.rules.now c.args.names.now (filled (map cells_in c.in_ok-rows.rows.boxes))
    (subst (AreMarginStyles c.args.rules.now c.args.names.now) (sym boxes) (are_styles c.args.rules.now c.args.names.now))

pub returns-clause-table : goal.returns-clause-table
returns-clause-table c =
    let table = c.in_ok-rows.ensures.table ∙ ap (λ r. map (row_by r) (texts_of c.args.names.now)) c.in_ok-grouped.ensures.rules in
    subst (IsTable c.args.rules.now c.args.names.now) (sym table) (is_table c.args.rules.now c.args.names.now)

pub returns-clause-good : goal.returns-clause-good
returns-clause-good c =
    let table = c.in_ok-rows.ensures.table ∙ ap (λ r. map (row_by r) (texts_of c.args.names.now)) c.in_ok-grouped.ensures.rules in
    frames_good c.in_ok-rows.rows.table (rows_good c.args.rules.now c.args.names.now c.in_ok-rows.rows.table table c.in_ok-rows.ensures.good)

pub returns-clause-boxes : goal.returns-clause-boxes
returns-clause-boxes c =
    let boxes = c.in_ok-rows.ensures.boxes ∙ ap (λ r. map (boxes_of_name r) (texts_of c.args.names.now)) c.in_ok-grouped.ensures.rules in
    subst (AreMarginStyles c.args.rules.now c.args.names.now) (sym (c.of_names.ensures ∙ boxes)) (are_styles c.args.rules.now c.args.names.now)

pub invariant_of-result : goal.invariant_of-result
invariant_of-result c =
    let table = c.in_ok-rows.ensures.table ∙ ap (λ r. map (row_by r) (texts_of c.args.names.now)) c.in_ok-grouped.ensures.rules in
    record { good = rows_good c.args.rules.now c.args.names.now c.in_ok-rows.rows.table table c.in_ok-rows.ensures.good }
