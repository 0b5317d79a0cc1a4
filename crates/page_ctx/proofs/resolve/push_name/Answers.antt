use Rattle.std.proofs.Common.{◌++◌, ◌∷◌, [], ◌∙◌, ap, map, slice_get, sym, subst}
use Rattle.std.specs.String.{string_bytes}
use Rattle.std.specs.List.{All}
use Rattle.std.proofs.lemmas.List.Elements.{All-push}
use Rattle.std.proofs.lemmas.Result.{on_ok_weaker}
use Rattle.std.proofs.lemmas.Bool.{or_parts}
use Rattle.bk_num.proofs.ListLemmas.{get-keep}
use Rattle.page_ctx.specs.Bounds.{AreGoodCells}
use Rattle.page_ctx.specs.Margins.{boxes_of_name, cells_in, filled}
use Rattle.page_ctx.proofs.AskedLemmas.{unasked-boxes, unasked-row}
use Rattle.page_ctx.proofs.FilledLemmas.{filled-more}
use Rattle.page_ctx.proofs.resolve.push_name.Goals as goal

pub returns-clause-table : goal.returns-clause-table
returns-clause-table c =
    let out = or_parts _ _ (sym c.has_rules.ensures ∙ c.if-has_rules.false) in
    on_ok_weaker c.push_same.result (λ e. e ∙ ap (λ r. c.args.rows.now.table ++ r ∷ []) (c.requires.row ∙ unasked-row c.args.rules.now.index.rules.now (map (λ k. string_bytes k) c.args.asked.now.keys) c.args.name.now c.requires.asked out.0 out.1)) c.push_same.ensures.table

pub returns-clause-boxes : goal.returns-clause-boxes
returns-clause-boxes c =
    let out = or_parts _ _ (sym c.has_rules.ensures ∙ c.if-has_rules.false) in
    on_ok_weaker c.push_same.result (λ e. ap filled e ∙ filled-more (map cells_in c.args.rows.now.boxes) (boxes_of_name c.args.rules.now.index.rules.now []) [] (boxes_of_name c.args.rules.now.index.rules.now c.args.name.now) c.requires.first (unasked-boxes c.args.rules.now.index.rules.now (map (λ k. string_bytes k) c.args.asked.now.keys) c.args.name.now c.requires.asked out.0 out.1)) c.push_same.ensures.boxes

pub returns-clause-first : goal.returns-clause-first
returns-clause-first c = on_ok_weaker c.push_same.result (λ e. ap (λ z. slice_get z 0) e ∙ get-keep (map cells_in c.args.rows.now.boxes) _ 0 _ c.requires.first) c.push_same.ensures.boxes

pub returns-clause-good : goal.returns-clause-good
returns-clause-good c = λ good. on_ok_weaker c.push_same.result (λ e. subst (All AreGoodCells) (sym e) (All-push AreGoodCells c.args.rows.now.table c.args.row good c.requires.good)) c.push_same.ensures.table
