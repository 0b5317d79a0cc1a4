use Rattle.std.proofs.Common.{◌≡◌, ◌≤◌, ◌++◌, [], ◌∷◌, ap, append-nil, arith, length, ◌∙◌, map, refl, slice_get, sym, subst, rules}
use Rattle.std.specs.List.{All}
use Rattle.std.proofs.lemmas.List.{drop_all}
use Rattle.page_ctx.specs.Bounds.{AreGoodCells}
use Rattle.page_ctx.specs.Tables.{row_by}
use Rattle.page_ctx.specs.Margins.{boxes_of_name, cells_in, filled}
use Rattle.page_ctx.proofs.TableLemmas.{rows_first, rows_more}
use Rattle.page_ctx.proofs.resolve.rows_by.Goals as goal

pub loop-number-init : goal.loop-number-init
loop-number-init c =
    let boxes : map cells_in c.push_row.new.rows.boxes ≡ boxes_of_name c.args.rules.now.index.rules.now [] ∷ [] = c.in_ok-row.ensures.boxes ∙ ap (λ z. map cells_in z ++ boxes_of_name c.args.rules.now.index.rules.now [] ∷ []) c.new-boxes.ensures in (
      rows_first (row_by c.args.rules.now.index.rules.now) _ c.args.names.now _ refl (c.in_ok-row.ensures.table ∙ ap (λ z. z ++ row_by c.args.rules.now.index.rules.now [] ∷ []) c.new-table.ensures),
      rows_first (boxes_of_name c.args.rules.now.index.rules.now) _ c.args.names.now _ refl (ap filled boxes),
      c.in_ok-row.ensures.good (subst (All AreGoodCells) (sym c.new-table.ensures) (λ k d h. absurd (search rules))),
      ap (λ z. slice_get z 0) boxes,
    )

pub loop-number-preserved : goal.loop-number-preserved
loop-number-preserved c = (
  rows_more (row_by c.args.rules.now.index.rules.now) c.loop-number.rows.table _ _ c.args.names.now c.loop-number.number c.text_at-name.result.now _ c.text_at-name.ensures refl c.in_ok-push_name.ensures.table c.loop-number.invariant.0,
  rows_more (boxes_of_name c.args.rules.now.index.rules.now) (filled (map cells_in c.loop-number.rows.boxes)) _ _ c.args.names.now c.loop-number.number c.text_at-name.result.now _ c.text_at-name.ensures refl c.in_ok-push_name.ensures.boxes c.loop-number.invariant.1,
  c.in_ok-push_name.ensures.good c.loop-number.invariant.2,
  c.in_ok-push_name.ensures.first,
)

pub returns-clause-boxes : goal.returns-clause-boxes
returns-clause-boxes c =
    let past : length c.args.names.now ≤ c.loop-number.number = omega (arith, c.loop-number-test.false, c.len-number-end.ensures) in
    sym (append-nil (filled (map cells_in c.loop-number.rows.boxes)))
    ∙ ap (λ z. filled (map cells_in c.loop-number.rows.boxes) ++ map (boxes_of_name c.args.rules.now.index.rules.now) z) (sym (drop_all c.loop-number.number c.args.names.now past))
    ∙ c.loop-number.invariant.1
