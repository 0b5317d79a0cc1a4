use Rattle.std.proofs.Common.{◌∙◌, Bor, List, ap, map, option_map, slice_get}
use Rattle.page_ctx.specs.declared.margin_style.MarginBox.{MarginBox}
use Rattle.page_ctx.specs.Margins.{cells_in, found_cells}
use Rattle.page_ctx.proofs.FilledLemmas.{are-found, seen}
use Rattle.page_ctx.proofs.margins.cells_of.Goals as goal

pub returns : goal.returns
returns c =
    let rows = c.args.rows.now in
    c.found_cells.ensures
    ∙ ap (λ first. found_cells first (option_map (λ (cells : Bor (List (List MarginBox))). cells_in cells.now) c.cells_at-2.result)) (seen cells_in c.cells_at.result rows 0 c.cells_at.ensures)
    ∙ ap (found_cells (slice_get (map cells_in rows) 0)) (seen cells_in c.cells_at-2.result rows c.args.name.0 c.cells_at-2.ensures)
    ∙ are-found (map cells_in rows) c.args.name
