use Rattle.std.proofs.Common.{◌∙◌, FitsSigned, ap, rules, subst, sym, w64}
use Rattle.std.proofs.lemmas.Int.{to_z-of_z}
use Rattle.boxes.specs.declared.table.PageTable.{PageTable}
use Rattle.columns.specs.Columns.{AreColumns}
use Rattle.book.specs.Flow.{gap_units}
use Rattle.book.proofs.PassLemmas.{are_of, grid_columns}
use Rattle.book.proofs.lay_out.columns_of.Goals as goal

pub new-requires : goal.new-requires
new-requires c =
    let s = c.args.styled.now in
    let fits : FitsSigned w64 c.gap_of.result = search rules in
    let are = subst (λ (t : PageTable). AreColumns t.rows s.grid.columns (gap_units s.grid)) (sym c.in_ok-table.ensures) (grid_columns s c.args.boxes.now c.requires.grid c.requires.boxes) in
    let gap = subst (λ z. AreColumns c.in_ok-table.table.rows s.grid.columns z) (sym c.gap_of.ensures) are in
    rw (to_z-of_z w64 c.gap_of.result fits) gap

pub returns : goal.returns
returns c =
    let fits : FitsSigned w64 c.gap_of.result = search rules in
    let rows = ap (λ (t : PageTable). t.rows) (c.new.ensures.pages ∙ c.in_ok-table.ensures) in
    let gap = c.new.ensures.gap ∙ (to_z-of_z w64 c.gap_of.result fits ∙ c.gap_of.ensures) in
    are_of c.args.styled.now c.args.boxes.now c.new.result c.requires.boxes rows c.new.ensures.count gap
