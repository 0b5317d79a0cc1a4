use Rattle.std.proofs.Common.{◌≡◌, ◌++◌, ◌∷◌, [], arith, sym, subst}
use Rattle.std.proofs.lemmas.Grind.{common_steps}
use Rattle.match_table.specs.Columns.{AreCells}
use Rattle.match_table.proofs.ColumnLemmas.{cells-push}
use Rattle.match_table.proofs.columns.all_cells.Goals as goal

pub loop-index-preserved : goal.loop-index-preserved
loop-index-preserved c =
    let items : c.push.new.self.items ≡ c.loop-index.cells.items ++ c.reach_node-next.result ∷ [] = grind (arith, common_steps) in
    record {
      count = grind (arith, common_steps);
      cells = subst (AreCells c.args.document.now c.args.selector.now) (sym items) (cells-push c.args.document.now c.args.selector.now c.loop-index.cells.items c.reach_node-next.result c.loop-index.index c.loop-index.invariant.count c.loop-index.invariant.cells c.reach_node-next.ensures);
    }
