use Rattle.std.proofs.Common.{◌≡◌, ◌+◌, ◌-◌, ◌<◌, ◌∙◌, length, sym, ap, subst, refl, arith}
use Rattle.std.specs.Prelude.{slice_get}
use Rattle.match_table.proofs.RowInvariants.{AreGoing}
use Rattle.match_table.proofs.AllLemmas.{going-if, going-none, going-done, not-below, column-hit}
use Rattle.match_table.proofs.all.mark_column.Goals as goal

pub loop-node-init : goal.loop-node-init
loop-node-init c = record {
  going = going-none c.args.document.now c.args.selector.now (λ n. n < 0) c.args.place c.args.rows.now.items not-below;
  count = refl;
}

pub loop-node-preserved : goal.loop-node-preserved
loop-node-preserved c =
    let len = c.len-node-end.ensures.len in
    let test = c.loop-node-test.true in
    let count = c.requires.count in
    let same : length c.dom.result.now ≡ length c.args.document.now = ap length c.dom.ensures in
    let joins = c.parts.ensures.joins in
    record {
      going = subst (λ z. AreGoing c.args.document.now c.args.selector.now (λ n. n < c.loop-node.node + 1) c.args.place c.args.rows.now.items z) (sym c.in_ok-put_if.ensures.placed)
          (going-if c.args.document.now c.args.selector.now (λ n. n < c.loop-node.node) (λ n. n < c.loop-node.node + 1)
          c.args.place c.loop-node.node c.args.rows.now.items c.loop-node.rows.items c.has-hit.result
          c.loop-node.invariant.count c.requires.below c.loop-node.invariant.going
          (column-hit c.args.document.now c.args.selector.now c.loop-node.node (length c.parts.result.now - 1) (length c.args.rows.now.items) c.cell_of-cell.result c.has-hit.result c.has-hit.ensures
          (omega (arith, joins)) (c.in_ok-cells.ensures.cells c.loop-node.node c.cell_of-cell.result (sym (ap (λ z. slice_get z c.loop-node.node) c.deref.ensures.value) ∙ c.cell_of-cell.ensures.some)) (omega (arith, len, test, count, same)))
          (λ n seen other. omega (arith, seen, other)));
      count = c.in_ok-put_if.ensures.count ∙ c.loop-node.invariant.count;
    }

pub returns : goal.returns
returns c =
    let len = c.len-node-end.ensures.len in
    let test = c.loop-node-test.false in
    let count = c.requires.count in
    let same : length c.dom.result.now ≡ length c.args.document.now = ap length c.dom.ensures in
    record {
      marked = going-done c.args.document.now c.args.selector.now (λ n. n < c.loop-node.node) c.args.place c.args.rows.now.items c.loop-node.rows.items c.loop-node.invariant.going
          (λ n lt m. omega (arith, lt, len, test, count, same));
      count = c.loop-node.invariant.count;
    }
