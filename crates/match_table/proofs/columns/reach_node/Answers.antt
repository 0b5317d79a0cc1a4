use Rattle.std.proofs.Common.{◌≡◌, ◌∙◌, ◌&&◌, ◌||◌, ℕ, suc, refl}
use Rattle.selectors.specs.Sets.{has}
use Rattle.selectors.specs.Match.{joins_by}
use Rattle.selectors.specs.declared.types.Join.TheVariants.{Child, Inside, Next, Later}
use Rattle.match_table.proofs.ColumnLemmas.{IsOuter, IsBeside, outer-from, beside-from, child-is, inside-is, next-is, later-is, wanted-is, by_join, reach-is}
use Rattle.match_table.proofs.columns.reach_node.Goals as goal

pub returns : goal.returns
returns c =
    let outer : IsOuter c.args.document.now c.args.selector.now c.args.node.0 c.cell_of-outer.result = outer-from c.args.document.now c.args.selector.now c.args.cells.now c.args.node.0 c.parent_of.result c.cell_of-outer.result c.requires.cells c.parent_of.ensures.value c.cell_of-outer.ensures.none c.cell_of-outer.ensures.some in
    let beside : IsBeside c.args.document.now c.args.selector.now c.args.node.0 c.cell_of-beside.result = beside-from c.args.document.now c.args.selector.now c.args.cells.now c.args.node.0 c.prev.result c.cell_of-beside.result c.requires.cells c.prev.ensures.value c.cell_of-beside.ensures.none c.cell_of-beside.ensures.some in
    let inside = λ (k : ℕ). inside-is c.args.document.now c.args.selector.now c.args.node.0 c.cell_of-outer.result k c.union-above.result (c.union-above.ensures k) outer in
    let later = λ (k : ℕ). later-is c.args.document.now c.args.selector.now c.args.node.0 c.cell_of-beside.result k c.union-before.result (c.union-before.ensures k) beside in
    let sets : (k : ℕ) → has c.with-wanted.result (suc k) ≡ (((joins_by c.args.selector.now Child k && has c.cell_of-outer.result.reach k) || (joins_by c.args.selector.now Inside k && has c.union-above.result k)) || ((joins_by c.args.selector.now Next k && has c.cell_of-beside.result.reach k) || (joins_by c.args.selector.now Later k && has c.union-before.result k))) =
    λ k. c.with-wanted.ensures.other (suc k) (λ e. cc) ∙ c.union.ensures (suc k) ∙ rw (c.union-vertical.ensures (suc k), c.union-level.ensures (suc k), c.after.ensures.later k, c.after-2.ensures.later k, c.after-3.ensures.later k, c.after-4.ensures.later k) refl in
    record {
      reach = reach-is c.args.document.now c.args.selector.now c.args.node.0 (by_join (has c.cell_of-outer.result.reach) (has c.union-above.result) (has c.cell_of-beside.result.reach) (has c.union-before.result)) (has c.with-wanted.result) (has c.fitting.result)
          (wanted-is c.args.document.now c.args.selector.now c.args.node.0 (has c.cell_of-outer.result.reach) (has c.union-above.result) (has c.cell_of-beside.result.reach) (has c.union-before.result) (has c.with-wanted.result)
          (λ k. child-is c.args.document.now c.args.selector.now c.args.node.0 c.cell_of-outer.result k outer) inside (λ k. next-is c.args.document.now c.args.selector.now c.args.node.0 c.cell_of-beside.result k beside) later c.with-wanted.ensures.same sets)
          c.fitting.ensures;
      above = inside;
      before = later;
    }
