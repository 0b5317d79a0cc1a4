use Rattle.std.proofs.Common.{◌≡◌, List, All, length, map, sym, ap, ◌∙◌, subst, arith}
use Rattle.std.proofs.lemmas.List.{length-map}
use Rattle.boxes.specs.Tree.{Tree}
use Rattle.cursor.specs.declared.solid.Solid.{Solid}
use Rattle.cursor.specs.Fields.{solid_view}
use Rattle.cuts.specs.declared.row.SolidRow.{SolidRow}
use Rattle.cuts.specs.Areas.{AreAreas, cut_number}
use Rattle.cuts.specs.Cuts.{IsPageCut}
use Rattle.cuts.specs.Rows.{AreForcedBetween, IsSmallRow}
use Rattle.page_list.specs.Cuts.{row_of, rows_of}
use Rattle.fragment.proofs.SolidLemmas.{small_rows}
use Rattle.fragment.proofs.cut_solids.cut_rows.Goals as goal

size_is : (t : Tree) (solids : List Solid) (rows : List SolidRow) → rows ≡ rows_of t (map solid_view solids) → length rows ≡ length solids
size_is t solids rows is = ap (λ (rs : List SolidRow). length rs) is ∙ length-map (map solid_view solids) (row_of t) ∙ length-map solids solid_view

pub cut_noted-requires-clause-rows : goal.cut_noted-requires-clause-rows
cut_noted-requires-clause-rows c =
    let size = size_is c.args.tree.now c.args.solids.now c.args.rows.now c.requires.solids.rows_are in
    let some = c.requires.solids.some in
    let few = c.requires.solids.few in
    record {
      some = omega arith;
      few = omega arith;
      small = subst (All IsSmallRow) (sym c.requires.solids.rows_are) (small_rows c.args.tree.now c.args.solids.now c.requires.solids.small);
      between = subst AreForcedBetween (sym c.requires.solids.rows_are) c.requires.solids.between;
      joins = c.requires.joined;
    }

pub returns-clause-best : goal.returns-clause-best
returns-clause-best c = λ list n told.
    subst (λ (rs : List SolidRow). IsPageCut c.args.room.now.kept rs c.args.room.now.height list n (cut_number c.cut_noted.result.level) c.cut_noted.result.count) c.requires.solids.rows_are
    (c.cut_noted.ensures.cut list n (subst (λ (rs : List SolidRow). AreAreas c.args.room.now.kept rs c.args.room.now.height list n c.args.areas.now c.args.room.now.carried) (sym c.requires.solids.rows_are) told))

pub returns-clause-within : goal.returns-clause-within
returns-clause-within c = let size = size_is c.args.tree.now c.args.solids.now c.args.rows.now c.requires.solids.rows_are in let low = c.cut_noted.ensures.within in omega arith
