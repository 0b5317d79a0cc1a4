use Rattle.std.proofs.Common.{◌≡◌, ◌∙◌, ◌+◌, ap, sym, subst, arith, refl, ℕ, ℤ, List, FitsSigned}
use Rattle.std.specs.Int.{w64}
use Rattle.std.proofs.lemmas.Int.{to_z-of_z}
use Rattle.std.proofs.lemmas.Option.{slice_get_within}
use Rattle.bk_num.specs.declared.sides.BoxSide.TheVariants as side
use Rattle.boxes.proofs.TreeFacts.{box_there}
use Rattle.boxes.specs.Tree.{Holds, open_before, rest_of}
use Rattle.boxes.specs.declared.place.Event.TheVariants.{Opens}
use Rattle.boxes.specs.declared.page.SolidKind.TheVariants.{OpenEdge}
use Rattle.seams.specs.Seams.{seam_of}
use Rattle.seams.specs.Widths.{widths_at, widths_after, end_of_run}
use Rattle.cursor.specs.Conditions.{IsAtEdge}
use Rattle.cursor.specs.Fields.{solid_view}
use Rattle.cursor.specs.Remainder.{IsEdge, SolidView}
use Rattle.cursor.proofs.RemLemmas.{open_here, holds_start, place, solid_within, stands}
use Rattle.cursor.proofs.WidthLemmas.{around_open, edge_begins, widths_from, widths_past_edge}
use Rattle.cursor.proofs.edges.open_solid.Goals as goal

pub edge_solid-requires : goal.edge_solid-requires
edge_solid-requires c =
    let t = c.args.tree.now in
    let n = c.requires.next in
    let wide : FitsSigned w64 c.args.width = c.ranges.width in
    subst (λ (w : ℤ). IsAtEdge t w c.args.event c.args.index c.args.widths.now) (sym (to_z-of_z w64 c.args.width wide)) (record {
      whole = c.requires.whole;
      depth = c.requires.depth;
      low = n.low;
      high = n.high;
      within = slice_get_within t.events c.args.event _ c.requires.opens;
      number = box_there t c.count-count.ensures.tree c.args.event c.args.index c.requires.opens;
      widths_is = n.widths_is ∙ widths_from t c.args.width c.args.from (place c.args.event 0) c.args.event (stands t c.args.from n.holds) n.found refl (edge_begins t c.args.from c.args.event (stands t c.args.from n.holds) (λ l e. let h = sym c.requires.opens ∙ e in cc));
    })

pub returns-clause-solid : goal.returns-clause-solid
returns-clause-solid c = λ faces.
    let t = c.args.tree.now in
    let n = c.requires.next in
    let wide : FitsSigned w64 c.args.width = c.ranges.width in
    let s : SolidView = solid_view c.edge_solid.result in
    let there = c.requires.opens in
    let boxes = around_open t c.args.from.event c.args.event c.args.index s.placed_at n.found there c.edge_solid.ensures.place c.edge_solid.ensures.edge.begins in
    open_here faces t c.args.width c.args.from s c.args.event c.args.index n.found there c.edge_solid.ensures.place
    (subst (λ (w : ℤ). s.seam ≡ seam_of t s.placed_at w) (to_z-of_z w64 c.args.width wide) c.edge_solid.ensures.seam)
    (subst (λ (bs : List ℕ). IsEdge t c.args.width (OpenEdge c.args.index) side.Top c.args.index bs s) boxes
    (subst (λ (w : ℤ). IsEdge t w (OpenEdge c.args.index) side.Top c.args.index (rest_of (open_before t.events (end_of_run t s.placed_at))) s) (to_z-of_z w64 c.args.width wide) c.edge_solid.ensures.edge))

pub returns-clause-widths : goal.returns-clause-widths
returns-clause-widths c =
    let t = c.args.tree.now in
    let wide : FitsSigned w64 c.args.width = c.ranges.width in
    c.edge_solid.ensures.widths ∙ ap (λ (w : ℤ). widths_after t w c.edge_solid.result.placed_at) (to_z-of_z w64 c.args.width wide)
    ∙ widths_past_edge t c.args.width c.args.from.event c.args.event (Opens c.args.index) c.edge_solid.result.placed_at c.requires.next.found c.requires.opens c.edge_solid.ensures.place c.edge_solid.ensures.edge.begins
    ∙ ap (widths_at t c.args.width) (sym (c.edge_solid.ensures.edge.ends ∙ ap (λ (e : ℕ). place (e + 1) 0) c.edge_solid.ensures.place))

pub returns-clause-placed : goal.returns-clause-placed
returns-clause-placed c =
    let within = solid_within c.args.tree.now c.args.from.event c.args.event c.requires.next.found in
    holds_start c.args.tree.now c.edge_solid.result.placed_at (let e = c.edge_solid.ensures.place in omega arith) c.edge_solid.ensures.edge.begins

pub returns-clause-holds : goal.returns-clause-holds
returns-clause-holds c =
    let within = solid_within c.args.tree.now c.args.from.event c.args.event c.requires.next.found in
    let ends = c.edge_solid.ensures.edge.ends in
    subst (Holds c.args.tree.now) (sym ends) (holds_start c.args.tree.now (place (c.edge_solid.result.placed_at.event + 1) 0) (let e = c.edge_solid.ensures.place in omega arith) refl)
