use Rattle.std.proofs.Common.{◌≤◌, length, rules, ap, sym, subst}
use Rattle.std.proofs.lemmas.Result.{err_from_is_err_and}
use Rattle.std.specs.List.{All}
use Rattle.bk_num.specs.Limits.{most_entries, most_events, most_text_bytes}
use Rattle.boxes.specs.declared.flow.Flow.{Flow}
use Rattle.style.specs.declared.style.Style.{Style}
use Rattle.metrics.proofs.FaceLemmas.{face-within}
use Rattle.box_gen.specs.Notes.{IsGoodBody, bytes_in, events_in}
use Rattle.box_gen.specs.Flow.{Built}
use Rattle.box_gen.specs.Sources.{AreWithin, source_in}
use Rattle.box_gen.specs.Trees.{Source}
use Rattle.box_gen.proofs.FacedLemmas.{HasStyleFaces}
use Rattle.box_gen.proofs.BuildLemmas.{flow-bodies, flow-bytes, flow-cause, flow-count, flow-events, sites-few}
use Rattle.box_gen.proofs.WithinLemmas.{starts-within}
use Rattle.box_gen.proofs.build.flow_by.Goals as goal

pub finish-requires-clause-few : goal.finish-requires-clause-few
finish-requires-clause-few c =
    let src : Source = source_in c.args.input.now in
    let there : HasStyleFaces c.args.input.now.faces.now src = λ (s : Style). face-within c.args.input.now.faces.now s.font_family s.font_style s.font_weight (search rules) in
    sites-few c.args.input.now.faces.now src c.in_ok-walker.walker.main.site c.in_ok-walker.walker.bodies.items there c.len.ensures.tree c.in_ok-walker.ensures.bodies c.in_ok-walker.ensures.shared

pub returns-in_err-walker-clause-cause : goal.returns-in_err-walker-clause-cause
returns-in_err-walker-clause-cause c =
    let src : Source = source_in c.args.input.now in
    let p = err_from_is_err_and c.from_residual.result c.from_residual.ensures.1 in
    rw (p.1, p.2) (λ e. flow-cause src (c.in_err-walker.ensures.cause e))

pub returns-in-Ok-clause-bodies : goal.returns-in-Ok-clause-bodies
returns-in-Ok-clause-bodies c =
    let src : Source = source_in c.args.input.now in
    let there : HasStyleFaces c.args.input.now.faces.now src = λ (s : Style). face-within c.args.input.now.faces.now s.font_family s.font_style s.font_weight (search rules) in
    subst (λ (f : Flow). All (IsGoodBody c.args.input.now.faces.now) f.notes) (sym c.in-Ok.ensures.flow) (flow-bodies c.args.input.now.faces.now src c.in_ok-walker.walker.main.site c.in_ok-walker.walker.bodies.items there c.len.ensures.tree c.in_ok-walker.ensures.bodies c.in_ok-walker.ensures.shared)

pub returns-in-Ok-clause-few : goal.returns-in-Ok-clause-few
returns-in-Ok-clause-few c =
    let src : Source = source_in c.args.input.now in
    subst (λ (f : Flow). bytes_in f ≤ most_text_bytes) (sym c.in-Ok.ensures.flow) (flow-bytes src c.in_ok-walker.walker.main.site c.in_ok-walker.walker.bodies.items c.in_ok-walker.ensures.main c.in_ok-walker.ensures.bodies c.in_ok-walker.ensures.shared)

pub returns-in-Ok-clause-events : goal.returns-in-Ok-clause-events
returns-in-Ok-clause-events c =
    let src : Source = source_in c.args.input.now in
    subst (λ (f : Flow). events_in f ≤ most_events) (sym c.in-Ok.ensures.flow) (flow-events src c.in_ok-walker.walker.main.site c.in_ok-walker.walker.bodies.items c.in_ok-walker.ensures.main c.in_ok-walker.ensures.bodies c.in_ok-walker.ensures.shared)

pub returns-in-Ok-clause-count : goal.returns-in-Ok-clause-count
returns-in-Ok-clause-count c =
    let src : Source = source_in c.args.input.now in
    let there : HasStyleFaces c.args.input.now.faces.now src = λ (s : Style). face-within c.args.input.now.faces.now s.font_family s.font_style s.font_weight (search rules) in
    subst (λ (f : Flow). length f.notes ≤ most_entries) (sym c.in-Ok.ensures.flow) (flow-count c.args.input.now.faces.now src c.in_ok-walker.walker.main.site c.in_ok-walker.walker.bodies.items there c.len.ensures.tree c.in_ok-walker.ensures.bodies c.in_ok-walker.ensures.shared)

pub finish-requires-clause-within : goal.finish-requires-clause-within
finish-requires-clause-within c =
    let src : Source = source_in c.args.input.now in
    subst (AreWithin src.nodes) (ap (λ (b : Built). b.starts) c.in_ok-walker.ensures.main) (starts-within src c.len.ensures.tree)
