use Rattle.std.proofs.Common.{◌≡◌, ◌∙◌, ℕ, arith, ap, refl, sym, subst, ℤ, FitsSigned}
use Rattle.std.specs.Int.{w64}
use Rattle.std.proofs.lemmas.Int.{to_z-of_z}
use Rattle.seams.specs.Widths.{widths_at}
use Rattle.boxes.specs.declared.page.SolidKind.{SolidKind}
use Rattle.boxes.specs.declared.page.SolidKind.TheVariants.{CloseEdge, Line, OpenEdge}
use Rattle.cursor.specs.Asks.{AsksBy, AsksForLine}
use Rattle.cursor.specs.Conditions.{IsNext}
use Rattle.cursor.specs.Fields.{solid_view}
use Rattle.cursor.specs.Remainder.{IsSolid, SolidView, steps_by}
use Rattle.cursor.proofs.AskLemmas.{held_edge, held_line}
use Rattle.cursor.proofs.StepLemmas.{takes_line}
use Rattle.cursor.proofs.next_kept.next_solid_kept.Goals as goal

pub line_solid_kept-requires-clause-next : goal.line_solid_kept-requires-clause-next
line_solid_kept-requires-clause-next g c =
    let wide : FitsSigned w64 c.args.width = c.ranges.width in
    subst (λ (w : ℤ). IsNext c.args.tree.now w c.args.from c.args.widths.now c.in-Some.event) (sym (to_z-of_z w64 c.args.width wide))
    (record { holds = c.requires.holds; low = c.requires.low; high = c.requires.high; widths_is = c.requires.widths; found = sym c.in-Some.ensures.value })

pub returns-in-Ok-clause-solid : goal.returns-in-Ok-clause-solid
returns-in-Ok-clause-solid g c =
    let wide : FitsSigned w64 c.args.width = c.ranges.width in
    subst (λ (w : ℤ). IsSolid c.args.faces.now c.args.tree.now w c.args.from (solid_view c.in-Ok.solid)) (to_z-of_z w64 c.args.width wide) c.in-Ok.ensures.solid

pub open_solid-requires-clause-next : goal.open_solid-requires-clause-next
open_solid-requires-clause-next g c =
    let wide : FitsSigned w64 c.args.width = c.ranges.width in
    subst (λ (w : ℤ). IsNext c.args.tree.now w c.args.from c.args.widths.now c.in-Some.event) (sym (to_z-of_z w64 c.args.width wide))
    (record { holds = c.requires.holds; low = c.requires.low; high = c.requires.high; widths_is = c.requires.widths; found = sym c.in-Some.ensures.value })

pub returns-in-Opens-clause-solid : goal.returns-in-Opens-clause-solid
returns-in-Opens-clause-solid g c =
    let wide : FitsSigned w64 c.args.width = c.ranges.width in
    subst (λ (w : ℤ). IsSolid c.args.faces.now c.args.tree.now w c.args.from (solid_view c.open_solid.result)) (to_z-of_z w64 c.args.width wide) (c.open_solid.ensures.solid c.args.faces.now)

pub returns-in-Opens-clause-widths : goal.returns-in-Opens-clause-widths
returns-in-Opens-clause-widths g c =
    let wide : FitsSigned w64 c.args.width = c.ranges.width in
    c.open_solid.ensures.widths ∙ ap (λ (w : ℤ). widths_at c.args.tree.now w c.open_solid.result.end) (to_z-of_z w64 c.args.width wide)

pub close_solid-requires-clause-next : goal.close_solid-requires-clause-next
close_solid-requires-clause-next g c =
    let wide : FitsSigned w64 c.args.width = c.ranges.width in
    subst (λ (w : ℤ). IsNext c.args.tree.now w c.args.from c.args.widths.now c.in-Some.event) (sym (to_z-of_z w64 c.args.width wide))
    (record { holds = c.requires.holds; low = c.requires.low; high = c.requires.high; widths_is = c.requires.widths; found = sym c.in-Some.ensures.value })

pub returns-in-Closes-clause-solid : goal.returns-in-Closes-clause-solid
returns-in-Closes-clause-solid g c =
    let wide : FitsSigned w64 c.args.width = c.ranges.width in
    subst (λ (w : ℤ). IsSolid c.args.faces.now c.args.tree.now w c.args.from (solid_view c.close_solid.result)) (to_z-of_z w64 c.args.width wide) (c.close_solid.ensures.solid c.args.faces.now)

pub returns-in-Closes-clause-widths : goal.returns-in-Closes-clause-widths
returns-in-Closes-clause-widths g c =
    let wide : FitsSigned w64 c.args.width = c.ranges.width in
    c.close_solid.ensures.widths ∙ ap (λ (w : ℤ). widths_at c.args.tree.now w c.close_solid.result.end) (to_z-of_z w64 c.args.width wide)

pub returns-in-Ok-clause-widths : goal.returns-in-Ok-clause-widths
returns-in-Ok-clause-widths g c =
    let wide : FitsSigned w64 c.args.width = c.ranges.width in
    c.in-Ok.ensures.widths ∙ ap (λ (w : ℤ). widths_at c.args.tree.now w c.in-Ok.solid.end) (to_z-of_z w64 c.args.width wide)

pub returns-in-Err-clause-stays : goal.returns-in-Err-clause-stays
returns-in-Err-clause-stays g c =
    let wide : FitsSigned w64 c.args.width = c.ranges.width in
    c.in-Err.ensures.widths ∙ (ap (λ (w : ℤ). widths_at c.args.tree.now w c.args.from) (to_z-of_z w64 c.args.width wide) ∙ sym c.requires.widths)

pub returns-in-Ok-clause-asks : goal.returns-in-Ok-clause-asks
returns-in-Ok-clause-asks g c =
    let wide : FitsSigned w64 c.args.width = c.ranges.width in
    let s : SolidView = solid_view c.in-Ok.solid in
    let asked = subst (λ (w : ℤ). AsksForLine c.args.tree.now w s c.args.lines.now.kept c.line_solid_kept.new.lines.kept c.args.steps.now c.line_solid_kept.new.steps) (to_z-of_z w64 c.args.width wide) c.in-Ok.ensures.asked in
    subst (λ (k : SolidKind). AsksBy k c.args.tree.now c.args.width s c.args.lines.now.kept c.line_solid_kept.new.lines.kept c.args.steps.now c.line_solid_kept.new.steps) (sym c.in-Ok.ensures.kind) asked

pub returns-in-Opens-clause-asks : goal.returns-in-Opens-clause-asks
returns-in-Opens-clause-asks g c =
    subst (λ (k : SolidKind). AsksBy k c.args.tree.now c.args.width (solid_view c.open_solid.result) c.args.lines.now.kept c.args.lines.now.kept c.args.steps.now c.args.steps.now) (sym c.open_solid.ensures.kind) (refl, refl)

pub returns-in-Closes-clause-asks : goal.returns-in-Closes-clause-asks
returns-in-Closes-clause-asks g c =
    subst (λ (k : SolidKind). AsksBy k c.args.tree.now c.args.width (solid_view c.close_solid.result) c.args.lines.now.kept c.args.lines.now.kept c.args.steps.now c.args.steps.now) (sym c.close_solid.ensures.kind) (refl, refl)

no_open : (b : ℕ) (k : SolidKind) → k ≡ OpenEdge b → k ≡ Line → ⊥
no_open b k e f = cc

no_close : (b : ℕ) (k : SolidKind) → k ≡ CloseEdge b → k ≡ Line → ⊥
no_close b k e f = cc

pub returns-in-Ok-clause-now : goal.returns-in-Ok-clause-now
returns-in-Ok-clause-now g c =
    let wide : FitsSigned w64 c.args.width = c.ranges.width in
    let s : SolidView = solid_view c.in-Ok.solid in
    let asked : AsksForLine c.args.tree.now c.args.width s c.args.lines.now.kept c.line_solid_kept.new.lines.kept c.args.steps.now c.line_solid_kept.new.steps =
    subst (λ (w : ℤ). AsksForLine c.args.tree.now w s c.args.lines.now.kept c.line_solid_kept.new.lines.kept c.args.steps.now c.line_solid_kept.new.steps) (to_z-of_z w64 c.args.width wide) c.in-Ok.ensures.asked in
    held_line c.args.tree.now c.args.width s c.args.lines.now.kept c.line_solid_kept.new.lines.kept c.args.steps.now c.line_solid_kept.new.steps asked

pub returns-in-Opens-clause-now : goal.returns-in-Opens-clause-now
returns-in-Opens-clause-now g c =
    held_edge c.args.faces.now c.args.tree.now _ c.args.width c.args.from (solid_view c.open_solid.result) c.args.lines.now.kept (c.open_solid.ensures.solid c.args.faces.now) (no_open _ c.open_solid.result.kind c.open_solid.ensures.kind)

pub returns-in-Closes-clause-now : goal.returns-in-Closes-clause-now
returns-in-Closes-clause-now g c =
    held_edge c.args.faces.now c.args.tree.now _ c.args.width c.args.from (solid_view c.close_solid.result) c.args.lines.now.kept (c.close_solid.ensures.solid c.args.faces.now) (no_close _ c.close_solid.result.kind c.close_solid.ensures.kind)

pub returns-in-Ok-clause-takes : goal.returns-in-Ok-clause-takes
returns-in-Ok-clause-takes g c =
    takes_line c.args.tree.now _ (solid_view c.in-Ok.solid) c.args.lines.now.kept c.line_solid_kept.new.lines.kept c.args.steps.now c.line_solid_kept.new.steps c.in-Ok.ensures.asked c.line_solid_kept.ensures.most

pub returns-in-Ok-clause-step : goal.returns-in-Ok-clause-step
returns-in-Ok-clause-step g c =
    let one : steps_by c.in-Ok.solid.kind ≡ 1 = ap steps_by c.in-Ok.ensures.kind in
    let most = c.line_solid_kept.ensures.most in
    omega (arith, one, most)
