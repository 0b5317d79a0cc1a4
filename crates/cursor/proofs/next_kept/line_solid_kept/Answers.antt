use Rattle.std.proofs.Common.{◌≡◌, ◌+◌, ◌∙◌, ap, sym, arith, rules, FitsSigned, ℤ, length, to_z, of_z, subst, ℕ}
use Rattle.std.specs.Int.{w64}
use Rattle.std.specs.Str.{IsUtf8}
use Rattle.std.proofs.lemmas.Int.{to_z-of_z}
use Rattle.boxes.proofs.TreeFacts.{leaf_there}
use Rattle.boxes.specs.Tree.{Holds, open_before}
use Rattle.line_fill.specs.Kept.{Asked, HasAsked, asked_of}
use Rattle.line_fill.specs.Kept as kept
use Rattle.line_fill.specs.LineEnd.{IsLine}
use Rattle.cursor.specs.Asks.{AsksForLine}
use Rattle.cursor.specs.Fields.{solid_view}
use Rattle.cursor.specs.Remainder.{SolidView, leaf_measure}
use Rattle.seams.specs.Runs.{width_in}
use Rattle.seams.specs.Seams.{seam_of}
use Rattle.seams.specs.Widths.{widths_of, widths_at, widths_after}
use Rattle.cursor.proofs.LineLemmas.{IsAtEnd, line_ends, line_is, line_small, line_widths}
use Rattle.cursor.proofs.RemLemmas.{Begins, begins_here, stands}
use Rattle.cursor.proofs.WidthLemmas.{end_at_leaf, widths_from}
use Rattle.cursor.proofs.next_kept.line_solid_kept.Given as given
use Rattle.cursor.proofs.next_kept.line_solid_kept.Goals as goal
use Rattle.cursor.proofs.next_kept.line_solid_kept.Goals.{In-Ok}

pub leaf-leaf-requires : goal.leaf-leaf-requires
leaf-leaf-requires g c = leaf_there c.args.tree.now c.count-count.ensures.tree c.args.found.event c.args.found.number c.requires.leaf

pub line-requires-clause-good : goal.line-requires-clause-good
line-requires-clause-good g c = (begins_here c.args.tree.now c.args.from c.begin_of-at.result c.args.found.event c.args.found.number c.leaf-leaf.result.now c.count-count.ensures.tree c.requires.next.holds c.requires.next.found c.requires.leaf c.leaf-leaf.ensures c.begin_of-at.ensures.event c.begin_of-at.ensures.offset).good

pub line-requires-clause-from : goal.line-requires-clause-from
line-requires-clause-from g c = (begins_here c.args.tree.now c.args.from c.begin_of-at.result c.args.found.event c.args.found.number c.leaf-leaf.result.now c.count-count.ensures.tree c.requires.next.holds c.requires.next.found c.requires.leaf c.leaf-leaf.ensures c.begin_of-at.ensures.event c.begin_of-at.ensures.offset).inside

pub seam_along-seam-requires-clause-holds : goal.seam_along-seam-requires-clause-holds
seam_along-seam-requires-clause-holds g c = (begins_here c.args.tree.now c.args.from c.begin_of-at.result c.args.found.event c.args.found.number c.leaf-leaf.result.now c.count-count.ensures.tree c.requires.next.holds c.requires.next.found c.requires.leaf c.leaf-leaf.ensures c.begin_of-at.ensures.event c.begin_of-at.ensures.offset).holds

pub line-requires-clause-faced : goal.line-requires-clause-faced
line-requires-clause-faced g c = (c.requires.tree.faced c.args.found.number c.leaf-leaf.result.now c.leaf-leaf.ensures).spans

pub seam_along-seam-requires-clause-widths : goal.seam_along-seam-requires-clause-widths
seam_along-seam-requires-clause-widths g c =
    let wide : FitsSigned w64 c.args.width = c.ranges.width in
    c.requires.next.widths_is ∙ widths_from c.args.tree.now c.args.width c.args.from c.begin_of-at.result c.args.found.event (stands c.args.tree.now c.args.from c.requires.next.holds) c.requires.next.found c.begin_of-at.ensures.event c.begin_of-at.ensures.offset
    ∙ ap (λ (w : ℤ). widths_at c.args.tree.now w c.begin_of-at.result) (sym (to_z-of_z w64 c.args.width wide))

begins : (g : given.Over) (c : In-Ok g) → Begins c.args.tree.now c.begin_of-at.result c.leaf-leaf.result.now
begins g c = begins_here c.args.tree.now c.args.from c.begin_of-at.result c.args.found.event c.args.found.number c.leaf-leaf.result.now c.count-count.ensures.tree c.requires.next.holds c.requires.next.found c.requires.leaf c.leaf-leaf.ensures c.begin_of-at.ensures.event c.begin_of-at.ensures.offset

ends : (g : given.Over) (c : In-Ok g) → IsAtEnd c.args.tree.now c.begin_of-at.result c.leaf-leaf.result.now c.in-Ok.line
ends g c =
    let utf8 : IsUtf8 c.leaf-leaf.result.now.text = rw (← c.as_str-text.ensures) c.as_str-text.utf8 in
    line_ends c.args.faces.now c.args.tree.now c.begin_of-at.result c.leaf-leaf.result.now _ c.in-Ok.line (begins g c) utf8 c.in-Ok.ensures.line c.in-Ok.ensures.end

-- the measure of the leaf's lines
measure : (g : given.Over) (c : In-Ok g) → c.innermost-measure.result ≡ leaf_measure c.args.tree.now c.args.width c.args.found.event
measure g c =
    let wide : FitsSigned w64 c.args.width = c.ranges.width in
    c.innermost-measure.ensures.width c.args.tree.now (open_before c.args.tree.now.events c.args.found.event)
    (c.seam_along-seam.ensures.widths ∙ ap (λ (j : ℕ). widths_of c.args.tree.now (to_z w64 (of_z w64 c.args.width)) (open_before c.args.tree.now.events j)) (end_at_leaf c.args.tree.now c.args.from.event c.args.found.event c.args.found.number c.begin_of-at.result c.requires.next.found c.requires.leaf c.begin_of-at.ensures.event))
    ∙ ap (λ (w : ℤ). width_in c.args.tree.now w (open_before c.args.tree.now.events c.args.found.event)) (to_z-of_z w64 c.args.width wide)

pub solid_of-requires-clause-good : goal.solid_of-requires-clause-good
solid_of-requires-clause-good g c = (begins g (goal.at.solid_of-requires-clause-good g c).In-Ok).good

pub solid_of-requires-clause-faced : goal.solid_of-requires-clause-faced
solid_of-requires-clause-faced g c = c.requires.tree.faced c.args.found.number c.leaf-leaf.result.now c.leaf-leaf.ensures

pub solid_of-requires-clause-line : goal.solid_of-requires-clause-line
solid_of-requires-clause-line g c = (ends g (goal.at.solid_of-requires-clause-line g c).In-Ok).inside

pub solid_of-requires-clause-event : goal.solid_of-requires-clause-event
solid_of-requires-clause-event g c = let f = (begins g (goal.at.solid_of-requires-clause-event g c).In-Ok).few in omega arith

pub returns-clause-kind : goal.returns-clause-kind
returns-clause-kind g c = ap (λ (s : SolidView). s.kind) c.solid_of.ensures.value

pub returns-clause-placed : goal.returns-clause-placed
returns-clause-placed g c = subst (Holds c.args.tree.now) (sym (ap (λ (s : SolidView). s.placed_at) c.solid_of.ensures.value)) (begins g (goal.at.returns-clause-placed g c).In-Ok).holds

pub returns-clause-holds : goal.returns-clause-holds
returns-clause-holds g c = subst (Holds c.args.tree.now) (sym (ap (λ (s : SolidView). s.end) c.solid_of.ensures.value)) (ends g (goal.at.returns-clause-holds g c).In-Ok).holds

pub returns-clause-solid : goal.returns-clause-solid
returns-clause-solid g c =
    let wide : FitsSigned w64 c.args.width = c.ranges.width in
    let fits : FitsSigned w64 c.innermost-measure.result = search rules in
    let fills : IsLine c.args.faces.now c.leaf-leaf.result.now c.begin_of-at.result.offset (leaf_measure c.args.tree.now c.args.width c.args.found.event) c.in-Ok.line = subst (λ (w : ℤ). IsLine c.args.faces.now c.leaf-leaf.result.now c.begin_of-at.result.offset w c.in-Ok.line) (to_z-of_z w64 c.innermost-measure.result fits ∙ measure g (goal.at.returns-clause-solid g c).In-Ok) c.in-Ok.ensures.line in
    let seam_is : c.seam_along-seam.result ≡ seam_of c.args.tree.now c.begin_of-at.result c.args.width = subst (λ (w : ℤ). c.seam_along-seam.result ≡ seam_of c.args.tree.now c.begin_of-at.result w) (to_z-of_z w64 c.args.width wide) c.seam_along-seam.ensures.value in
    line_is c.args.faces.now c.args.tree.now c.args.width c.args.from c.begin_of-at.result c.args.found.event c.args.found.number c.leaf-leaf.result.now c.in-Ok.line c.seam_along-seam.result (solid_view c.solid_of.result)
    c.requires.next.found c.requires.leaf c.leaf-leaf.ensures c.begin_of-at.ensures.event c.begin_of-at.ensures.offset fills seam_is c.solid_of.ensures.value

pub returns-clause-small : goal.returns-clause-small
returns-clause-small g c =
    let seam = c.seam_along-seam.ensures in
    line_small (solid_view c.solid_of.result) c.seam_along-seam.result (ap (λ (s : SolidView). s.seam) c.solid_of.ensures.value) seam.whole seam.kept seam.head seam.tail c.solid_of.ensures.height c.solid_of.ensures.some

pub returns-clause-widths : goal.returns-clause-widths
returns-clause-widths g c =
    let wide : FitsSigned w64 c.args.width = c.ranges.width in
    let some = (ends g (goal.at.returns-clause-widths g c).In-Ok).some in
    c.seam_along-seam.ensures.widths ∙ ap (λ (w : ℤ). widths_after c.args.tree.now w c.begin_of-at.result) (to_z-of_z w64 c.args.width wide)
    ∙ line_widths c.args.tree.now c.args.width c.args.from c.begin_of-at.result c.args.found.event c.args.found.number (length c.leaf-leaf.result.now.text) c.in-Ok.line.to c.requires.next.found c.requires.leaf c.begin_of-at.ensures.event some
    ∙ ap (widths_at c.args.tree.now c.args.width) (sym (ap (λ (s : SolidView). s.end) c.solid_of.ensures.value))

pub returns-clause-asked : goal.returns-clause-asked
returns-clause-asked g c =
    let d = (goal.at.returns-clause-asked g c).In-Ok in
    let fits : FitsSigned w64 c.innermost-measure.result = search rules in
    let b = begins g d in
    let m : to_z w64 (of_z w64 c.innermost-measure.result) ≡ leaf_measure c.args.tree.now c.args.width c.begin_of-at.result.event =
    to_z-of_z w64 c.innermost-measure.result fits ∙ (measure g d ∙ ap (leaf_measure c.args.tree.now c.args.width) (sym c.begin_of-at.ensures.event)) in
    let a : ℤ → Asked = λ w. asked_of c.leaf-leaf.result.now c.begin_of-at.result.offset w in
    subst (λ (s : SolidView). AsksForLine c.args.tree.now c.args.width s c.args.lines.now.kept c.line.new.self.kept c.args.steps.now c.line.new.steps) (sym c.solid_of.ensures.value) (record {
      number = b.names.0;
      leaf = c.leaf-leaf.result.now;
      names = b.names.1;
      has = b.names.2;
      asked = subst (λ (w : ℤ). HasAsked (a w) c.args.lines.now.kept c.line.new.self.kept) m c.in-Ok.ensures.asked;
      held = subst (λ (w : ℤ). kept.Holds c.args.lines.now.kept (a w) → c.line.new.steps ≡ c.args.steps.now) m c.in-Ok.ensures.held;
      fresh = subst (λ (w : ℤ). (kept.Holds c.args.lines.now.kept (a w) → ⊥) → c.line.new.steps ≡ c.args.steps.now + 1) m c.in-Ok.ensures.fresh;
    })
