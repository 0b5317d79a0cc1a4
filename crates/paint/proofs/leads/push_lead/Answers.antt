use Rattle.std.proofs.Common.{◌≡◌, ◌∙◌, ◌+ℤ◌, ◌-ℤ◌, ℤ, pos, not, true, is_ok, ap, arith, to_z, of_z}
use Rattle.std.proofs.lemmas.Int.{ints}
use mir.Syntax.{w64}
use Rattle.boxes.specs.Tree.{open_before}
use Rattle.metrics.specs.Widths.{text_width}
use Rattle.line_fill.specs.Widths.{pen_of}
use Rattle.paint.specs.Areas.{style_of}
use Rattle.paint.specs.Items.{lead_item}
use Rattle.paint.specs.Opens.{boxes_from, content_along}
use Rattle.paint.specs.Views.{text_item}
use Rattle.paint.specs.declared.item.TextPlace.{TextPlace}
use Rattle.paint.proofs.Lists.{pushed}
use Rattle.paint.proofs.leads.push_lead.Goals as goal

pub returns-clause-items : goal.returns-clause-items
unfolding lead_item
returns-clause-items c =
    let faces = c.args.canvas.now.faces.now in
    let t = c.args.canvas.now.tree.now in
    let o = c.args.canvas.now.origin in
    let lead = c.args.lead.now in
    let left : ℤ = (content_along t o.width (boxes_from lead.owner (open_before t.events c.args.at))).left in
    let exact : to_z w64 (of_z w64 c.lead_left-x.result) ≡ c.lead_left-x.result = omega (arith, ints) in
    let x = exact ∙ c.lead_left-x.ensures in
    let y : to_z w64 (of_z w64 c.args.baseline) ≡ c.args.baseline = omega (arith, ints) in
    let style = c.style_at-style.ensures ∙ ap (λ (z : ℤ). style_of z (to_z w64 (of_z w64 c.args.baseline)) lead.span) x ∙ ap (λ (z : ℤ). style_of ((o.left +ℤ left) -ℤ pos (text_width (pen_of faces lead.span) lead.text)) z lead.span) y in
    let ok : is_ok c.push.result ≡ true = c.is_err.ensures.negation ∙ ap not c.if-is_err.false in
    pushed faces _ _ (is_ok c.push.result) _ _ c.push.ensures.items ok (ap (λ (s : TextPlace). text_item faces s c.as_str-text.result.now) style ∙ ap (text_item faces (style_of ((o.left +ℤ left) -ℤ pos (text_width (pen_of faces lead.span) lead.text)) c.args.baseline lead.span)) c.as_str-text.ensures)
