use Rattle.std.proofs.Common.{◌≡◌, ◌∙◌, ap, arith, rules, Some, FitsSigned, ℤ, length, to_z, of_z, ℕ, List}
use Rattle.std.specs.Int.{w64}
use Rattle.std.specs.Prelude.{slice_range}
use Rattle.std.proofs.lemmas.Int.{ints, to_z-of_z}
use Rattle.boxes.specs.declared.page.SolidKind.TheVariants.{Line}
use Rattle.boxes.specs.declared.place.Position.{Position}
use Rattle.line_place.specs.Extents.{extent_of}
use Rattle.line_place.specs.declared.extent.Extent.{Extent}
use Rattle.cursor.specs.Remainder.{end_of}
use Rattle.cursor.proofs.RemLemmas.{made}
use Rattle.cursor.proofs.lines.solid_of.Goals as goal

pub text_of-requires-clause-order : goal.text_of-requires-clause-order
text_of-requires-clause-order c = let s = c.requires.line.some in omega arith

pub text_of-requires-clause-begins : goal.text_of-requires-clause-begins
text_of-requires-clause-begins c = rw c.as_str-text.ensures c.requires.line.begins

pub text_of-requires-clause-ends : goal.text_of-requires-clause-ends
text_of-requires-clause-ends c = rw c.as_str-text.ensures c.requires.line.ends

pub returns-clause-value : goal.returns-clause-value
returns-clause-value c =
    let text : List ℕ = c.args.leaf.now.text in
    let tall : FitsSigned w64 c.line_height-extent.result.height = search rules in
    let height : to_z w64 (of_z w64 c.line_height-extent.result.height) ≡ (extent_of c.args.faces.now c.args.leaf.now c.args.line.from c.args.line.to).height = to_z-of_z w64 c.line_height-extent.result.height tall ∙ ap (λ (e : Extent). e.height) c.line_height-extent.ensures.value in
    let ends : c.end_at.result ≡ end_of c.args.at.event (length text) c.args.line.to = c.end_at.ensures ∙ ap (λ (n : List ℕ). end_of c.args.at.event (length n) c.to.result) c.as_str-text.ensures ∙ ap (end_of c.args.at.event (length text)) c.to.ensures in
    let bytes : c.text_of.result.now ≡ slice_range text c.args.line.from c.args.line.to = c.text_of.ensures ∙ ap (λ (bs : List ℕ). slice_range bs c.args.line.from c.args.line.to) c.as_str-text.ensures in
    ap (λ (e : Position). made c.args.at e Line (Some c.args.line) (to_z w64 (of_z w64 c.line_height-extent.result.height)) c.args.seam c.text_of.result.now) ends
    ∙ ap (λ (h : ℤ). made c.args.at (end_of c.args.at.event (length text) c.args.line.to) Line (Some c.args.line) h c.args.seam c.text_of.result.now) height
    ∙ ap (made c.args.at (end_of c.args.at.event (length text) c.args.line.to) Line (Some c.args.line) (extent_of c.args.faces.now c.args.leaf.now c.args.line.from c.args.line.to).height c.args.seam) bytes

pub returns-clause-height : goal.returns-clause-height
returns-clause-height c =
    let tall : FitsSigned w64 c.line_height-extent.result.height = search rules in
    let height : to_z w64 (of_z w64 c.line_height-extent.result.height) ≡ c.line_height-extent.result.height = to_z-of_z w64 c.line_height-extent.result.height tall in
    let low = c.line_height-extent.ensures.low in
    let high = c.line_height-extent.ensures.high in
    rw height (omega (arith, ints))

pub returns-clause-some : goal.returns-clause-some
returns-clause-some c =
    let tall : FitsSigned w64 c.line_height-extent.result.height = search rules in
    let height : to_z w64 (of_z w64 c.line_height-extent.result.height) ≡ c.line_height-extent.result.height = to_z-of_z w64 c.line_height-extent.result.height tall in
    rw height c.line_height-extent.ensures.low
