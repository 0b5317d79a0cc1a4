use Rattle.std.proofs.Common.{◌≡◌, ◌∙◌, arith, to_z, of_z}
use Rattle.std.proofs.lemmas.Int.{ints}
use mir.Syntax.{w64}
use Rattle.boxes.specs.Tree.{open_before}
use Rattle.paint.proofs.SolidLemmas.{line_joined}
use Rattle.paint.proofs.lines.push_line.Goals as goal

pub returns-clause-items : goal.returns-clause-items
returns-clause-items c =
    let t = c.args.canvas.now.tree.now in
    let exact : to_z w64 (of_z w64 c.baseline_of-baseline.result) ≡ c.baseline_of-baseline.result = omega (arith, ints) in
    line_joined c.args.canvas.now.faces.now t c.args.canvas.now.origin c.args.s.now c.args.leaf.now c.line_at-line.result c.innermost-content.result _ _ _ _
    c.in_ok-push_area.ensures.items c.in_ok-push_words.ensures.items c.line_at-line.ensures.line (c.innermost-content.ensures.value t (open_before t.events c.args.s.now.at.event) c.requires.place.boxes.are) (exact ∙ c.baseline_of-baseline.ensures)

pub push_words-requires-clause-place : goal.push_words-requires-clause-place
push_words-requires-clause-place c = record {
  origin = c.requires.place.origin;
  boxes = c.requires.place.boxes;
  faces = c.in_ok-push_area.ensures.faces;
}
