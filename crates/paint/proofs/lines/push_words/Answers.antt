use Rattle.std.proofs.Common.{◌≡◌, ◌∙◌, ℤ, ◌+ℤ◌, ◌++◌, ap, arith, to_z, of_z}
use Rattle.std.proofs.lemmas.Int.{ints}
use mir.Syntax.{w64}
use Rattle.boxes.specs.Tree.{open_before}
use Rattle.line_place.specs.Placing.{runs_of}
use Rattle.paint.specs.Items.{words_items}
use Rattle.paint.specs.Views.{items_in}
use Rattle.paint.proofs.SolidLemmas.{words_joined}
use Rattle.paint.proofs.lines.push_words.Goals as goal

pub returns-clause-items : goal.returns-clause-items
returns-clause-items c =
    let faces = c.args.canvas.now.faces.now in
    let t = c.args.canvas.now.tree.now in
    let o = c.args.canvas.now.origin in
    let boxes = open_before t.events c.args.at in
    let leaf = c.args.leaf.now in
    let exact : to_z w64 (of_z w64 c.args.baseline) ≡ c.args.baseline = omega (arith, ints) in
    let left : to_z w64 (of_z w64 (to_z w64 (of_z w64 o.left) +ℤ to_z w64 (of_z w64 c.args.content.now.left))) ≡ o.left +ℤ c.args.content.now.left = omega (arith, ints) in
    let width : to_z w64 (of_z w64 c.args.content.now.width) ≡ c.args.content.now.width = omega (arith, ints) in
    words_joined faces t o boxes leaf c.args.line c.args.content.now _ _ _ _ _ _ c.in_ok-push_first.ensures.items c.in_ok-push_runs.ensures.items left (c.as_slice.ensures ∙ c.in_ok-runs.ensures.value ∙ ap (runs_of faces leaf c.args.line) width)
    ∙ ap (λ (y : ℤ). items_in faces c.args.out.now.items ++ words_items faces t o boxes leaf c.args.line c.args.content.now y) exact
