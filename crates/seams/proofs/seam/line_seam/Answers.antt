use Rattle.std.proofs.Common.{◌≡◌, ℤ, pos, Bool, ℕ, List, [], None, ap, ◌∙◌, arith, length, to_z, of_z}
use Rattle.std.proofs.lemmas.Int.{ints}
use mir.Syntax.{w64}
use Rattle.bk_num.specs.declared.ids.NameId.{NameId}
use Rattle.bk_num.specs.declared.sides.BoxSide.TheVariants as side
use Rattle.boxes.specs.Clones.{clone_edges}
use Rattle.boxes.specs.Tree.{Tree, open_before}
use Rattle.seams.specs.declared.open_box.OpenBox.{OpenBox}
use Rattle.seams.specs.declared.seam_info.SeamInfo.{SeamInfo}
use Rattle.seams.specs.declared.seam_info.Class.TheVariants.{B}
use Rattle.seams.specs.Meets.{is_inside}
use Rattle.seams.specs.Widths.{innermost_in}
use Rattle.seams.proofs.RunLemmas.{events_none}
use Rattle.seams.proofs.WidthLemmas.{widths_size}
use Rattle.seams.proofs.seam.line_seam.Goals as goal

abbrev made : ℤ → ℤ → Bool → NameId → SeamInfo
made head tail avoid name = record { class = B; forced = None; whole_gap = pos 0; kept_gap = pos 0; head = head; tail = tail; avoid = avoid; name = name }

pub returns-clause-value : goal.returns-clause-value
returns-clause-value c =
    let t : Tree = c.args.tree.now in
    let boxes : List ℕ = open_before t.events c.args.event in
    let exact : to_z w64 (of_z w64 c.args.measure) ≡ c.args.measure = omega (arith, ints) in
    let size = c.count.ensures.count ∙ ap length c.requires.widths ∙ widths_size t c.args.measure boxes in
    let around : c.at_depth-around.result ≡ innermost_in t c.args.measure boxes = simp exact at c.at_depth-around.ensures.value t [] boxes c.requires.widths size in
    let head_low = c.at_depth-around.ensures.head.0 in
    let head_high = c.at_depth-around.ensures.head.1 in
    let tail_low = c.at_depth-around.ensures.tail.0 in
    let tail_high = c.at_depth-around.ensures.tail.1 in
    let head : to_z w64 (of_z w64 c.at_depth-around.result.head) ≡ c.at_depth-around.result.head = omega (arith, ints) in
    let tail : to_z w64 (of_z w64 c.at_depth-around.result.tail) ≡ c.at_depth-around.result.tail = omega (arith, ints) in
    let avoid : c.keeps_through.result ≡ is_inside t c.args.event [] = c.keeps_through.ensures ∙ ap (is_inside t c.args.event) (events_none t c.args.event c.args.event (omega arith)) in
    ap (λ (z : ℤ). made z (to_z w64 (of_z w64 c.at_depth-around.result.tail)) c.keeps_through.result c.line_name.result) (head ∙ ap (λ (o : OpenBox). o.head) around)
    ∙ ap (λ (z : ℤ). made (clone_edges t c.args.measure side.Top boxes) z c.keeps_through.result c.line_name.result) (tail ∙ ap (λ (o : OpenBox). o.tail) around)
    ∙ ap (λ (b : Bool). made (clone_edges t c.args.measure side.Top boxes) (clone_edges t c.args.measure side.Bottom boxes) b c.line_name.result) avoid
    ∙ ap (made (clone_edges t c.args.measure side.Top boxes) (clone_edges t c.args.measure side.Bottom boxes) (is_inside t c.args.event [])) c.line_name.ensures
