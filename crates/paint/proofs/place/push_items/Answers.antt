use Rattle.std.proofs.Common.{◌≡◌, ◌∙◌, ◌++◌, ℤ, append_assoc, arith, sym, ap, slice_get, List, to_z, of_z}
use Rattle.std.proofs.lemmas.Int.{ints}
use Rattle.std.proofs.lemmas.Result.{on_ok_weaker}
use mir.Syntax.{w64}
use Rattle.metrics.specs.Face.{FontFace}
use Rattle.paint.specs.Pages.{area_items, flow_origin, tree_items}
use Rattle.paint.specs.Views.{items_in}
use Rattle.paint.specs.declared.item.SolidOrigin.{SolidOrigin}
use Rattle.boxes.specs.Tree.{Tree}
use Rattle.boxes.specs.declared.frames.Frame.{Frame}
use Rattle.boxes.specs.declared.item.Item.{Item}
use Rattle.boxes.specs.declared.flow.Note.{Note}
use Rattle.boxes.specs.declared.page.Placed.{Placed}
use Rattle.paint.proofs.place.push_items.Goals as goal

pub push_area-requires-clause-bodies : goal.push_area-requires-clause-bodies
push_area-requires-clause-bodies c = λ n note there. c.requires.flow.notes n note (ap (λ (l : List Note). slice_get l n) (sym c.as_slice-notes.ensures) ∙ there)

abbrev origin_at : ℤ → ℤ → ℤ → SolidOrigin
origin_at left top width = record { left = left; top = top; width = width }

origin_is : (f : Frame) (left top width : ℤ) → left ≡ f.left → top ≡ f.top → width ≡ f.width → origin_at left top width ≡ flow_origin f
origin_is f left top width l t w = ap (λ (z : ℤ). origin_at z top width) l ∙ ap (λ (z : ℤ). origin_at f.left z width) t ∙ ap (λ (z : ℤ). origin_at f.left f.top z) w

-- the tree's items, and then the note area's
together : (faces : List FontFace) (t : Tree) (o origin : SolidOrigin) (solids : List Placed) (area old first all : List Item) → o ≡ origin →
    first ≡ old ++ tree_items faces t o solids → all ≡ first ++ area → all ≡ old ++ (tree_items faces t origin solids ++ area)
together faces t o origin solids area old first all same f a =
    a ∙ ap (λ (l : List Item). l ++ area) (f ∙ ap (λ (z : SolidOrigin). old ++ tree_items faces t z solids) same) ∙ append_assoc old (tree_items faces t origin solids) area

pub returns-clause-items : goal.returns-clause-items
returns-clause-items c =
    let f = c.args.page.now.frame in
    let good = c.requires.page.bounded.frame in
    let left : to_z w64 (of_z w64 f.left) ≡ f.left = omega (arith, ints, good.left_low, good.left_high) in
    let top : to_z w64 (of_z w64 f.top) ≡ f.top = omega (arith, ints, good.top_low, good.top_high) in
    let width : to_z w64 (of_z w64 f.width) ≡ f.width = omega (arith, ints, good.width_low, good.width_high) in
    let area = area_items c.args.faces.now c.as_slice-notes.result.now f c.as_slice-2.result.now in
    rw (← c.as_slice.ensures, ← c.as_slice-notes.ensures, ← c.as_slice-2.ensures)
    (on_ok_weaker c.push_area.result
    (λ e. together c.args.faces.now c.args.flow.now.main _ (flow_origin f) c.as_slice.result.now area (items_in c.args.faces.now c.args.out.now.items) _ _
    (origin_is f _ _ _ left top width) c.in_ok-push_tree.ensures.items e)
    c.push_area.ensures.items)
