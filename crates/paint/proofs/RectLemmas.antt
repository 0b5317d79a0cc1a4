-- The rectangles of a box, one after another.
use Rattle.std.proofs.Common.{◌≡◌, ◌∙◌, ℤ, List, ◌++◌, Option, Some, sym, ap, append_assoc}
use Rattle.bk_num.specs.Sides.{at_side}
use Rattle.bk_num.specs.declared.sides.BoxSide.TheVariants as side
use Rattle.bk_num.specs.declared.values.Color.{Color}
use Rattle.boxes.specs.Spans.{units_at}
use Rattle.boxes.specs.declared.item.Item.{Item}
use Rattle.boxes.specs.declared.props.BoxProps.{BoxProps}
use Rattle.paint.specs.declared.item.Area.{Area}
use Rattle.paint.specs.Rects.{border_rects, edge_rects, left_area, right_area, side_rects}

edge_same : (thick thin : ℤ) (color : Option Color) (c : Color) (a : Area) (y : Option ℤ) → thick ≡ thin → color ≡ Some c → edge_rects thick (Some c) a y ≡ edge_rects thin color a y
edge_same thick thin color c a y same is = ap (λ (z : ℤ). edge_rects z (Some c) a y) same ∙ ap (λ (o : Option Color). edge_rects thin o a y) (sym is)

border_same : (thick thin : ℤ) (color : Option Color) (c : Color) (a b : Area) → thick ≡ thin → color ≡ Some c → a ≡ b → border_rects thick (Some c) a ≡ border_rects thin color b
border_same thick thin color c a b same is area = ap (λ (z : ℤ). border_rects z (Some c) a) same ∙ ap (λ (o : Option Color). border_rects thin o a) (sym is) ∙ ap (border_rects thin color) area

pub sides_joined : (p : BoxProps) (a right left : Area) (upper lower : Option ℤ) (w0 w1 w2 w3 : ℤ) (c0 c1 c2 c3 : Color) (x0 x1 x2 x3 x4 : List Item) →
    x1 ≡ x0 ++ edge_rects w0 (Some c0) a upper → x2 ≡ x1 ++ border_rects w1 (Some c1) right → x3 ≡ x2 ++ edge_rects w2 (Some c2) a lower → x4 ≡ x3 ++ border_rects w3 (Some c3) left →
    w0 ≡ units_at p.border side.Top → w1 ≡ units_at p.border side.Right → w2 ≡ units_at p.border side.Bottom → w3 ≡ units_at p.border side.Left →
    at_side p.colors side.Top ≡ Some c0 → at_side p.colors side.Right ≡ Some c1 → at_side p.colors side.Bottom ≡ Some c2 → at_side p.colors side.Left ≡ Some c3 →
    right ≡ right_area a (units_at p.border side.Right) → left ≡ left_area a (units_at p.border side.Left) → x4 ≡ x0 ++ side_rects p a upper lower
sides_joined p a right left upper lower w0 w1 w2 w3 c0 c1 c2 c3 x0 x1 x2 x3 x4 e1 e2 e3 e4 v0 v1 v2 v3 k0 k1 k2 k3 right_is left_is =
    let r0 : List Item = edge_rects (units_at p.border side.Top) (at_side p.colors side.Top) a upper in
    let r1 : List Item = border_rects (units_at p.border side.Right) (at_side p.colors side.Right) (right_area a (units_at p.border side.Right)) in
    let r2 : List Item = edge_rects (units_at p.border side.Bottom) (at_side p.colors side.Bottom) a lower in
    let r3 : List Item = border_rects (units_at p.border side.Left) (at_side p.colors side.Left) (left_area a (units_at p.border side.Left)) in
    let f1 : x1 ≡ x0 ++ r0 = e1 ∙ ap (λ (l : List Item). x0 ++ l) (edge_same w0 _ _ c0 a upper v0 k0) in
    let f2 : x2 ≡ x1 ++ r1 = e2 ∙ ap (λ (l : List Item). x1 ++ l) (border_same w1 _ _ c1 right _ v1 k1 right_is) in
    let f3 : x3 ≡ x2 ++ r2 = e3 ∙ ap (λ (l : List Item). x2 ++ l) (edge_same w2 _ _ c2 a lower v2 k2) in
    let f4 : x4 ≡ x3 ++ r3 = e4 ∙ ap (λ (l : List Item). x3 ++ l) (border_same w3 _ _ c3 left _ v3 k3 left_is) in
    f4 ∙ ap (λ (l : List Item). l ++ r3) f3 ∙ append_assoc x2 r2 r3 ∙ ap (λ (l : List Item). l ++ (r2 ++ r3)) f2 ∙ append_assoc x1 r1 (r2 ++ r3) ∙ ap (λ (l : List Item). l ++ (r1 ++ (r2 ++ r3))) f1
    ∙ append_assoc x0 r0 (r1 ++ (r2 ++ r3))
