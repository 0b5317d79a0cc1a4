-- The bounds of the areas of margin boxes.
use Rattle.std.proofs.Common.{List, [], ◌∷◌, pos, ◌^◌, ◌-ℤ◌, arith}
use Rattle.std.proofs.lemmas.Int.{ints}
use Rattle.std.proofs.lemmas.List.Elements.{All-cons, All-nil}
use Rattle.std.specs.List.{All}
use Rattle.bk_num.specs.Numbers.{IsWithin}
use Rattle.boxes.specs.Frames.{IsGoodFrame}
use Rattle.boxes.specs.declared.table.PageCell.{PageCell}
use Rattle.page_ctx.specs.Bounds.{IsGoodCell}
use Rattle.paint.specs.declared.item.Area.{Area}
use Rattle.margin_box.specs.Areas.{IsGoodArea, area, areas_of}

-- a corner and three boxes of a side
side_good : (corner box : Area) (more : List Area) → IsGoodArea corner → IsGoodArea box → All IsGoodArea more → All IsGoodArea (corner ∷ box ∷ box ∷ box ∷ more)
side_good corner box more at on rest =
    All-cons IsGoodArea corner (box ∷ box ∷ box ∷ more) at
    (All-cons IsGoodArea box (box ∷ box ∷ more) on (All-cons IsGoodArea box (box ∷ more) on (All-cons IsGoodArea box more on rest)))

-- the areas of the margin boxes of a good page box are good
pub areas_good : (c : PageCell) → IsGoodCell c → All IsGoodArea (areas_of c)
areas_good c good =
    let frame : IsGoodFrame c.frame = good.frame in
    let none : IsWithin (2 ^ 41) (pos 0) = omega (arith, ints) in
    let left : IsWithin (2 ^ 41) c.frame.left = omega (arith, ints) in
    let top : IsWithin (2 ^ 41) c.frame.top = omega (arith, ints) in
    let width : IsWithin (2 ^ 41) c.frame.width = omega (arith, ints) in
    let height : IsWithin (2 ^ 41) c.frame.height = omega (arith, ints) in
    let right : IsWithin (2 ^ 41) c.right = omega (arith, ints) in
    let bottom : IsWithin (2 ^ 41) c.bottom = omega (arith, ints) in
    let to_right : IsWithin (2 ^ 41) (c.width -ℤ c.right) = omega (arith, ints) in
    let to_bottom : IsWithin (2 ^ 41) (c.height -ℤ c.bottom) = omega (arith, ints) in
    let above = area c.frame.left (pos 0) c.frame.width c.frame.top in
    let beside_right = area (c.width -ℤ c.right) c.frame.top c.right c.frame.height in
    let below = area c.frame.left (c.height -ℤ c.bottom) c.frame.width c.bottom in
    let beside_left = area (pos 0) c.frame.top c.frame.left c.frame.height in
    let top_right = area (c.width -ℤ c.right) (pos 0) c.right c.frame.top in
    let bottom_right = area (c.width -ℤ c.right) (c.height -ℤ c.bottom) c.right c.bottom in
    let bottom_left = area (pos 0) (c.height -ℤ c.bottom) c.frame.left c.bottom in
    let last : List Area = bottom_left ∷ beside_left ∷ beside_left ∷ beside_left ∷ [] in
    let third : List Area = bottom_right ∷ below ∷ below ∷ below ∷ last in
    let second : List Area = top_right ∷ beside_right ∷ beside_right ∷ beside_right ∷ third in
    side_good (area (pos 0) (pos 0) c.frame.left c.frame.top) above second (record { x = none; y = none; w = left; h = top }) (record { x = left; y = none; w = width; h = top })
    (side_good top_right beside_right third (record { x = to_right; y = none; w = right; h = top }) (record { x = to_right; y = top; w = right; h = height })
    (side_good bottom_right below last (record { x = to_right; y = to_bottom; w = right; h = bottom }) (record { x = left; y = to_bottom; w = width; h = bottom })
    (side_good bottom_left beside_left [] (record { x = none; y = to_bottom; w = left; h = bottom }) (record { x = none; y = top; w = left; h = height }) (All-nil IsGoodArea))))
