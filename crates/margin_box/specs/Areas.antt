-- Where the margin boxes of a page stand (css-page-3, page-margin boxes), in units from the page's top left.
use Rattle.std.specs.Prelude.{ℤ, pos, ◌-ℤ◌, ◌^◌, List, [], ◌∷◌}
use Rattle.bk_num.specs.Numbers.{IsWithin}
use Rattle.boxes.specs.declared.table.PageCell.{PageCell}
use Rattle.paint.specs.declared.item.Area.{Area}

-- an area by its left, top, width and height
abbrev pub area : ℤ → ℤ → ℤ → ℤ → Area
area x y w h = record { x = x; y = y; w = w; h = h }

-- the 16 boxes in the order of the listing, clockwise from the page's top left: by the width and the height of the
-- page, its margins, and the width and the height between them
abbrev pub areas_by : ℤ → ℤ → ℤ → ℤ → ℤ → ℤ → ℤ → ℤ → List Area
areas_by width height top right bottom left across down =
    -- top-left-corner; top-left, top-center and top-right; top-right-corner
    area (pos 0) (pos 0) left top
    ∷ area left (pos 0) across top
    ∷ area left (pos 0) across top
    ∷ area left (pos 0) across top
    ∷ area (width -ℤ right) (pos 0) right top
    -- right-top, right-middle and right-bottom; bottom-right-corner
    ∷ area (width -ℤ right) top right down
    ∷ area (width -ℤ right) top right down
    ∷ area (width -ℤ right) top right down
    ∷ area (width -ℤ right) (height -ℤ bottom) right bottom
    -- bottom-right, bottom-center and bottom-left; bottom-left-corner
    ∷ area left (height -ℤ bottom) across bottom
    ∷ area left (height -ℤ bottom) across bottom
    ∷ area left (height -ℤ bottom) across bottom
    ∷ area (pos 0) (height -ℤ bottom) left bottom
    -- left-bottom, left-middle and left-top
    ∷ area (pos 0) top left down
    ∷ area (pos 0) top left down
    ∷ area (pos 0) top left down
    ∷ []

-- the margin boxes of a page: its frame's left and top are its left and top margins, and what is between the margins is
-- as wide and as high as the frame
abbrev pub areas_of : PageCell → List Area
areas_of c = areas_by c.width c.height c.frame.top c.right c.bottom c.frame.left c.frame.width c.frame.height

-- where an area stands, and its size, are within 2^41 units
pub record IsGoodArea (a : Area) : Type 0 where
  pub x : IsWithin (2 ^ 41) a.x
  pub y : IsWithin (2 ^ 41) a.y
  pub w : IsWithin (2 ^ 41) a.w
  pub h : IsWithin (2 ^ 41) a.h
