-- The rectangles of a box on a page: its background, then its borders top, right, bottom and left (CSS 2.1, E.2;
-- css-break-3, 5.4).
use Rattle.std.specs.Prelude.{ℤ, pos, ◌+ℤ◌, ◌-ℤ◌, List, [], ◌∷◌, ◌++◌, Option, None, Some, if◌then◌else◌}
use Rattle.std.specs.Ordering.{int_eq}
use Rattle.bk_num.specs.Sides.{at_side}
use Rattle.bk_num.specs.declared.sides.BoxSide.TheVariants as side
use Rattle.bk_num.specs.declared.values.Color.{Color}
use Rattle.boxes.specs.Spans.{units_at}
use Rattle.boxes.specs.declared.item.Item.{Item}
use Rattle.boxes.specs.declared.props.BoxProps.{BoxProps}
use Rattle.paint.specs.Opens.{border_in}
use Rattle.paint.specs.Views.{rect_item}
use Rattle.paint.specs.declared.extent.VerticalExtent.{VerticalExtent}
use Rattle.paint.specs.declared.item.Area.{Area}
use Rattle.paint.specs.declared.item.SolidOrigin.{SolidOrigin}
use Rattle.boxes.specs.declared.span.Content.{Content}

-- the area of a fragment: it has the left and the width of the border box, and reaches from the least top to the
-- greatest bottom
abbrev pub fragment_area : SolidOrigin → Content → VerticalExtent → Area
fragment_area o border e =
    record { x = o.left +ℤ border.left; y = o.top +ℤ e.top; w = border.width; h = e.bottom -ℤ e.top }

-- a transparent background isn't painted
unfoldable pub background_rects : Option Color → Area → List Item
background_rects None a = []
background_rects (Some color) a = rect_item a color ∷ []

-- nor is a border of no width
unfoldable pub border_rects : ℤ → Option Color → Area → List Item
border_rects thick None a = []
border_rects thick (Some color) a = if int_eq thick (pos 0) then [] else rect_item a color ∷ []

-- an upper or a lower border, which is as wide as the fragment, from a top on; none where its edge isn't on the page
unfoldable pub edge_rects : ℤ → Option Color → Area → Option ℤ → List Item
edge_rects thick color a None = []
edge_rects thick color a (Some y) = border_rects thick color (record { x = a.x; y = y; w = a.w; h = thick })

-- a border beside the fragment's content is as high as the fragment
abbrev pub left_area : Area → ℤ → Area
left_area a thick = record { x = a.x; y = a.y; w = thick; h = a.h }

-- the border at the right edge of the fragment
abbrev pub right_area : Area → ℤ → Area
right_area a thick = record { x = (a.x +ℤ a.w) -ℤ thick; y = a.y; w = thick; h = a.h }

-- the upper border stands at the top of the upper edge
abbrev pub upper_top : SolidOrigin → Option VerticalExtent → Option ℤ
upper_top o None = None
upper_top o (Some e) = Some (o.top +ℤ e.top)

-- the lower border ends at the bottom of the lower edge
abbrev pub lower_top : SolidOrigin → ℤ → Option VerticalExtent → Option ℤ
lower_top o thick None = None
lower_top o thick (Some e) = Some ((o.top +ℤ e.bottom) -ℤ thick)

-- the borders of a fragment: top, right, bottom and left, each in its colour
abbrev pub side_rects : BoxProps → Area → Option ℤ → Option ℤ → List Item
side_rects p a upper lower =
    edge_rects (units_at p.border side.Top) (at_side p.colors side.Top) a upper
    ++ (border_rects (units_at p.border side.Right) (at_side p.colors side.Right)
    (right_area a (units_at p.border side.Right))
    ++ (edge_rects (units_at p.border side.Bottom) (at_side p.colors side.Bottom) a lower
    ++ border_rects (units_at p.border side.Left) (at_side p.colors side.Left)
    (left_area a (units_at p.border side.Left))))

-- the background of a fragment, then its borders, where the tops of the upper and the lower one are known
unfoldable pub box_rects : BoxProps → Area → Option ℤ → Option ℤ → List Item
box_rects p a upper lower = background_rects p.background a ++ side_rects p a upper lower

-- the rectangles of a box in the content of the box around it, which reaches so far, as do its upper and its lower
-- edge; none where it has no solid
unfoldable pub fragment_rects : SolidOrigin → BoxProps → Content → Option VerticalExtent → Option VerticalExtent →
    Option VerticalExtent → List Item
fragment_rects o p outer None upper lower = []
fragment_rects o p outer (Some e) upper lower =
    box_rects p (fragment_area o (border_in p outer) e) (upper_top o upper)
    (lower_top o (units_at p.border side.Bottom) lower)
