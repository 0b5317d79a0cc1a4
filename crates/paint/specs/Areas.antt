-- Where a solid and a text stand on a page, in units from its top left.
use Rattle.std.specs.Prelude.{ℤ, ◌+ℤ◌}
use Rattle.boxes.specs.declared.leaf.Span.{Span}
use Rattle.boxes.specs.declared.page.Placed.{Placed}
use Rattle.paint.specs.declared.item.Area.{Area}
use Rattle.paint.specs.declared.item.SolidOrigin.{SolidOrigin}
use Rattle.paint.specs.declared.item.TextPlace.{TextPlace}
use Rattle.boxes.specs.declared.span.Content.{Content}

-- the area of a solid whose content or border box has a left and a width
abbrev pub area_of : SolidOrigin → Content → Placed → Area
area_of o content s = record { x = o.left +ℤ content.left; y = o.top +ℤ s.top; w = content.width; h = s.height }

-- a span's style at a left, on a baseline
abbrev pub style_of : ℤ → ℤ → Span → TextPlace
style_of x y s = record { x = x; y = y; face = s.face; size = s.size; color = s.color }
