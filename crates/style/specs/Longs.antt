-- Which longhand a declaration declares, and what it gives to which side of a box.
use Rattle.std.specs.Prelude.{Bool, true, false, Option, Some, None}
use Rattle.bk_num.specs.declared.sides.BoxSide.{BoxSide}
use Rattle.bk_num.specs.declared.sides.BoxSide.TheVariants as side
use Rattle.style.specs.declared.longhand.Longhand.{Longhand}
use Rattle.style.specs.declared.longhand.Longhand.TheVariants as longhand
use Rattle.style.specs.declared.long.Long.{Long}
use Rattle.style.specs.declared.long.Long.TheVariants as long
use Rattle.style.specs.declared.long.SideLong.{SideLong}
use Rattle.style.specs.declared.long.SideLong.TheVariants as given

-- the longhand that is declared
abbrev pub longhand_of : Long → Longhand
longhand_of (long.Display g) = longhand.Display
longhand_of (long.Float g) = longhand.Float
longhand_of (long.MarginTop g) = longhand.Margin side.Top
longhand_of (long.MarginRight g) = longhand.Margin side.Right
longhand_of (long.MarginBottom g) = longhand.Margin side.Bottom
longhand_of (long.MarginLeft g) = longhand.Margin side.Left
longhand_of (long.PaddingTop g) = longhand.Padding side.Top
longhand_of (long.PaddingRight g) = longhand.Padding side.Right
longhand_of (long.PaddingBottom g) = longhand.Padding side.Bottom
longhand_of (long.PaddingLeft g) = longhand.Padding side.Left
longhand_of (long.BorderTopWidth g) = longhand.BorderWidth side.Top
longhand_of (long.BorderRightWidth g) = longhand.BorderWidth side.Right
longhand_of (long.BorderBottomWidth g) = longhand.BorderWidth side.Bottom
longhand_of (long.BorderLeftWidth g) = longhand.BorderWidth side.Left
longhand_of (long.BorderTopStyle g) = longhand.BorderStyle side.Top
longhand_of (long.BorderRightStyle g) = longhand.BorderStyle side.Right
longhand_of (long.BorderBottomStyle g) = longhand.BorderStyle side.Bottom
longhand_of (long.BorderLeftStyle g) = longhand.BorderStyle side.Left
longhand_of (long.BorderTopColor g) = longhand.BorderColor side.Top
longhand_of (long.BorderRightColor g) = longhand.BorderColor side.Right
longhand_of (long.BorderBottomColor g) = longhand.BorderColor side.Bottom
longhand_of (long.BorderLeftColor g) = longhand.BorderColor side.Left
longhand_of (long.Width g) = longhand.Width
longhand_of (long.Color g) = longhand.Color
longhand_of (long.BackgroundColor g) = longhand.BackgroundColor
longhand_of (long.FontFamily g) = longhand.FontFamily
longhand_of (long.FontSize g) = longhand.FontSize
longhand_of (long.FontStyle g) = longhand.FontStyle
longhand_of (long.FontWeight g) = longhand.FontWeight
longhand_of (long.LineHeight g) = longhand.LineHeight
longhand_of (long.TextAlign g) = longhand.TextAlign
longhand_of (long.TextIndent g) = longhand.TextIndent
longhand_of (long.WhiteSpace g) = longhand.WhiteSpace
longhand_of (long.OverflowWrap g) = longhand.OverflowWrap
longhand_of (long.ListStyleType g) = longhand.ListStyleType
longhand_of (long.Content g) = longhand.Content
longhand_of (long.CounterReset g) = longhand.CounterReset
longhand_of (long.CounterIncrement g) = longhand.CounterIncrement
longhand_of (long.StringSet g) = longhand.StringSet
longhand_of (long.BreakBefore g) = longhand.BreakBefore
longhand_of (long.BreakAfter g) = longhand.BreakAfter
longhand_of (long.BreakInside g) = longhand.BreakInside
longhand_of (long.Widows g) = longhand.Widows
longhand_of (long.Orphans g) = longhand.Orphans
longhand_of (long.Page g) = longhand.Page
longhand_of (long.BoxDecorationBreak g) = longhand.BoxDecorationBreak
longhand_of (long.BookFill g) = longhand.BookFill
longhand_of (long.Hyphens g) = longhand.Hyphens

-- what it gives to which side of a box; none where its longhand has no sides
abbrev pub side_long : Long → Option SideLong
side_long (long.MarginTop g) = Some (given.Margin side.Top g)
side_long (long.MarginRight g) = Some (given.Margin side.Right g)
side_long (long.MarginBottom g) = Some (given.Margin side.Bottom g)
side_long (long.MarginLeft g) = Some (given.Margin side.Left g)
side_long (long.PaddingTop g) = Some (given.Padding side.Top g)
side_long (long.PaddingRight g) = Some (given.Padding side.Right g)
side_long (long.PaddingBottom g) = Some (given.Padding side.Bottom g)
side_long (long.PaddingLeft g) = Some (given.Padding side.Left g)
side_long (long.BorderTopWidth g) = Some (given.BorderWidth side.Top g)
side_long (long.BorderRightWidth g) = Some (given.BorderWidth side.Right g)
side_long (long.BorderBottomWidth g) = Some (given.BorderWidth side.Bottom g)
side_long (long.BorderLeftWidth g) = Some (given.BorderWidth side.Left g)
side_long (long.BorderTopStyle g) = Some (given.BorderStyle side.Top g)
side_long (long.BorderRightStyle g) = Some (given.BorderStyle side.Right g)
side_long (long.BorderBottomStyle g) = Some (given.BorderStyle side.Bottom g)
side_long (long.BorderLeftStyle g) = Some (given.BorderStyle side.Left g)
side_long (long.BorderTopColor g) = Some (given.BorderColor side.Top g)
side_long (long.BorderRightColor g) = Some (given.BorderColor side.Right g)
side_long (long.BorderBottomColor g) = Some (given.BorderColor side.Bottom g)
side_long (long.BorderLeftColor g) = Some (given.BorderColor side.Left g)
side_long l = None

-- the declaration of a side's longhand
abbrev pub long_of : SideLong → Long
long_of (given.Margin side.Top g) = long.MarginTop g
long_of (given.Margin side.Right g) = long.MarginRight g
long_of (given.Margin side.Bottom g) = long.MarginBottom g
long_of (given.Margin side.Left g) = long.MarginLeft g
long_of (given.Padding side.Top g) = long.PaddingTop g
long_of (given.Padding side.Right g) = long.PaddingRight g
long_of (given.Padding side.Bottom g) = long.PaddingBottom g
long_of (given.Padding side.Left g) = long.PaddingLeft g
long_of (given.BorderWidth side.Top g) = long.BorderTopWidth g
long_of (given.BorderWidth side.Right g) = long.BorderRightWidth g
long_of (given.BorderWidth side.Bottom g) = long.BorderBottomWidth g
long_of (given.BorderWidth side.Left g) = long.BorderLeftWidth g
long_of (given.BorderStyle side.Top g) = long.BorderTopStyle g
long_of (given.BorderStyle side.Right g) = long.BorderRightStyle g
long_of (given.BorderStyle side.Bottom g) = long.BorderBottomStyle g
long_of (given.BorderStyle side.Left g) = long.BorderLeftStyle g
long_of (given.BorderColor side.Top g) = long.BorderTopColor g
long_of (given.BorderColor side.Right g) = long.BorderRightColor g
long_of (given.BorderColor side.Bottom g) = long.BorderBottomColor g
long_of (given.BorderColor side.Left g) = long.BorderLeftColor g

-- the same for another side
abbrev pub on_side : BoxSide → SideLong → SideLong
on_side s (given.Margin r g) = given.Margin s g
on_side s (given.Padding r g) = given.Padding s g
on_side s (given.BorderWidth r g) = given.BorderWidth s g
on_side s (given.BorderStyle r g) = given.BorderStyle s g
on_side s (given.BorderColor r g) = given.BorderColor s g

-- whether its value is a list, a text or a name, which takes memory
abbrev pub takes_memory : Long → Bool
takes_memory (long.FontFamily g) = true
takes_memory (long.Content g) = true
takes_memory (long.CounterReset g) = true
takes_memory (long.CounterIncrement g) = true
takes_memory (long.StringSet g) = true
takes_memory (long.Page g) = true
takes_memory l = false
