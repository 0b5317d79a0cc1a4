-- The longhands in their order, and which of them are inherited (CSS 2.1, 6.2.1 and appendix F).
use Rattle.std.specs.Prelude.{◌≡◌, ℕ, ◌+◌, Bool, true, false}
use Rattle.bk_num.specs.Sides.{place_of}
use Rattle.style.specs.declared.longhand.Longhand.{Longhand}
use Rattle.style.specs.declared.longhand.Longhand.TheVariants as longhand
use Rattle.style.specs.declared.longhand.TheConstants.{LONGHANDS}

-- how many longhands there are, those of a box by each side
abbrev pub longhand_count : ℕ
longhand_count = 48

-- the code has as many
abbrev pub LonghandsAgree : Type 0
LonghandsAgree = LONGHANDS ≡ longhand_count

-- the place of each among all, those of a box by side: top, right, bottom, left
abbrev pub number_of : Longhand → ℕ
number_of longhand.Display = 0
number_of longhand.Float = 1
number_of (longhand.Margin s) = 2 + place_of s
number_of (longhand.Padding s) = 6 + place_of s
number_of (longhand.BorderWidth s) = 10 + place_of s
number_of (longhand.BorderStyle s) = 14 + place_of s
number_of (longhand.BorderColor s) = 18 + place_of s
number_of longhand.Width = 22
number_of longhand.Color = 23
number_of longhand.BackgroundColor = 24
number_of longhand.FontFamily = 25
number_of longhand.FontSize = 26
number_of longhand.FontStyle = 27
number_of longhand.FontWeight = 28
number_of longhand.LineHeight = 29
number_of longhand.TextAlign = 30
number_of longhand.TextIndent = 31
number_of longhand.WhiteSpace = 32
number_of longhand.OverflowWrap = 33
number_of longhand.ListStyleType = 34
number_of longhand.Content = 35
number_of longhand.CounterReset = 36
number_of longhand.CounterIncrement = 37
number_of longhand.StringSet = 38
number_of longhand.BreakBefore = 39
number_of longhand.BreakAfter = 40
number_of longhand.BreakInside = 41
number_of longhand.Widows = 42
number_of longhand.Orphans = 43
number_of longhand.Page = 44
number_of longhand.BoxDecorationBreak = 45
number_of longhand.BookFill = 46
number_of longhand.Hyphens = 47

-- whether an element without a declaration of it has its parent's value
abbrev pub is_inherited : Longhand → Bool
is_inherited longhand.Display = false
is_inherited longhand.Float = false
is_inherited (longhand.Margin s) = false
is_inherited (longhand.Padding s) = false
is_inherited (longhand.BorderWidth s) = false
is_inherited (longhand.BorderStyle s) = false
is_inherited (longhand.BorderColor s) = false
is_inherited longhand.Width = false
is_inherited longhand.Color = true
is_inherited longhand.BackgroundColor = false
is_inherited longhand.FontFamily = true
is_inherited longhand.FontSize = true
is_inherited longhand.FontStyle = true
is_inherited longhand.FontWeight = true
is_inherited longhand.LineHeight = true
is_inherited longhand.TextAlign = true
is_inherited longhand.TextIndent = true
is_inherited longhand.WhiteSpace = true
is_inherited longhand.OverflowWrap = true
is_inherited longhand.ListStyleType = true
is_inherited longhand.Content = false
is_inherited longhand.CounterReset = false
is_inherited longhand.CounterIncrement = false
is_inherited longhand.StringSet = false
is_inherited longhand.BreakBefore = false
is_inherited longhand.BreakAfter = false
is_inherited longhand.BreakInside = false
is_inherited longhand.Widows = true
is_inherited longhand.Orphans = true
is_inherited longhand.Page = false
is_inherited longhand.BoxDecorationBreak = false
is_inherited longhand.BookFill = true
is_inherited longhand.Hyphens = true
