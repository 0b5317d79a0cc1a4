-- The grammar of each longhand's value, and the two words that every property takes (CSS 2.1, appendix F and 6.2.1).
use Rattle.std.specs.Prelude.{Bool, true, false, pos, codes}
use Rattle.bk_num.specs.declared.sides.BoxSide.{BoxSide}
use Rattle.css_words.specs.Parser.{Parser, ◌>>=◌, pure}
use Rattle.style.specs.Longs.{long_of}
use Rattle.style.specs.declared.longhand.Longhand.{Longhand}
use Rattle.style.specs.declared.longhand.Longhand.TheVariants as hand
use Rattle.style.specs.declared.long.Given.{Given}
use Rattle.style.specs.declared.long.Given.TheVariants as given
use Rattle.style.specs.declared.long.Long.{Long}
use Rattle.style.specs.declared.long.Long.TheVariants as long
use Rattle.style.specs.declared.long.SideLong.TheVariants as on
use Rattle.css_content.specs.Basics.{word_in}
use Rattle.css_content.specs.Grammar.{content, counter_list, string_sets}
use Rattle.css_content.specs.declared.content.ContentPlace.TheVariants as place
use Rattle.css_content.specs.Numerals.{styles}
use Rattle.css_values.specs.Words.{displays, floats, slopes, aligns, spaces, wraps, breaks, decoration_breaks, fills, hyphenations, inside_breaks}
use Rattle.css_values.specs.Measures.{read_measure, widths, indents}
use Rattle.css_values.specs.Colors.{color, color_or}
use Rattle.css_values.specs.Fonts.{families, font_size, font_weight, line_height, count, page_name}
use Rattle.css_values.specs.Sides.{side_value}
use Rattle.css_values.specs.declared.sides.SideKind.{SideKind}
use Rattle.css_values.specs.declared.sides.SideKind.TheVariants as kind
use Rattle.css_values.specs.declared.values.Wide.{Wide}
use Rattle.css_values.specs.declared.values.Wide.TheVariants as wide

-- a value as one of a longhand
abbrev pub as_long : {A : Type 0} → (Given A → Long) → Parser A → Parser Long
as_long make p = p >>= (λ x. pure (make (given.Value x)))

-- a value of what a box has on a side
abbrev pub on_side : SideKind → BoxSide → Parser Long
on_side k s = side_value k s >>= (λ l. pure (long_of l))

-- the grammar of each longhand's value
unfoldable pub read_value : Longhand → Parser Long
read_value hand.Display = as_long long.Display (word_in displays)
read_value hand.Float = as_long long.Float (word_in floats)
read_value (hand.Margin s) = on_side kind.Margin s
read_value (hand.Padding s) = on_side kind.Padding s
read_value (hand.BorderWidth s) = on_side kind.BorderWidth s
read_value (hand.BorderStyle s) = on_side kind.BorderStyle s
read_value (hand.BorderColor s) = on_side kind.BorderColor s
read_value hand.Width = as_long long.Width (read_measure widths)
read_value hand.Color = as_long long.Color color
read_value hand.BackgroundColor = as_long long.BackgroundColor (color_or (codes "transparent"))
read_value hand.FontFamily = as_long long.FontFamily families
read_value hand.FontSize = as_long long.FontSize font_size
read_value hand.FontStyle = as_long long.FontStyle (word_in slopes)
read_value hand.FontWeight = as_long long.FontWeight font_weight
read_value hand.LineHeight = as_long long.LineHeight line_height
read_value hand.TextAlign = as_long long.TextAlign (word_in aligns)
read_value hand.TextIndent = as_long long.TextIndent (read_measure indents)
read_value hand.WhiteSpace = as_long long.WhiteSpace (word_in spaces)
read_value hand.OverflowWrap = as_long long.OverflowWrap (word_in wraps)
read_value hand.ListStyleType = as_long long.ListStyleType (word_in styles)
read_value hand.Content = as_long long.Content (content place.Content)
read_value hand.CounterReset = as_long long.CounterReset (counter_list (pos 0))
read_value hand.CounterIncrement = as_long long.CounterIncrement (counter_list (pos 1))
read_value hand.StringSet = as_long long.StringSet string_sets
read_value hand.BreakBefore = as_long long.BreakBefore (word_in breaks)
read_value hand.BreakAfter = as_long long.BreakAfter (word_in breaks)
read_value hand.BreakInside = as_long long.BreakInside (word_in inside_breaks)
read_value hand.Widows = as_long long.Widows count
read_value hand.Orphans = as_long long.Orphans count
read_value hand.Page = as_long long.Page page_name
read_value hand.BoxDecorationBreak = as_long long.BoxDecorationBreak (word_in decoration_breaks)
read_value hand.BookFill = as_long long.BookFill (word_in fills)
read_value hand.Hyphens = as_long long.Hyphens (word_in hyphenations)

-- the longhands whose values are words
abbrev pub is_worded : Longhand → Bool
is_worded hand.Display = true
is_worded hand.Float = true
is_worded hand.FontStyle = true
is_worded hand.TextAlign = true
is_worded hand.WhiteSpace = true
is_worded hand.OverflowWrap = true
is_worded hand.ListStyleType = true
is_worded hand.BreakBefore = true
is_worded hand.BreakAfter = true
is_worded hand.BreakInside = true
is_worded hand.BoxDecorationBreak = true
is_worded hand.BookFill = true
is_worded hand.Hyphens = true
is_worded h = false

-- the longhands whose values are numbers, lengths or colours
abbrev pub is_numbered : Longhand → Bool
is_numbered hand.Width = true
is_numbered hand.TextIndent = true
is_numbered hand.FontSize = true
is_numbered hand.FontWeight = true
is_numbered hand.LineHeight = true
is_numbered hand.Widows = true
is_numbered hand.Orphans = true
is_numbered hand.Color = true
is_numbered hand.BackgroundColor = true
is_numbered h = false

-- the longhands whose values are lists, texts and names, which take memory
abbrev pub is_listed : Longhand → Bool
is_listed hand.FontFamily = true
is_listed hand.Content = true
is_listed hand.CounterReset = true
is_listed hand.CounterIncrement = true
is_listed hand.StringSet = true
is_listed hand.Page = true
is_listed h = false

-- what each of the two words gives
abbrev pub given_by : {A : Type 0} → Wide → Given A
given_by wide.Inherit = given.Inherit
given_by wide.Initial = given.Initial

-- a longhand with one of the two words
unfoldable pub wide_long : Longhand → Wide → Long
wide_long hand.Display w = long.Display (given_by w)
wide_long hand.Float w = long.Float (given_by w)
wide_long (hand.Margin s) w = long_of (on.Margin s (given_by w))
wide_long (hand.Padding s) w = long_of (on.Padding s (given_by w))
wide_long (hand.BorderWidth s) w = long_of (on.BorderWidth s (given_by w))
wide_long (hand.BorderStyle s) w = long_of (on.BorderStyle s (given_by w))
wide_long (hand.BorderColor s) w = long_of (on.BorderColor s (given_by w))
wide_long hand.Width w = long.Width (given_by w)
wide_long hand.Color w = long.Color (given_by w)
wide_long hand.BackgroundColor w = long.BackgroundColor (given_by w)
wide_long hand.FontFamily w = long.FontFamily (given_by w)
wide_long hand.FontSize w = long.FontSize (given_by w)
wide_long hand.FontStyle w = long.FontStyle (given_by w)
wide_long hand.FontWeight w = long.FontWeight (given_by w)
wide_long hand.LineHeight w = long.LineHeight (given_by w)
wide_long hand.TextAlign w = long.TextAlign (given_by w)
wide_long hand.TextIndent w = long.TextIndent (given_by w)
wide_long hand.WhiteSpace w = long.WhiteSpace (given_by w)
wide_long hand.OverflowWrap w = long.OverflowWrap (given_by w)
wide_long hand.ListStyleType w = long.ListStyleType (given_by w)
wide_long hand.Content w = long.Content (given_by w)
wide_long hand.CounterReset w = long.CounterReset (given_by w)
wide_long hand.CounterIncrement w = long.CounterIncrement (given_by w)
wide_long hand.StringSet w = long.StringSet (given_by w)
wide_long hand.BreakBefore w = long.BreakBefore (given_by w)
wide_long hand.BreakAfter w = long.BreakAfter (given_by w)
wide_long hand.BreakInside w = long.BreakInside (given_by w)
wide_long hand.Widows w = long.Widows (given_by w)
wide_long hand.Orphans w = long.Orphans (given_by w)
wide_long hand.Page w = long.Page (given_by w)
wide_long hand.BoxDecorationBreak w = long.BoxDecorationBreak (given_by w)
wide_long hand.BookFill w = long.BookFill (given_by w)
wide_long hand.Hyphens w = long.Hyphens (given_by w)
