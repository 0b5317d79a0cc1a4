-- Styles from winners (CSS 2.1, 6.2): each field is that of the element without declarations, or what its own winner
-- gives.
use Rattle.std.specs.Prelude.{ℤ, List, Option, None, Some, fold}
use Rattle.bk_num.specs.Sides as sides
use Rattle.style.specs.Initial.{medium_width, normal_weight}
use Rattle.style.specs.Longs.{side_long}
use Rattle.style.specs.Sides as box
use Rattle.style.specs.Styles.{initial_style, child_style}
use Rattle.style.specs.declared.style.Style.{Style}
use Rattle.style.specs.declared.values.Display.{Display}
use Rattle.style.specs.declared.values.Display.TheVariants as display
use Rattle.style.specs.declared.long.Long.{Long}
use Rattle.style.specs.declared.long.Long.TheVariants as long
use Rattle.style.specs.declared.long.SideLong.{SideLong}
use Rattle.style.specs.declared.long.SideLong.TheVariants as given
use Rattle.computed.specs.declared.context.ElementContext.{ElementContext}
use Rattle.computed_values.specs.Values.{given_by, same, width_of, weight_of, height_of, color_of}
use Rattle.computed.specs.Context.{context_of}
use Rattle.computed.specs.Lengths.{border_in, chosen_length}
use Rattle.computed.specs.declared.values.LengthUse.TheVariants as use_of

-- the style of an element without winners, in its context; the number of its page name comes later
abbrev pub begun : Style → ElementContext → Style
begun p c =
    box.with_border_widths (sides.each (λ a. width_of (sides.at c.border_styles a) medium_width))
    (box.with_border_styles c.border_styles
    (box.with_border_colors (sides.same c.color)
    (record (child_style p) { color = c.color; font_size = c.font_size; page = record { 0 = 0 } })))

-- ---- winners

-- with what a winner gives to a side; the styles of borders the context has, and they are in it already
abbrev pub applied_side : Style → ElementContext → Style → SideLong → Style
applied_side p c s (given.Margin a g) =
    box.with_margin a (chosen_length (use_of.Margin a) c g (sides.at (box.margins p) a)) s
applied_side p c s (given.Padding a g) =
    box.with_padding a (chosen_length use_of.Padding c g (sides.at (box.paddings p) a)) s
applied_side p c s (given.BorderWidth a g) =
    box.with_border_width a (width_of (sides.at c.border_styles a)
    (given_by (border_in c) g (sides.at (box.border_widths p) a) medium_width)) s
applied_side p c s (given.BorderStyle a g) = s
applied_side p c s (given.BorderColor a g) =
    box.with_border_color a (given_by (color_of c.color) g (sides.at (box.border_colors p) a) c.color) s

-- with what a winner gives a box, its list marker and the breaks round it
abbrev pub applied_flow : Style → ElementContext → Style → Long → Style
applied_flow p c s (long.Display g) = record s { display = given_by same g p.display initial_style.display }
applied_flow p c s (long.Float g) = record s { float = given_by same g p.float initial_style.float }
applied_flow p c s (long.Width g) = record s { width = chosen_length use_of.Width c g p.width }
applied_flow p c s (long.BackgroundColor g) = record s {
  background_color = given_by same g p.background_color initial_style.background_color;
}
applied_flow p c s (long.ListStyleType g) = record s {
  list_style_type = given_by same g p.list_style_type initial_style.list_style_type;
}
applied_flow p c s (long.BreakBefore g) = record s {
  break_before = given_by same g p.break_before initial_style.break_before;
}
applied_flow p c s (long.BreakAfter g) = record s {
  break_after = given_by same g p.break_after initial_style.break_after;
}
applied_flow p c s (long.BreakInside g) = record s {
  break_inside = given_by same g p.break_inside initial_style.break_inside;
}
applied_flow p c s (long.BoxDecorationBreak g) = record s {
  box_decoration_break = given_by same g p.box_decoration_break initial_style.box_decoration_break;
}
applied_flow p c s (long.BookFill g) = record s { book_fill = given_by same g p.book_fill initial_style.book_fill }
applied_flow p c s (long.Hyphens g) = record s { hyphens = given_by same g p.hyphens initial_style.hyphens }
applied_flow p c s (long.Widows g) = record s { widows = given_by same g p.widows initial_style.widows }
applied_flow p c s (long.Orphans g) = record s { orphans = given_by same g p.orphans initial_style.orphans }
applied_flow p c s l = s

-- with what a winner gives a text
abbrev pub applied_text : Style → ElementContext → Style → Long → Style
applied_text p c s (long.FontStyle g) = record s { font_style = given_by same g p.font_style initial_style.font_style }
applied_text p c s (long.FontWeight g) = record s {
  font_weight = given_by (weight_of p.font_weight) g p.font_weight normal_weight;
}
applied_text p c s (long.LineHeight g) = record s {
  line_height = given_by (height_of c.font_size c.root_size) g p.line_height initial_style.line_height;
}
applied_text p c s (long.TextAlign g) = record s { text_align = given_by same g p.text_align initial_style.text_align }
applied_text p c s (long.TextIndent g) = record s { text_indent = chosen_length use_of.Indent c g p.text_indent }
applied_text p c s (long.WhiteSpace g) = record s {
  white_space = given_by same g p.white_space initial_style.white_space;
}
applied_text p c s (long.OverflowWrap g) = record s {
  overflow_wrap = given_by same g p.overflow_wrap initial_style.overflow_wrap;
}
applied_text p c s l = s

-- with a list that a winner gives: families, content, counters or named strings
abbrev pub applied_list : Style → Style → Long → Style
applied_list p s (long.FontFamily g) = record s {
  font_family = given_by same g p.font_family initial_style.font_family;
}
applied_list p s (long.Content g) = record s { content = given_by same g p.content initial_style.content }
applied_list p s (long.CounterReset g) = record s {
  counter_reset = given_by same g p.counter_reset initial_style.counter_reset;
}
applied_list p s (long.CounterIncrement g) = record s {
  counter_increment = given_by same g p.counter_increment initial_style.counter_increment;
}
applied_list p s (long.StringSet g) = record s { string_set = given_by same g p.string_set initial_style.string_set }
applied_list p s l = s

-- with what a winner gives that has no side; a color and a font size are in it already, and a page name comes later
abbrev pub applied_alone : Style → ElementContext → Style → Long → Style
applied_alone p c s l = applied_list p (applied_text p c (applied_flow p c s l) l) l

-- with what a winner gives, of which the last is what it gives to a side, if it does
abbrev pub applied_by : Style → ElementContext → Style → Long → Option SideLong → Style
applied_by p c s l (Some a) = applied_side p c s a
applied_by p c s l None = applied_alone p c s l

-- with what a winner gives
abbrev pub applied : Style → ElementContext → Style → Long → Style
applied p c s l = applied_by p c s l (side_long l)

-- the style in a context, by the winners
abbrev pub style_in : Style → ElementContext → List Long → Style
style_in p c winners = fold (applied p c) (begun p c) winners

-- the computed style of an element below a parent, but for its page name; `root` is the root's font size, and None is
-- the root itself
abbrev pub computed_style : Style → Option ℤ → List Long → Style
computed_style p root winners = style_in p (context_of p root winners) winners

-- that of a pseudo-element, which is inline unless it is none (CSS 2.1, 12.1)
abbrev pub inline_display : Display → Display
inline_display display.Hidden = display.Hidden
inline_display display.Inline = display.Inline
inline_display display.Block = display.Inline
inline_display display.ListItem = display.Inline
