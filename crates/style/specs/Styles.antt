-- The initial style, and that of a child without declarations.
use Rattle.std.specs.Prelude.{ℕ, pos, None, List, [], ◌∷◌, false, codes, if◌then◌else◌}
use Rattle.bk_num.specs.Limits.{root_size}
use Rattle.bk_num.specs.declared.sides.BoxSide.TheVariants as side
use Rattle.bk_num.specs.declared.values.Color.{Color}
use Rattle.bk_num.specs.declared.values.Align.TheVariants as align
use Rattle.bk_num.specs.declared.values.BreakAt.TheVariants as break
use Rattle.bk_num.specs.declared.values.NumStyle.TheVariants as numeral
use Rattle.bk_num.specs.declared.values.WhiteSpace.TheVariants as space
use Rattle.style.specs.declared.values.Display.TheVariants as display
use Rattle.style.specs.declared.values.LineHeight.TheVariants as height
use Rattle.style.specs.declared.longhand.Longhand.{Longhand}
use Rattle.style.specs.declared.longhand.Longhand.TheVariants as longhand
use Rattle.style.specs.declared.style.Style.{Style}
use Rattle.style.specs.Initial.{initial_border, initial_color, initial_indent, initial_lines, initial_margin, initial_padding, initial_width, normal_height, normal_weight}
use Rattle.style.specs.Longhands.{is_inherited}

-- the initial values (CSS 2.1, appendix F) beside these families and this color, which a border's color is
abbrev pub initial_with : List (List ℕ) → Color → Style
initial_with families color = record {
  display = display.Inline;
  float = false;
  margin_top = initial_margin;
  margin_right = initial_margin;
  margin_bottom = initial_margin;
  margin_left = initial_margin;
  padding_top = initial_padding;
  padding_right = initial_padding;
  padding_bottom = initial_padding;
  padding_left = initial_padding;
  border_top_width = pos 0;
  border_right_width = pos 0;
  border_bottom_width = pos 0;
  border_left_width = pos 0;
  border_top_style = initial_border;
  border_right_style = initial_border;
  border_bottom_style = initial_border;
  border_left_style = initial_border;
  border_top_color = color;
  border_right_color = color;
  border_bottom_color = color;
  border_left_color = color;
  width = initial_width;
  color = color;
  background_color = None;
  font_family = families;
  font_size = root_size;
  font_style = false;
  font_weight = normal_weight;
  line_height = height.Number normal_height;
  text_align = align.Left;
  text_indent = initial_indent;
  white_space = space.Normal;
  overflow_wrap = false;
  list_style_type = numeral.Disc;
  content = None;
  counter_reset = [];
  counter_increment = [];
  string_set = [];
  break_before = break.Auto;
  break_after = break.Auto;
  break_inside = false;
  widows = initial_lines;
  orphans = initial_lines;
  page = record { 0 = 0 };
  box_decoration_break = false;
  book_fill = false;
  hyphens = false;
}

-- the initial style
abbrev pub initial_style : Style
initial_style = initial_with (codes "serif" ∷ []) initial_color

-- what an element without a declaration of a longhand has
abbrev pub passed : {T : Type 0} → Longhand → T → T → T
passed h inherited initial = if is_inherited h then inherited else initial

-- the style of a child without declarations: a border's color is the child's own, and the page name is the parent's,
-- which `auto` stands for
abbrev pub child_style : Style → Style
child_style p = record {
  display = passed longhand.Display p.display initial_style.display;
  float = passed longhand.Float p.float initial_style.float;
  margin_top = passed (longhand.Margin side.Top) p.margin_top initial_style.margin_top;
  margin_right = passed (longhand.Margin side.Right) p.margin_right initial_style.margin_right;
  margin_bottom = passed (longhand.Margin side.Bottom) p.margin_bottom initial_style.margin_bottom;
  margin_left = passed (longhand.Margin side.Left) p.margin_left initial_style.margin_left;
  padding_top = passed (longhand.Padding side.Top) p.padding_top initial_style.padding_top;
  padding_right = passed (longhand.Padding side.Right) p.padding_right initial_style.padding_right;
  padding_bottom = passed (longhand.Padding side.Bottom) p.padding_bottom initial_style.padding_bottom;
  padding_left = passed (longhand.Padding side.Left) p.padding_left initial_style.padding_left;
  border_top_width = passed (longhand.BorderWidth side.Top) p.border_top_width initial_style.border_top_width;
  border_right_width = passed (longhand.BorderWidth side.Right) p.border_right_width initial_style.border_right_width;
  border_bottom_width =
      passed (longhand.BorderWidth side.Bottom) p.border_bottom_width initial_style.border_bottom_width;
  border_left_width = passed (longhand.BorderWidth side.Left) p.border_left_width initial_style.border_left_width;
  border_top_style = passed (longhand.BorderStyle side.Top) p.border_top_style initial_style.border_top_style;
  border_right_style = passed (longhand.BorderStyle side.Right) p.border_right_style initial_style.border_right_style;
  border_bottom_style =
      passed (longhand.BorderStyle side.Bottom) p.border_bottom_style initial_style.border_bottom_style;
  border_left_style = passed (longhand.BorderStyle side.Left) p.border_left_style initial_style.border_left_style;
  border_top_color = p.color;
  border_right_color = p.color;
  border_bottom_color = p.color;
  border_left_color = p.color;
  width = passed longhand.Width p.width initial_style.width;
  color = passed longhand.Color p.color initial_style.color;
  background_color = passed longhand.BackgroundColor p.background_color initial_style.background_color;
  font_family = passed longhand.FontFamily p.font_family initial_style.font_family;
  font_size = passed longhand.FontSize p.font_size initial_style.font_size;
  font_style = passed longhand.FontStyle p.font_style initial_style.font_style;
  font_weight = passed longhand.FontWeight p.font_weight initial_style.font_weight;
  line_height = passed longhand.LineHeight p.line_height initial_style.line_height;
  text_align = passed longhand.TextAlign p.text_align initial_style.text_align;
  text_indent = passed longhand.TextIndent p.text_indent initial_style.text_indent;
  white_space = passed longhand.WhiteSpace p.white_space initial_style.white_space;
  overflow_wrap = passed longhand.OverflowWrap p.overflow_wrap initial_style.overflow_wrap;
  list_style_type = passed longhand.ListStyleType p.list_style_type initial_style.list_style_type;
  content = passed longhand.Content p.content initial_style.content;
  counter_reset = passed longhand.CounterReset p.counter_reset initial_style.counter_reset;
  counter_increment = passed longhand.CounterIncrement p.counter_increment initial_style.counter_increment;
  string_set = passed longhand.StringSet p.string_set initial_style.string_set;
  break_before = passed longhand.BreakBefore p.break_before initial_style.break_before;
  break_after = passed longhand.BreakAfter p.break_after initial_style.break_after;
  break_inside = passed longhand.BreakInside p.break_inside initial_style.break_inside;
  widows = passed longhand.Widows p.widows initial_style.widows;
  orphans = passed longhand.Orphans p.orphans initial_style.orphans;
  page = p.page;
  box_decoration_break =
      passed longhand.BoxDecorationBreak p.box_decoration_break initial_style.box_decoration_break;
  book_fill = passed longhand.BookFill p.book_fill initial_style.book_fill;
  hyphens = passed longhand.Hyphens p.hyphens initial_style.hyphens;
}
