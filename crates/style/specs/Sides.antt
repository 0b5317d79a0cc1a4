-- The fields of a style that its box has, by side (CSS 2.1, 8).
use Rattle.std.specs.Prelude.{ℤ}
use Rattle.bk_num.specs.Sides.{with_side}
use Rattle.bk_num.specs.declared.length.Len.{Len}
use Rattle.bk_num.specs.declared.sides.BoxSide.{BoxSide}
use Rattle.bk_num.specs.declared.sides.Sides.{Sides}
use Rattle.bk_num.specs.declared.values.Color.{Color}
use Rattle.style.specs.declared.style.Style.{Style}
use Rattle.style.specs.declared.values.BorderStyle.{BorderStyle}

-- the margins
abbrev pub margins : Style → Sides Len
margins s = record { top = s.margin_top; right = s.margin_right; bottom = s.margin_bottom; left = s.margin_left }

-- a style with others
abbrev pub with_margins : Sides Len → Style → Style
with_margins v s =
    record s { margin_top = v.top; margin_right = v.right; margin_bottom = v.bottom; margin_left = v.left }

-- a style with another one on a side
abbrev pub with_margin : BoxSide → Len → Style → Style
with_margin side v s = with_margins (with_side side v (margins s)) s

-- the paddings
abbrev pub paddings : Style → Sides Len
paddings s = record { top = s.padding_top; right = s.padding_right; bottom = s.padding_bottom; left = s.padding_left }

-- a style with others
abbrev pub with_paddings : Sides Len → Style → Style
with_paddings v s =
    record s { padding_top = v.top; padding_right = v.right; padding_bottom = v.bottom; padding_left = v.left }

-- a style with another one on a side
abbrev pub with_padding : BoxSide → Len → Style → Style
with_padding side v s = with_paddings (with_side side v (paddings s)) s

-- the widths of the borders
abbrev pub border_widths : Style → Sides ℤ
border_widths s = record {
  top = s.border_top_width;
  right = s.border_right_width;
  bottom = s.border_bottom_width;
  left = s.border_left_width;
}

-- a style with others
abbrev pub with_border_widths : Sides ℤ → Style → Style
with_border_widths v s = record s {
  border_top_width = v.top;
  border_right_width = v.right;
  border_bottom_width = v.bottom;
  border_left_width = v.left;
}

-- a style with another one on a side
abbrev pub with_border_width : BoxSide → ℤ → Style → Style
with_border_width side v s = with_border_widths (with_side side v (border_widths s)) s

-- the styles of the borders
abbrev pub border_styles : Style → Sides BorderStyle
border_styles s = record {
  top = s.border_top_style;
  right = s.border_right_style;
  bottom = s.border_bottom_style;
  left = s.border_left_style;
}

-- a style with others
abbrev pub with_border_styles : Sides BorderStyle → Style → Style
with_border_styles v s = record s {
  border_top_style = v.top;
  border_right_style = v.right;
  border_bottom_style = v.bottom;
  border_left_style = v.left;
}

-- the colours of the borders
abbrev pub border_colors : Style → Sides Color
border_colors s = record {
  top = s.border_top_color;
  right = s.border_right_color;
  bottom = s.border_bottom_color;
  left = s.border_left_color;
}

-- a style with others
abbrev pub with_border_colors : Sides Color → Style → Style
with_border_colors v s = record s {
  border_top_color = v.top;
  border_right_color = v.right;
  border_bottom_color = v.bottom;
  border_left_color = v.left;
}

-- a style with another one on a side
abbrev pub with_border_color : BoxSide → Color → Style → Style
with_border_color side v s = with_border_colors (with_side side v (border_colors s)) s
