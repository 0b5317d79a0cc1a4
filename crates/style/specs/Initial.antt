-- Initial values that more than one rule names (CSS 2.1, appendix F).
use Rattle.std.specs.Prelude.{ℕ, ℤ, pos}
use Rattle.bk_num.specs.Colors.{black}
use Rattle.bk_num.specs.Numbers.{Number}
use Rattle.bk_num.specs.declared.length.Len.{Len}
use Rattle.bk_num.specs.declared.length.Len.TheVariants as len
use Rattle.bk_num.specs.declared.values.Color.{Color}
use Rattle.style.specs.declared.values.BorderStyle.{BorderStyle}
use Rattle.style.specs.declared.values.BorderStyle.TheVariants as border

-- no length
abbrev pub zero_len : Len
zero_len = len.Px (pos 0)

-- the initial margins (CSS 2.1, 8.3)
abbrev pub initial_margin : Len
initial_margin = zero_len

-- the initial paddings (CSS 2.1, 8.4)
abbrev pub initial_padding : Len
initial_padding = zero_len

-- the initial width: `auto` (CSS 2.1, 10.2)
abbrev pub initial_width : Len
initial_width = len.Auto

-- the initial indent of a first line (CSS 2.1, 16.1)
abbrev pub initial_indent : Len
initial_indent = zero_len

-- the initial style of a border: `none` (CSS 2.1, 8.5.3)
abbrev pub initial_border : BorderStyle
initial_border = border.Off

-- the initial colour: black (CSS 2.1, 14.1, leaves it open)
abbrev pub initial_color : Color
initial_color = black

-- the initial number of widows and of orphans (CSS 2.1, 13.3.2)
abbrev pub initial_lines : ℕ
initial_lines = 2

-- the weight of a font that is `normal` (CSS 2.1, 15.6)
abbrev pub normal_weight : ℕ
normal_weight = 400

-- the height of lines that is `normal`, of the font size: 1.25 (CSS 2.1, 10.8.1, leaves the number open)
abbrev pub normal_height : Number
normal_height = record { units = pos 125; places = 2 }

-- the width of a border that is `medium`: 3 px (CSS 2.1, 8.5.1, leaves the number open)
abbrev pub medium_width : ℤ
medium_width = pos 192
