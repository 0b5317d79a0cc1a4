-- Where the one line of a margin box stands in it.
use Rattle.std.specs.Prelude.{ℕ, ℤ, pos, ◌+ℤ◌, ◌-ℤ◌}
use Rattle.bk_num.specs.Units.{floor_div}
use Rattle.bk_num.specs.declared.values.Align.{Align}
use Rattle.bk_num.specs.declared.values.Align.TheVariants as align
use Rattle.css_page.specs.declared.values.Upright.{Upright}
use Rattle.css_page.specs.declared.values.Upright.TheVariants as upright
use Rattle.line_place.specs.declared.extent.Extent.{Extent}
use Rattle.paint.specs.declared.item.Area.{Area}
use Rattle.margin_box.specs.declared.place.Along.{Along}
use Rattle.margin_box.specs.declared.place.Along.TheVariants.{Start, Middle, End}

-- which part of a slack stands before a line; the slack is negative where the line overflows its box
abbrev pub slack_before : Along → ℤ → ℤ
slack_before Start slack = pos 0
slack_before Middle slack = floor_div slack 2
slack_before End slack = slack

-- where what has a size begins in a room that begins at a place
abbrev pub begin_in : Along → ℤ → ℤ → ℤ → ℤ
begin_in along at room size = at +ℤ slack_before along (room -ℤ size)

-- how a line stands across its box (CSS 2.1, 16.2: text-align); no line of a margin box is justified
abbrev pub along_width : Align → Along
along_width align.Left = Start
along_width align.Center = Middle
along_width align.Right = End
along_width align.Justify = Start

-- how a line stands in the height of its box (css-page-3, vertical-align)
abbrev pub along_height : Upright → Along
along_height upright.Top = Start
along_height upright.Middle = Middle
along_height upright.Bottom = End

-- where a text of a width begins in its box, from the page's left
abbrev pub line_left : Area → Align → ℕ → ℤ
line_left area align width = begin_in (along_width align) area.x area.w (pos width)

-- the baseline of a line in its box, from the page's top
abbrev pub line_baseline : Area → Upright → Extent → ℤ
line_baseline area upright e = begin_in (along_height upright) area.y area.h e.height +ℤ e.baseline
