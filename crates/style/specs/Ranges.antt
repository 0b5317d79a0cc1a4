-- The ranges of computed values.
use Rattle.std.specs.Prelude.{◌≡◌, ◌≤ℤ◌, ℕ, pos, List, Some}
use Rattle.bk_num.specs.Ranges.{IsNotAuto, IsNotNegative}
use Rattle.bk_num.specs.declared.values.Pseudo.{Pseudo}
use Rattle.style.specs.Nodes.{NodeStyles, style_at}
use Rattle.style.specs.declared.style.Style.{Style}
use Rattle.style.specs.declared.values.LineHeight.{LineHeight}
use Rattle.style.specs.declared.values.LineHeight.TheVariants as height

-- a line height that isn't negative
abbrev pub IsHeight : LineHeight → Type 0
IsHeight (height.Number d) = pos 0 ≤ℤ d.units
IsHeight (height.Px p) = pos 0 ≤ℤ p

-- no font size, line height, border width, padding or width of a style is negative, and no padding or indent is `auto`
-- (CSS 2.1, 8.4, 8.5.1, 10.2, 10.8.1, 15.7 and 16.1)
pub record IsInRange (s : Style) : Type 0 where
  pub size : pos 0 ≤ℤ s.font_size
  pub height : IsHeight s.line_height
  pub border_top : pos 0 ≤ℤ s.border_top_width
  pub border_right : pos 0 ≤ℤ s.border_right_width
  pub border_bottom : pos 0 ≤ℤ s.border_bottom_width
  pub border_left : pos 0 ≤ℤ s.border_left_width
  pub padding_top : IsNotNegative s.padding_top
  pub padding_right : IsNotNegative s.padding_right
  pub padding_bottom : IsNotNegative s.padding_bottom
  pub padding_left : IsNotNegative s.padding_left
  pub given_top : IsNotAuto s.padding_top
  pub given_right : IsNotAuto s.padding_right
  pub given_bottom : IsNotAuto s.padding_bottom
  pub given_left : IsNotAuto s.padding_left
  pub width : IsNotNegative s.width
  pub indent : IsNotAuto s.text_indent

-- margins above and below are no `auto`, which counts as 0 there (CSS 2.1, 10.6.3)
pub record HasMargins (s : Style) : Type 0 where
  pub top : IsNotAuto s.margin_top
  pub bottom : IsNotAuto s.margin_bottom

-- each style of nodes and pseudo-elements is in range
abbrev pub AreInRange : List NodeStyles → Type 0
AreInRange styles = (n : ℕ) (p : Pseudo) (s : Style) → style_at styles n p ≡ Some s → IsInRange s
