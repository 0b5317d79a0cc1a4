-- Values of what a box has on each side, one to four of them (CSS 2.1, 8.3 to 8.5).
use Rattle.std.specs.Prelude.{if◌then◌else◌, Option, Some, None, unwrap_or}
use Rattle.bk_num.specs.declared.sides.BoxSide.{BoxSide}
use Rattle.bk_num.specs.declared.sides.BoxSide.TheVariants as side
use Rattle.bk_num.specs.declared.sides.Sides.{Sides}
use Rattle.css_words.specs.Parser.{Parser, ◌>>=◌, pure, peek}
use Rattle.css_words.specs.Words.{is_none}
use Rattle.style.specs.declared.longhand.Longhand.{Longhand}
use Rattle.style.specs.declared.longhand.Longhand.TheVariants as hand
use Rattle.style.specs.declared.long.Given.{Given}
use Rattle.style.specs.declared.long.Given.TheVariants as given
use Rattle.style.specs.declared.long.SideLong.{SideLong}
use Rattle.style.specs.declared.long.SideLong.TheVariants as on
use Rattle.css_values.specs.Borders.{border_width, border_style, border_color}
use Rattle.css_values.specs.Measures.{read_measure, margins, paddings}
use Rattle.css_values.specs.declared.sides.SideKind.{SideKind}
use Rattle.css_values.specs.declared.sides.SideKind.TheVariants as kind

-- the longhand of what a box has on a side
abbrev pub hand_at : SideKind → BoxSide → Longhand
hand_at kind.Margin s = hand.Margin s
hand_at kind.Padding s = hand.Padding s
hand_at kind.BorderWidth s = hand.BorderWidth s
hand_at kind.BorderStyle s = hand.BorderStyle s
hand_at kind.BorderColor s = hand.BorderColor s

-- a value as one of a longhand of a side
abbrev pub as_side : {A : Type 0} → (Given A → SideLong) → Parser A → Parser SideLong
as_side make p = p >>= (λ x. pure (make (given.Value x)))

-- a value of it on a side: margins, paddings, and the widths, styles and colours of borders (CSS 2.1, 8.3 to 8.5)
unfoldable pub side_value : SideKind → BoxSide → Parser SideLong
side_value kind.Margin s = as_side (on.Margin s) (read_measure margins)
side_value kind.Padding s = as_side (on.Padding s) (read_measure paddings)
side_value kind.BorderWidth s = as_side (on.BorderWidth s) border_width
side_value kind.BorderStyle s = as_side (on.BorderStyle s) border_style
side_value kind.BorderColor s = as_side (on.BorderColor s) border_color

-- the same on the top side, from where it goes to its own
abbrev pub top_value : SideKind → Parser SideLong
top_value k = side_value k side.Top

-- ---- one to four values for the four sides

-- a value, or none at the end
unfoldable pub optional : {A : Type 0} → Parser A → Parser (Option A)
optional p = do
  t ← peek
  if is_none t then pure None else (p >>= (λ x. pure (Some x)))

-- the second value is the first's where there is none, the third the first's, and the fourth the second's
abbrev pub sides_of : {A : Type 0} → A → Option A → Option A → Option A → Sides A
sides_of a b c d = record { top = a; right = unwrap_or b a; bottom = unwrap_or c a; left = unwrap_or d (unwrap_or b a) }

-- one to four values, for top, right, bottom and left (CSS 2.1, 8.3)
unfoldable pub four : {A : Type 0} → Parser A → Parser (Sides A)
four p = do
  a ← p
  b ← optional p
  c ← optional p
  d ← optional p
  pure (sides_of a b c d)
