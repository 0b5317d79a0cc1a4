-- Shorthands: the longhands that their values give, in the order of the longhands (CSS 2.1, 8.3, 8.4 and 8.5).
use Rattle.std.specs.Prelude.{List, [], ◌∷◌, ◌++◌, Option, Some, None}
use Rattle.bk_num.specs.Sides.{at, each, list_of}
use Rattle.bk_num.specs.declared.sides.BoxSide.{BoxSide}
use Rattle.css_words.specs.Parser.{Parser, ◌>>=◌, pure}
use Rattle.style.specs.Longs.{long_of, on_side}
use Rattle.style.specs.declared.longhand.Longhand.{Longhand}
use Rattle.style.specs.declared.longhand.Longhand.TheVariants as hand
use Rattle.style.specs.declared.long.Given.{Given}
use Rattle.style.specs.declared.long.Given.TheVariants as given
use Rattle.style.specs.declared.long.Long.{Long}
use Rattle.style.specs.declared.long.SideLong.{SideLong}
use Rattle.style.specs.declared.long.SideLong.TheVariants as on
use Rattle.css_values.specs.Borders.{border}
use Rattle.css_values.specs.Sides.{hand_at, four, top_value}
use Rattle.css_values.specs.Values.{wide_long}
use Rattle.css_values.specs.declared.borders.Border.{Border}
use Rattle.css_values.specs.declared.shorthands.Shorthand.{Shorthand}
use Rattle.css_values.specs.declared.shorthands.Shorthand.TheVariants as shorthand
use Rattle.css_values.specs.declared.sides.SideKind.{SideKind}
use Rattle.css_values.specs.declared.values.Wide.{Wide}

-- the longhands of a side's border
abbrev pub side_hands : BoxSide → List Longhand
side_hands s = hand.BorderWidth s ∷ hand.BorderStyle s ∷ hand.BorderColor s ∷ []

-- the longhands of each shorthand, those of sides in the order top, right, bottom, left
unfoldable pub longhands_of : Shorthand → List Longhand
longhands_of (shorthand.Sides k) = list_of (each (hand_at k))
longhands_of shorthand.Border =
    list_of (each hand.BorderWidth) ++ list_of (each hand.BorderStyle) ++ list_of (each hand.BorderColor)
longhands_of (shorthand.BorderSide s) = side_hands s

-- a declaration for each side, in their order
abbrev pub sided : (BoxSide → SideLong) → List Long
sided f = list_of (each (λ s. long_of (f s)))

-- one to four values, each on its own side
unfoldable pub read_sides : SideKind → Parser (List Long)
read_sides k = four (top_value k) >>= (λ v. pure (sided (λ s. on_side s (at v s))))

-- what is left out is initial
abbrev pub or_initial : {A : Type 0} → Option A → Given A
or_initial None = given.Initial
or_initial (Some x) = given.Value x

-- the width that a border has on a side
abbrev pub width_on : Border → BoxSide → SideLong
width_on b s = on.BorderWidth s (or_initial b.width)

-- its style there
abbrev pub style_on : Border → BoxSide → SideLong
style_on b s = on.BorderStyle s (or_initial b.style)

-- its colour there
abbrev pub color_on : Border → BoxSide → SideLong
color_on b s = on.BorderColor s (or_initial b.color)

-- a border on all sides
unfoldable pub border_longs : Border → List Long
border_longs b = sided (width_on b) ++ sided (style_on b) ++ sided (color_on b)

-- a border on one side
abbrev pub side_longs : Border → BoxSide → List Long
side_longs b s = long_of (width_on b s) ∷ long_of (style_on b s) ∷ long_of (color_on b s) ∷ []

-- what a shorthand's value gives
unfoldable pub read_shorthand : Shorthand → Parser (List Long)
read_shorthand (shorthand.Sides k) = read_sides k
read_shorthand shorthand.Border = border >>= (λ b. pure (border_longs b))
read_shorthand (shorthand.BorderSide s) = border >>= (λ b. pure (side_longs b s))

-- each of these longhands with one of the two words
unfoldable pub wide_longs : List Longhand → Wide → List Long
wide_longs [] w = []
wide_longs (h ∷ hs) w = wide_long h w ∷ wide_longs hs w
