-- What an element's values are computed in: its font size, its color and its borders' styles, each from its own winner.
use Rattle.std.specs.Prelude.{ℤ, List, Option, None, Some, fold}
use Rattle.bk_num.specs.Limits.{root_size}
use Rattle.bk_num.specs.Sides as sides
use Rattle.style.specs.Initial.{initial_border}
use Rattle.style.specs.Longs.{side_long}
use Rattle.style.specs.Sides.{border_styles}
use Rattle.style.specs.Styles.{initial_style}
use Rattle.style.specs.declared.style.Style.{Style}
use Rattle.style.specs.declared.long.Long.{Long}
use Rattle.style.specs.declared.long.Long.TheVariants as long
use Rattle.style.specs.declared.long.SideLong.{SideLong}
use Rattle.style.specs.declared.long.SideLong.TheVariants as given
use Rattle.computed.specs.declared.context.ElementContext.{ElementContext}
use Rattle.computed_values.specs.Values.{given_by, same, size_of}

-- that of an element without winners
abbrev pub bare : Style → ElementContext
bare p = record {
  font_size = p.font_size;
  root_size = p.font_size;
  color = p.color;
  border_styles = sides.same initial_border;
}

-- with what a winner gives to a side
abbrev pub noted_side : Style → ElementContext → SideLong → ElementContext
noted_side p c (given.BorderStyle s g) = record c {
  border_styles = sides.with_side s (given_by same g (sides.at (border_styles p) s) initial_border) c.border_styles;
}
noted_side p c l = c

-- with what a winner gives that has no side, where a `rem` is `root`
abbrev pub noted_alone : Style → ℤ → ElementContext → Long → ElementContext
noted_alone p root c (long.FontSize g) = record c {
  font_size = given_by (size_of p.font_size root) g p.font_size initial_style.font_size;
}
noted_alone p root c (long.Color g) = record c { color = given_by same g p.color initial_style.color }
noted_alone p root c l = c

-- with what a winner gives, of which the second is what it gives to a side, if it does
abbrev pub noted_by : Style → ℤ → ElementContext → Long → Option SideLong → ElementContext
noted_by p root c l (Some a) = noted_side p c a
noted_by p root c l None = noted_alone p root c l

-- with what a winner gives, where a `rem` is `root`
abbrev pub noted : Style → ℤ → ElementContext → Long → ElementContext
noted p root c l = noted_by p root c l (side_long l)

-- the font size that a `rem` is in an element's own font size: the root's, and in the root 16 px (css-values-3, 5.1.2)
abbrev pub rem_of : Option ℤ → ℤ
rem_of None = root_size
rem_of (Some r) = r

-- the font size that a `rem` is in all else: in the root its own
abbrev pub settled : Option ℤ → ElementContext → ElementContext
settled None c = record c { root_size = c.font_size }
settled (Some r) c = record c { root_size = r }

-- the context of an element below a parent, by its winners; `root` is the root's font size, and None is the root itself
abbrev pub context_of : Style → Option ℤ → List Long → ElementContext
context_of p root winners = settled root (fold (noted p (rem_of root)) (bare p) winners)
