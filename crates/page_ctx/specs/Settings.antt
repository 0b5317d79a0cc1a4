-- How the texts of pages and of margin boxes are set: fonts, heights of lines and colours (css-page-3, 4; CSS 2.1,
-- 10.8.1, 14.1 and 15).
use Rattle.std.specs.Prelude.{ℕ, ℤ, Bool, List, Option, Some}
use Rattle.bk_num.specs.Limits.{root_size}
use Rattle.bk_num.specs.declared.values.Color.{Color}
use Rattle.style.specs.Styles.{initial_style}
use Rattle.style.specs.declared.values.LineHeight.{LineHeight}
use Rattle.computed_values.specs.Values.{given_by, same, size_of, weight_of, height_of}
use Rattle.css_page.specs.declared.values.PageLong.{PageLong}
use Rattle.css_page.specs.declared.values.PageLong.TheVariants as long
use Rattle.page_ctx.specs.declared.margin_style.PageSetting.{PageSetting}
use Rattle.page_ctx.specs.declared.property.PageProperty.TheVariants as property
use Rattle.page_ctx.specs.Winners.{Declared, value_of}

-- how a text is set; margin boxes inherit all of it from their page
pub record PageSettingOf : Type 0 where
  pub families : List (List ℕ)
  pub italic : Bool
  pub weight : ℕ
  pub size : ℤ
  pub line_height : LineHeight
  pub color : Color

-- the same as values
abbrev pub setting_in : PageSetting → PageSettingOf
setting_in s = record {
  families = s.families.now;
  italic = s.italic;
  weight = s.weight;
  size = s.size;
  line_height = s.line_height;
  color = s.color;
}

-- the families that a declaration gives, or the parent's
abbrev pub families_by : List (List ℕ) → Option PageLong → List (List ℕ)
families_by p (Some (long.FontFamily g)) = given_by same g p initial_style.font_family
families_by p _ = p

-- whether a font is italic
abbrev pub italic_by : Bool → Option PageLong → Bool
italic_by p (Some (long.FontStyle g)) = given_by same g p initial_style.font_style
italic_by p _ = p

-- a font weight
abbrev pub weight_by : ℕ → Option PageLong → ℕ
weight_by p (Some (long.FontWeight g)) = given_by (weight_of p) g p initial_style.font_weight
weight_by p _ = p

-- a font size: `em`, `ex` and percentages are of the parent's, and a `rem` is 16 px
abbrev pub size_by : ℤ → Option PageLong → ℤ
size_by p (Some (long.FontSize g)) = given_by (size_of p root_size) g p initial_style.font_size
size_by p _ = p

-- a height of lines: `em`, `ex` and percentages are of the own font size
abbrev pub line_height_by : LineHeight → ℤ → Option PageLong → LineHeight
line_height_by p size (Some (long.LineHeight g)) = given_by (height_of size root_size) g p initial_style.line_height
line_height_by p size _ = p

-- a color
abbrev pub color_by : Color → Option PageLong → Color
color_by p (Some (long.Color g)) = given_by same g p initial_style.color
color_by p _ = p

-- by what is declared, in a font of this size, below a parent
abbrev pub setting_sized : ℤ → PageSettingOf → List Declared → PageSettingOf
setting_sized size p ds = record {
  families = families_by p.families (value_of property.FontFamily ds);
  italic = italic_by p.italic (value_of property.FontStyle ds);
  weight = weight_by p.weight (value_of property.FontWeight ds);
  size = size;
  line_height = line_height_by p.line_height size (value_of property.LineHeight ds);
  color = color_by p.color (value_of property.Color ds);
}

-- by what is declared, below a parent
abbrev pub setting_by : PageSettingOf → List Declared → PageSettingOf
setting_by p ds = setting_sized (size_by p.size (value_of property.FontSize ds)) p ds

-- the setting of the initial values
abbrev pub initial_setting : PageSettingOf
initial_setting = record {
  families = initial_style.font_family;
  italic = initial_style.font_style;
  weight = initial_style.font_weight;
  size = initial_style.font_size;
  line_height = initial_style.line_height;
  color = initial_style.color;
}

-- the setting of a page: its parent has the initial values
abbrev pub page_setting : List Declared → PageSettingOf
page_setting ds = setting_by initial_setting ds
