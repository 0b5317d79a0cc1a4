-- Neither sizes nor line heights of margin boxes are negative.
use Rattle.std.proofs.Common.{◌≡◌, ◌≤ℤ◌, ℕ, ℤ, pos, List, Bor, Option, None, Some, IfSome, option_map, slice_get, sym, ◌∙◌, subst, arith}
use Rattle.std.specs.Option.{option_and_then}
use Rattle.bk_num.specs.Limits.{root_size}
use Rattle.style.specs.Styles.{initial_style}
use Rattle.style.specs.declared.content.Part.{Part}
use Rattle.style.specs.declared.values.LineHeight.{LineHeight}
use Rattle.computed_values.specs.Values.{size_of, height_of}
use Rattle.style.specs.Ranges.{IsHeight}
use Rattle.computed_values.proofs.RangeLemmas.{given_in, size_least, height_least, used_least}
use Rattle.css_page.specs.declared.rules.PageRule.{PageRule}
use Rattle.css_page.specs.declared.values.PageLong.{PageLong}
use Rattle.css_page.specs.declared.values.PageLong.TheVariants as long
use Rattle.page_ctx.specs.declared.classes.PageClasses.{PageClasses}
use Rattle.page_ctx.specs.declared.margin_style.Alignment.{Alignment}
use Rattle.page_ctx.specs.declared.margin_style.MarginStyle.{MarginStyle}
use Rattle.page_ctx.specs.declared.property.PageProperty.TheVariants as property
use Rattle.page_ctx.specs.Selectors.{classes_of}
use Rattle.page_ctx.specs.Settings.{PageSettingOf, size_by, line_height_by, setting_by, initial_setting, page_setting}
use Rattle.page_ctx.specs.Tables.{text_of}
use Rattle.page_ctx.specs.Winners.{Declared, applied_to, page_declared, box_declared, value_of}
use Rattle.page_ctx.specs.Margins.{MarginStyleOf, style_in, IsGoodStyle, AreGoodStyles, AreMarginStyles, alignments, content_by, style_set, style_by, margin_style}

size_good : (p : ℤ) (o : Option PageLong) → pos 0 ≤ℤ p → pos 0 ≤ℤ size_by p o
size_good p None h = h
size_good p (Some (long.Size g)) h = h
size_good p (Some (long.MarginTop g)) h = h
size_good p (Some (long.MarginRight g)) h = h
size_good p (Some (long.MarginBottom g)) h = h
size_good p (Some (long.MarginLeft g)) h = h
size_good p (Some (long.Color g)) h = h
size_good p (Some (long.FontFamily g)) h = h
size_good p (Some (long.FontSize g)) h = given_in (λ z. pos 0 ≤ℤ z) (size_of p root_size) g p initial_style.font_size (size_least p root_size) h (omega arith)
size_good p (Some (long.FontStyle g)) h = h
size_good p (Some (long.FontWeight g)) h = h
size_good p (Some (long.LineHeight g)) h = h
size_good p (Some (long.Content g)) h = h
size_good p (Some (long.TextAlign g)) h = h
size_good p (Some (long.VerticalAlign g)) h = h

height_good : (p : LineHeight) (size : ℤ) (o : Option PageLong) → IsHeight p → IsHeight (line_height_by p size o)
height_good p size None h = h
height_good p size (Some (long.Size g)) h = h
height_good p size (Some (long.MarginTop g)) h = h
height_good p size (Some (long.MarginRight g)) h = h
height_good p size (Some (long.MarginBottom g)) h = h
height_good p size (Some (long.MarginLeft g)) h = h
height_good p size (Some (long.Color g)) h = h
height_good p size (Some (long.FontFamily g)) h = h
height_good p size (Some (long.FontSize g)) h = h
height_good p size (Some (long.FontStyle g)) h = h
height_good p size (Some (long.FontWeight g)) h = h
height_good p size (Some (long.LineHeight g)) h = given_in IsHeight (height_of size root_size) g p initial_style.line_height (height_least size root_size) h (omega arith)
height_good p size (Some (long.Content g)) h = h
height_good p size (Some (long.TextAlign g)) h = h
height_good p size (Some (long.VerticalAlign g)) h = h

abbrev IsGood : PageSettingOf → Type 0
IsGood s = (pos 0 ≤ℤ s.size) × IsHeight s.line_height

setting_good : (p : PageSettingOf) (ds : List Declared) → IsGood p → IsGood (setting_by p ds)
setting_good p ds h = (
  size_good p.size (value_of property.FontSize ds) h.0,
  height_good p.line_height (size_by p.size (value_of property.FontSize ds)) (value_of property.LineHeight ds) h.1,
)

page_good : (ds : List Declared) → IsGood (page_setting ds)
page_good ds = setting_good initial_setting ds (omega arith, omega arith)

set_good : (s : PageSettingOf) (own : Alignment) (ds : List Declared) (content : List Part) → IsGood s → IsGoodStyle (style_set s own ds content)
set_good s own ds content h = (h.0, used_least s.size s.line_height h.0 h.1)

set_by : (s : PageSettingOf) (own : Alignment) (ds : List Declared) (o : Option (List Part)) (style : MarginStyleOf) → IsGood s → option_map (style_set s own ds) o ≡ Some style → IsGoodStyle style
set_by s own ds None style h e = cc
set_by s own ds (Some content) style h e = let same : style_set s own ds content ≡ style = cc in subst IsGoodStyle same (set_good s own ds content h)

by_good : (page : PageSettingOf) (ds : List Declared) (o : Option Alignment) (style : MarginStyleOf) → IsGood page → option_and_then (style_by page ds) o ≡ Some style → IsGoodStyle style
by_good page ds None style h e = cc
by_good page ds (Some own) style h e = set_by (setting_by page ds) own ds (content_by (value_of property.Content ds)) style (setting_good page ds h) e

style_good : (rules : List PageRule) (name : List ℕ) (c : PageClasses) (place : ℕ) (style : MarginStyleOf) → margin_style rules name c place ≡ Some style → IsGoodStyle style
style_good rules name c place style e =
    let applied = applied_to name c rules in
    by_good (page_setting (page_declared applied)) (box_declared place applied) (slice_get alignments place) style (page_good (page_declared applied)) e

pub styles_good : (rules : List PageRule) (names : List (List ℕ)) (rows : List (List (List (ℕ × MarginStyleOf)))) → AreMarginStyles rules names rows → AreGoodStyles rows
styles_good rules names rows h index name kind place style e = style_good rules (text_of names name) (classes_of index kind) place style (sym (h index name kind place) ∙ e)

pub good_of : (o : Option (Bor MarginStyle)) (f : Option MarginStyleOf) → option_map (λ s. style_in s.now) o ≡ f → ((s : MarginStyleOf) → f ≡ Some s → IsGoodStyle s) → IfSome o (λ s. IsGoodStyle (style_in s.now))
good_of None f e h = tt
good_of (Some s) f e h = h (style_in s.now) (sym e)
