-- The markers of list items (CSS 2.1, 12.5).
use Rattle.std.specs.Prelude.{ℕ, ℤ, List, [], ◌∷◌, ◌++◌, Option, None, Some, length}
use Rattle.bk_num.specs.declared.values.NumStyle.{NumStyle}
use Rattle.bk_num.specs.declared.values.NumStyle.TheVariants as numeral
use Rattle.bk_num.specs.declared.values.Pseudo.{Pseudo}
use Rattle.bk_num.specs.declared.values.Pseudo.TheVariants as pseudo
use Rattle.counters.specs.Markers.{list_item}
use Rattle.counters.specs.Numerals.{bullet_of}
use Rattle.gen_text.specs.Parts.{innermost_text}
use Rattle.boxes.specs.declared.leaf.Lead.{Lead}
use Rattle.box_gen.specs.declared.text_style.TextStyle.{TextStyle}
use Rattle.box_gen.specs.TextStyles.{span_by}

-- the values of `list-item` at an element, by the values of counters at places
abbrev pub list_values : (ℕ → Pseudo → List ℕ → List ℤ) → ℕ → List ℤ
list_values values n = values n pseudo.Element list_item

-- a marker has this text
abbrev pub some_text : List ℕ → Option (List ℕ)
some_text text = Some text

-- the innermost value, a full stop and a space
abbrev pub number_text : NumStyle → List ℤ → List ℕ
number_text style values = innermost_text style values ++ 46 ∷ 32 ∷ []

-- a bullet and a space
abbrev pub bullet_text : NumStyle → List ℕ
bullet_text style = bullet_of style ++ 32 ∷ []

-- the text of a marker: the number of its item in a style, or a bullet (CSS 2.1, 12.5.1)
abbrev pub marker_text : NumStyle → List ℤ → Option (List ℕ)
marker_text numeral.Decimal values = Some (number_text numeral.Decimal values)
marker_text numeral.LeadingZero values = Some (number_text numeral.LeadingZero values)
marker_text numeral.LowerRoman values = Some (number_text numeral.LowerRoman values)
marker_text numeral.UpperRoman values = Some (number_text numeral.UpperRoman values)
marker_text numeral.LowerAlpha values = Some (number_text numeral.LowerAlpha values)
marker_text numeral.UpperAlpha values = Some (number_text numeral.UpperAlpha values)
marker_text numeral.Disc values = Some (bullet_text numeral.Disc)
marker_text numeral.Circle values = Some (bullet_text numeral.Circle)
marker_text numeral.Square values = Some (bullet_text numeral.Square)
marker_text numeral.Nothing values = None

-- a marker that a style sets, of the item whose box has a number
abbrev pub lead_by : List ℕ → TextStyle → ℕ → Lead
lead_by text style owner = record { text = text; span = span_by style 0 (length text); owner = owner }
