-- How texts are set (CSS 2.1, 10.8.1, 15 and 16.6; CSS Text 3, 5).
use Rattle.std.specs.Prelude.{ℕ, pos, ◌≤ℤ◌, Bool, true, false}
use Rattle.bk_num.specs.declared.ids.FaceId.{FaceId}
use Rattle.bk_num.specs.declared.values.WhiteSpace.{WhiteSpace}
use Rattle.bk_num.specs.declared.values.WhiteSpace.TheVariants as space
use Rattle.style.specs.declared.style.Style.{Style}
use Rattle.boxes.specs.declared.leaf.Span.{Span}
use Rattle.computed_values.specs.Values.{used_line_height}
use Rattle.box_gen.specs.declared.text_style.TextStyle.{TextStyle}

-- whether lines end in a text (CSS 2.1, 16.6)
abbrev pub wraps : WhiteSpace → Bool
wraps space.Normal = true
wraps space.NoWrap = false
wraps space.Pre = false
wraps space.PreWrap = true
wraps space.PreLine = true

-- how a style sets a text in a face, where the text's white space is treated so
abbrev pub text_style_of : Style → WhiteSpace → FaceId → TextStyle
text_style_of s space face = record {
  face = face;
  size = s.font_size;
  line_height = used_line_height s.font_size s.line_height;
  color = s.color;
  wrap = wraps space;
  anywhere = s.overflow_wrap;
  hyphens = s.hyphens;
}

-- a text from one offset to another, set so
abbrev pub span_by : TextStyle → ℕ → ℕ → Span
span_by t from to = record {
  from = from;
  to = to;
  face = t.face;
  size = t.size;
  line_height = t.line_height;
  color = t.color;
  wrap = t.wrap;
  anywhere = t.anywhere;
}

-- neither the size nor the line height is negative
pub record IsGoodTextStyle (t : TextStyle) : Type 0 where
  pub size : pos 0 ≤ℤ t.size
  pub line_height : pos 0 ≤ℤ t.line_height
