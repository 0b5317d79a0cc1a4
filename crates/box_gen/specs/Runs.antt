-- Runs of inline text: what they print, in which spans, and where elements begin in them (CSS 2.1, 9.2.2 and 16.6.1).
use Rattle.std.specs.Prelude.{ℕ, ◌+◌, Bool, List, [], ◌∷◌, ◌++◌, Option, map, length, nat_lt, if◌then◌else◌}
use Rattle.std.specs.List.{All}
use Rattle.boxes.specs.declared.leaf.Span.{Span}
use Rattle.inline_text.specs.declared.space.TextPart.{TextPart}
use Rattle.inline_text.specs.Joined.{joined}
use Rattle.inline_text.specs.Space.{collapsed}
use Rattle.soft_hyphens.specs.Hyphenated.{hyphenated}
use Rattle.soft_hyphens.specs.Words.{Points}
use Rattle.box_gen.specs.Items.{InlineItem}
use Rattle.box_gen.specs.Items as item
use Rattle.box_gen.specs.declared.inline.ItemMark.{ItemMark}
use Rattle.box_gen.specs.declared.inline.ItemMark.TheVariants.{Text, Start}
use Rattle.box_gen.specs.declared.inline.InlineStart.{InlineStart}
use Rattle.box_gen.specs.declared.text_style.TextStyle.{TextStyle}
use Rattle.box_gen.specs.TextStyles.{IsGoodTextStyle, span_by}

-- the texts of a run
abbrev pub parts_in : List InlineItem → List TextPart
parts_in [] = []
parts_in (item.Text t ∷ items) = t.part ∷ parts_in items
parts_in (item.Start n ∷ items) = parts_in items

-- a run without the letters of its texts
abbrev pub mark_of : InlineItem → ItemMark
mark_of (item.Text t) = Text t.style
mark_of (item.Start n) = Start n

-- the items of a run without the letters of its texts
abbrev pub marks_in : List InlineItem → List ItemMark
marks_in items = map mark_of items

-- how its texts are set
abbrev pub styles_in : List ItemMark → List TextStyle
styles_in [] = []
styles_in (Text s ∷ marks) = s ∷ styles_in marks
styles_in (Start n ∷ marks) = styles_in marks

-- which texts are hyphenated, by how they are set, and which of a run's are
abbrev pub autos_by : List TextStyle → List Bool
autos_by styles = map (λ s. s.hyphens) styles

abbrev pub autos_in : List InlineItem → List Bool
autos_in items = autos_by (styles_in (marks_in items))

-- what is printed of each text of a run: its white space collapses over the whole run, and then its words are
-- hyphenated, where patterns are given
abbrev pub printed_in : Option Points → List InlineItem → List (List ℕ)
printed_in points items = hyphenated points (autos_in items) (collapsed (parts_in items))

-- the text of a run
unfoldable pub text_of : Option Points → List InlineItem → List ℕ
text_of points items = joined (printed_in points items)

-- the span of a text, unless it is empty
abbrev pub span_between : TextStyle → ℕ → ℕ → List Span
span_between style from to = if nat_lt from to then span_by style from to ∷ [] else []

-- the spans of texts from an offset on: one for each that isn't empty
abbrev pub spans_from : ℕ → List TextStyle → List (List ℕ) → List Span
spans_from at [] ts = []
spans_from at (s ∷ ss) [] = []
spans_from at (s ∷ ss) (t ∷ ts) = span_between s at (at + length t) ++ spans_from (at + length t) ss ts

-- the spans of a run
unfoldable pub spans_of : Option Points → List InlineItem → List Span
spans_of points items = spans_from 0 (styles_in (marks_in items)) (printed_in points items)

-- where elements begin among texts, from an offset on: after what is printed before them
abbrev pub starts_from : ℕ → List ItemMark → List (List ℕ) → List InlineStart
starts_from at [] ts = []
starts_from at (Text s ∷ marks) [] = starts_from at marks []
starts_from at (Text s ∷ marks) (t ∷ ts) = starts_from (at + length t) marks ts
starts_from at (Start n ∷ marks) ts = record { node = n; offset = at } ∷ starts_from at marks ts

-- where the elements of a run begin in its text
unfoldable pub starts_of : Option Points → List InlineItem → List InlineStart
starts_of points items = starts_from 0 (marks_in items) (printed_in points items)

-- no text of a run has a negative size or line height
abbrev pub AreGoodTexts : List InlineItem → Type 0
AreGoodTexts items = All IsGoodTextStyle (styles_in (marks_in items))
