-- What hyphenation does to a run of inline text, and what it leaves as it is.
use Rattle.std.specs.Prelude.{◌≡◌, ℕ, false, List, Option, None, Some}
use Rattle.std.specs.List.{All, list_any}
use Rattle.std.specs.Str.{IsUtf8, chars}
use Rattle.inline_text.specs.Space.{collapsed}
use Rattle.soft_hyphens.specs.Hyphenated.{encoded, put_from}
use Rattle.soft_hyphens.specs.Words.{Points, is_put, letters_in, points_with}
use Rattle.box_gen.specs.Items.{InlineItem}
use Rattle.box_gen.specs.Runs.{autos_in, parts_in, printed_in, spans_of, starts_of, text_of}

-- the texts of a run are UTF-8, as they are in every document
abbrev pub AreTexts : List InlineItem → Type 0
AreTexts items = All (λ p. IsUtf8 p.text) (parts_in items)

-- the text of a run by patterns is its text without them, with a soft hyphen at each point of each word that counts,
-- and nowhere else
abbrev pub RunsAreHyphenated : Type 0
RunsAreHyphenated = (points : Points) (items : List InlineItem) → AreTexts items →
    text_of (Some points) items ≡
    encoded (put_from (is_put points (letters_in (autos_in items) (printed_in None items))) 0
    (chars (text_of None items)))

-- a run is the same as without patterns: its text, its spans, and where its elements begin
pub record StaysBy (points : Option Points) (items : List InlineItem) : Type 0 where
  pub text : text_of points items ≡ text_of None items
  pub spans : spans_of points items ≡ spans_of None items
  pub starts : starts_of points items ≡ starts_of None items

-- a run in which no text is hyphenated is the same as without patterns
abbrev pub OthersStay : Type 0
OthersStay = (value : List ℕ → ℕ → ℕ) (items : List InlineItem) → AreTexts items →
    list_any (λ auto. auto) (autos_in items) ≡ false → StaysBy (Some (points_with value)) items

-- without patterns a run prints what the collapsing of its white space leaves
abbrev pub RunsAreCollapsed : Type 0
RunsAreCollapsed = (items : List InlineItem) → printed_in None items ≡ collapsed (parts_in items)
