-- Where the lines of a text may end (CSS Text 3, 5; UAX #14).
use Rattle.std.specs.Prelude.{ℕ, ◌+◌, Bool, true, false, not, ◌==◌, ◌&&◌, ◌||◌, nat_lt, nat_le, List, [], ◌∷◌, map, Option, None, Some}
use Rattle.std.specs.Char.{len_utf8}
use Rattle.std.specs.List.{filter, list_any}
use Rattle.std.specs.Str.{chars}
use Rattle.unicode_segmentation.specs.Grapheme.{graphemes}
use Rattle.unicode_segmentation.specs.Segments.{with_offsets}
use Rattle.bk_num.specs.Chars.{hyphen, soft_hyphen, zero_width_space}
use Rattle.boxes.specs.Wraps.{wraps_anywhere}
use Rattle.boxes.specs.declared.leaf.Span.{Span}

-- the characters after which a line may end: space, hyphen-minus, soft hyphen, zero width space, hyphen, en dash and em
-- dash
abbrev pub breaking : List ℕ
breaking = 32 ∷ hyphen ∷ soft_hyphen ∷ zero_width_space ∷ 8208 ∷ 8211 ∷ 8212 ∷ []

-- whether a line may end between two characters: after one of those, and before neither a space nor a newline
abbrev pub is_break : ℕ → ℕ → Bool
is_break before next = list_any (λ c. c == before) breaking && not (next == 32 || next == 10)

-- an offset between two characters
pub record Joint : Type 0 where
  pub before : ℕ
  pub next : ℕ
  pub at : ℕ

-- the joints of some characters, the first of which stands at an offset after another character
abbrev pub joints_after : ℕ → ℕ → List ℕ → List Joint
joints_after before at [] = []
joints_after before at (c ∷ cs) = record { before = before; next = c; at = at } ∷ joints_after c (at + len_utf8 c) cs

-- the joints of some characters
abbrev pub joints : List ℕ → List Joint
joints [] = []
joints (c ∷ cs) = joints_after c (len_utf8 c) cs

-- whether the character that ends at an offset stands in a span that passes a test
abbrev pub ends_in : (Span → Bool) → List Span → ℕ → Bool
ends_in p spans at = list_any (λ (s : Span). p s && nat_lt s.from at && nat_le at s.to) spans

-- whether lines end in a span
abbrev pub wraps : Span → Bool
wraps s = s.wrap

-- whether a joint is an ordinary place
abbrev pub is_opportunity : List Span → Joint → Bool
is_opportunity spans j = is_break j.before j.next && ends_in wraps spans j.at

-- the ordinary places of a text
unfoldable pub opportunities_of : List ℕ → List Span → List ℕ
opportunities_of text spans = map (λ (j : Joint). j.at) (filter (is_opportunity spans) (joints (chars text)))

-- the offsets at which the graphemes of a text begin (UAX #29)
unfoldable pub boundaries_of : List ℕ → List ℕ
boundaries_of text = map (λ p. p.0) (with_offsets 0 (graphemes true text))

-- the emergency places of a text: the boundaries after a character of a span that allows them
unfoldable pub emergencies_of : List ℕ → List Span → List ℕ
emergencies_of text spans = filter (ends_in wraps_anywhere spans) (boundaries_of text)

-- whether the span that is there passes a test
abbrev pub passes : (Span → Bool) → Option Span → Bool
passes p None = false
passes p (Some s) = p s
