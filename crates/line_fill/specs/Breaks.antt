-- Where lines may end, the measure of a line, and where one ends that is filled as far as it goes.
use Rattle.std.specs.Prelude.{◌≡◌, ℕ, zero, suc, ◌+◌, ◌-◌, ◌<◌, ◌≤◌, ℤ, pos, ◌≤ℤ◌, ◌-ℤ◌, List, [], ◌∷◌, slice_index, drop, ◌==◌, ◌⊎◌, Bool, true, false, Option, None, Some, Contains, unwrap_or, if◌then◌else◌}
use Rattle.bk_num.specs.Lengths.{used_of}
use Rattle.metrics.specs.Face.{FontFace}
use Rattle.boxes.specs.Wraps.{wraps_anywhere}
use Rattle.boxes.specs.declared.leaf.Leaf.{Leaf}
use Rattle.boxes.specs.declared.leaf.Span.{Span}
use Rattle.metrics.specs.Widths.{sum_from}
use Rattle.line_fill.specs.Widths.{unit_at, hyphen_at, span_at}

-- how many bytes there are up to and with the first newline, or all
abbrev pub line_len : List ℕ → ℕ
line_len [] = 0
line_len (b ∷ bs) = if b == 10 then 1 else suc (line_len bs)

-- the offset after the next newline, or the text's end
abbrev pub stop_of : List ℕ → ℕ → ℕ
stop_of text from = from + line_len (drop from text)

-- how many of n bytes from `from` on are left without the spaces at their end
abbrev pub spaceless_len : List ℕ → ℕ → ℕ → ℕ
spaceless_len text from zero = 0
spaceless_len text from (suc n) = if slice_index text (from + n) == 32 then spaceless_len text from n else suc n

-- the same, and without a newline at the end
abbrev pub shown_len : List ℕ → ℕ → ℕ → ℕ
shown_len text from zero = 0
shown_len text from (suc n) =
    if slice_index text (from + n) == 10 then spaceless_len text from n else spaceless_len text from (suc n)

-- the width from one place to another, without spaces and a newline at the end, and with a shown hyphen
abbrev pub width_to : List FontFace → Leaf → ℕ → ℕ → ℕ
width_to faces leaf from to =
    sum_from (unit_at faces leaf from) from (shown_len leaf.text from (to - from)) + hyphen_at faces leaf to

-- the indent of the line that begins at a place: the first line of a leaf has the leaf's, of which a percentage is of
-- the measure (CSS 2.1, 16.1)
unfoldable pub indent_of : Leaf → ℕ → ℤ → ℤ
indent_of leaf from measure = if from == 0 then unwrap_or (used_of leaf.indent measure) (pos 0) else pos 0

-- the measure of the line that begins at a place: its indent is taken off
unfoldable pub line_measure : Leaf → ℕ → ℤ → ℤ
line_measure leaf from measure = measure -ℤ indent_of leaf from measure

-- whether a line from one place to another is no wider than its measure
abbrev pub Fits : List FontFace → Leaf → ℕ → ℤ → ℕ → Type 0
Fits faces leaf from measure to = pos (width_to faces leaf from to) ≤ℤ line_measure leaf from measure

-- the ordinary places of the line that begins at `from`: the opportunities up to the next newline or the end, and that
-- place
pub record IsOrdinary (text places : List ℕ) (from to : ℕ) : Type 0 where
  pub after : from < to
  pub within : to ≤ stop_of text from
  pub named : (to ≡ stop_of text from) ⊎ Contains places to

-- whether a span is there and lines may end after each of its characters
abbrev pub ends_anywhere : Option Span → Bool
ends_anywhere None = false
ends_anywhere (Some s) = wraps_anywhere s

-- the emergency places: the grapheme boundaries before the next newline or the end, after a character that allows them
-- (CSS Text 3, overflow-wrap)
pub record IsEmergency (leaf : Leaf) (from to : ℕ) : Type 0 where
  pub after : from < to
  pub before : to < stop_of leaf.text from
  pub named : Contains leaf.graphemes to
  pub allowed : ends_anywhere (span_at leaf.spans (to - 1)) ≡ true

-- the end of a line: the greatest ordinary place that fits, else the greatest emergency place that fits, else the least
-- place
pub data IsLineEnd (fits ordinary emergency : ℕ → Type 0) (to : ℕ) : Type 0 where
  at_ordinary : ordinary to → fits to → ((q : ℕ) → ordinary q → fits q → q ≤ to) → IsLineEnd fits ordinary emergency to
  at_emergency : ((q : ℕ) → ordinary q → ¬ (fits q)) → emergency to → fits to →
      ((q : ℕ) → emergency q → fits q → q ≤ to) →
      IsLineEnd fits ordinary emergency to
  at_least : ((q : ℕ) → ordinary q ⊎ emergency q → ¬ (fits q)) → ordinary to ⊎ emergency to →
      ((q : ℕ) → ordinary q ⊎ emergency q → to ≤ q) → IsLineEnd fits ordinary emergency to
