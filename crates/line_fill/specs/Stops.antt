-- The stops of a paragraph, for a plan of its lines as a whole (Knuth and Plass; this project's own).
use Rattle.std.specs.Prelude.{ℕ, zero, suc, ◌-◌, ℤ, pos, ◌-ℤ◌, List, [], ◌∷◌, ◌++◌, slice_index, filter, map, nat_lt, ◌&&◌, Option, None, Some, if◌then◌else◌}
use Rattle.metrics.specs.Face.{FontFace}
use Rattle.metrics.specs.Widths.{char_at, has_width, is_lead, sum_from}
use Rattle.boxes.specs.declared.leaf.Leaf.{Leaf}
use Rattle.line_fill.specs.Breaks.{line_measure, shown_len, stop_of}
use Rattle.line_fill.specs.Widths.{hyphen_at, unit_at}
use Rattle.total_fit.specs.declared.plan.Stop.{Stop}
use Rattle.total_fit.specs.declared.plan.Measures.{Measures}

-- where lines can end after a place, in order: the opportunities before the next newline or the end, and that place
unfoldable pub offsets_of : Leaf → ℕ → List ℕ
offsets_of leaf from =
    filter (λ q. nat_lt from q && nat_lt q (stop_of leaf.text from)) leaf.places ++ stop_of leaf.text from ∷ []

-- of n bytes from a place on, the first that begins a character with a width
abbrev pub first_wide : List ℕ → ℕ → ℕ → Option ℕ
first_wide text a zero = None
first_wide text a (suc n) =
    if is_lead (slice_index text a) && has_width (char_at text a) then Some a else first_wide text (suc a) n

-- the width from one place to where the line begins that begins at another: up to and with the first character with a
-- width there, less that character's own advance, since no pair counts for the first one of a line
abbrev pub next_of : List FontFace → Leaf → ℕ → ℕ → Option ℕ → ℤ
next_of faces leaf from to None = pos (sum_from (unit_at faces leaf from) from (to - from))
next_of faces leaf from to (Some k) =
    pos (sum_from (unit_at faces leaf from) from (suc k - from)) -ℤ pos (unit_at faces leaf k k)

-- what a plan sees of a place: the width up to it without spaces and a newline at the end, the hyphen that is shown
-- there, and the width up to the next line
unfoldable pub stop_at : List FontFace → Leaf → ℕ → ℕ → Stop
stop_at faces leaf from to = record {
  seen = pos (sum_from (unit_at faces leaf from) from (shown_len leaf.text from (to - from)));
  hyphen = pos (hyphen_at faces leaf to);
  next = next_of faces leaf from to (first_wide leaf.text to (stop_of leaf.text from - to));
}

-- the stops of what is left of a paragraph from a place on
unfoldable pub stops_of : List FontFace → Leaf → ℕ → List Stop
stops_of faces leaf from = map (stop_at faces leaf from) (offsets_of leaf from)

-- the measures of its lines: the indent is off the first one of a leaf
unfoldable pub measures_of : Leaf → ℕ → ℤ → Measures
measures_of leaf from measure = record { first = line_measure leaf from measure; rest = measure }
