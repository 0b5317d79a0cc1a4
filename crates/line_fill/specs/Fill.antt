-- What is known of a line while it is filled.
use Rattle.std.specs.Prelude.{◌≡◌, ◌≢◌, ℕ, zero, suc, ◌+◌, ◌-◌, ◌*◌, ◌^◌, ◌<◌, ◌≤◌, ℤ, pos, ◌≤ℤ◌, ◌+ℤ◌, List, slice_index, length, ◌==◌, ◌||◌, ◌&&◌, not, ◌⊎◌, Bool, Some, if◌then◌else◌}
use Rattle.metrics.specs.Face.{FontFace}
use Rattle.metrics.specs.Widths.{sum_from}
use Rattle.std.specs.Str.{IsCharBoundary}
use Rattle.boxes.specs.declared.leaf.Leaf.{Leaf}
use Rattle.boxes.specs.declared.leaf.Span.{Span}
use Rattle.line_fill.specs.declared.line_width.LineWidth.{LineWidth}
use Rattle.line_fill.specs.declared.found.Found.{Found}
use Rattle.line_fill.specs.Widths.{span_at, unit_at}
use Rattle.line_fill.specs.LineEnd.{stop_of, spaceless_len, width_to, IsOrdinary, IsEmergency}

-- the widths with one more byte
unfoldable pub passed : ℕ → ℕ → LineWidth → LineWidth
passed byte width r =
    record { total = r.total +ℤ pos width; shown = if byte == 32 || byte == 10 then r.shown else r.total +ℤ pos width }

-- the widths with n more bytes, from a place on
abbrev pub passed_to : (ℕ → ℕ) → List ℕ → ℕ → ℕ → LineWidth → LineWidth
passed_to unit text at zero r = r
passed_to unit text at (suc n) r = passed (slice_index text (at + n)) (unit (at + n)) (passed_to unit text at n r)

-- a span of a leaf: its face is there, it has a size, begins at a character, and the bytes up to its end stand in it
pub record IsSpanOf (faces : List FontFace) (leaf : Leaf) (span : Span) : Type 0 where
  pub face : span.face.0 < length faces
  pub size : pos 0 ≤ℤ span.size
  pub begins : IsCharBoundary leaf.text span.from
  pub ends : span.to ≤ length leaf.text
  pub here : (k : ℕ) → span.from ≤ k → k < span.to → span_at leaf.spans k ≡ Some span

-- whether a line is no wider than the room it has
abbrev pub FitsIn : List FontFace → Leaf → ℕ → ℤ → ℕ → Type 0
FitsIn faces leaf from room to = pos (width_to faces leaf from to) ≤ℤ room

-- the widths up to a place
pub record AreWidths (unit : ℕ → ℕ) (text : List ℕ) (from at : ℕ) (r : LineWidth) : Type 0 where
  pub total : r.total ≡ pos (sum_from unit from (at - from))
  pub shown : r.shown ≡ pos (sum_from unit from (spaceless_len text from (at - from)))

-- the places found with one more
unfoldable pub noted : Bool → Bool → Bool → ℕ → ℕ → Found → Found
noted fits ordinary emergency from to f = record {
  best = if ordinary && fits then to else f.best;
  emergency = if emergency && fits then to else f.emergency;
  least = if f.least == from then to else f.least;
}

-- the end, where no later place fits: an ordinary place that fits, else an emergency place that fits, else the least
-- place, which is `to` if there was none
unfoldable pub chosen : ℕ → ℕ → Found → ℕ
chosen from to f = if not (f.best == from) then f.best else if not (f.emergency == from) then f.emergency else
    if not (f.least == from) then f.least else to

-- the places up to `at`: the greatest of each kind that fits, and the least one; `from` stands for none
pub record AreFound (Fitting Ordinary Emergency : ℕ → Type 0) (from at : ℕ) (f : Found) : Type 0 where
  pub best : f.best ≢ from → Ordinary f.best × Fitting f.best
  pub greatest : (q : ℕ) → Ordinary q → Fitting q → q ≤ at → q ≤ f.best
  pub emergency : f.emergency ≢ from → Emergency f.emergency × Fitting f.emergency
  pub greatest_emergency : (q : ℕ) → Emergency q → Fitting q → q ≤ at → q ≤ f.emergency
  pub least : f.least ≢ from → (Ordinary f.least ⊎ Emergency f.least) × (f.least ≤ at)
  pub before : (q : ℕ) → Ordinary q ⊎ Emergency q → q ≤ at → (f.least ≢ from) × (f.least ≤ q)

-- a line that isn't ended is filled up to a place
pub record IsFilled (faces : List FontFace) (leaf : Leaf) (from : ℕ) (room : ℤ) (at : ℕ) (r : LineWidth)
    (f : Found) : Type 0 where
  pub low : from ≤ at
  pub more : at < length leaf.text
  pub widths : AreWidths (unit_at faces leaf from) leaf.text from at r
  pub not_negative : pos 0 ≤ℤ r.total
  pub small : r.total ≤ℤ pos (2 ^ 27 * at)
  pub same_stop : stop_of leaf.text from ≡ stop_of leaf.text at
  pub found : AreFound (FitsIn faces leaf from room) (IsOrdinary leaf.text leaf.places from)
      (IsEmergency leaf from) from at f
