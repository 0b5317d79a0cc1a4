-- The runs of a line: the part of each span in it, cut after the spaces over which slack is shared.
use Rattle.std.specs.Prelude.{◌≡◌, ◌<◌, ◌≤◌, ℕ, zero, suc, ◌+◌, ◌-◌, ◌*◌, ◌/◌, ◌%◌, min, max, List, [], ◌∷◌, ◌++◌, Bool, ◌==◌, ◌&&◌, nat_lt, slice_index, length, if◌then◌else◌}
use Rattle.std.specs.Str.{IsCharBoundary}
use Rattle.boxes.specs.Contents.{AreSpans}
use Rattle.boxes.specs.declared.leaf.Span.{Span}
use Rattle.line_place.specs.declared.pieces.Piece.{Piece}

-- whether a place is a space that takes a share: one before the spaces that hang. In a line without shares the end is
-- its beginning
abbrev pub is_free : List ℕ → ℕ → ℕ → Bool
is_free text end k = nat_lt k end && (slice_index text k == 32)

-- what is left of a piece at the end; nothing where it is empty
abbrev pub last_piece : ℕ → ℕ → ℕ → List Piece
last_piece span start at = if start == at then [] else record { span = span; from = start; to = at } ∷ []

-- n bytes from a place on, of a piece that began at `start`, cut after each free space
abbrev pub cut_pieces : (ℕ → Bool) → ℕ → ℕ → ℕ → ℕ → List Piece
cut_pieces free span start at zero = last_piece span start at
cut_pieces free span start at (suc n) =
    if free at then record { span = span; from = start; to = suc at } ∷ cut_pieces free span (suc at) (suc at) n else
    cut_pieces free span start (suc at) n

-- what the place `at` cuts off, and where the next piece begins
abbrev pub cut_here : Bool → ℕ → ℕ → ℕ → List Piece
cut_here free span start at = if free then record { span = span; from = start; to = at + 1 } ∷ [] else []

-- where the next piece begins
abbrev pub next_start : Bool → ℕ → ℕ → ℕ
next_start free start at = if free then at + 1 else start

-- the part of a span in a line
abbrev pub part_pieces : (ℕ → Bool) → ℕ → ℕ → ℕ → Span → List Piece
part_pieces free from to i s = cut_pieces free i (max from s.from) (max from s.from) (min to s.to - max from s.from)

-- the parts of all spans, the first of which has a number
abbrev pub line_pieces : (ℕ → Bool) → ℕ → ℕ → ℕ → List Span → List Piece
line_pieces free from to i [] = []
line_pieces free from to i (s ∷ spans) = part_pieces free from to i s ++ line_pieces free from to (suc i) spans

-- each piece begins where the one before ends, and none is empty
abbrev pub Covers : ℕ → List Piece → ℕ → Type 0
Covers from [] to = from ≡ to
Covers from (p ∷ pieces) to = (p.from ≡ from) × (p.from < p.to) × Covers p.to pieces to

-- a piece begins and ends at characters of a text
pub record IsPieceOf (text : List ℕ) (p : Piece) : Type 0 where
  pub order : p.from ≤ p.to
  pub begins : IsCharBoundary text p.from
  pub ends : IsCharBoundary text p.to

-- the pieces of a line cover it once
abbrev pub PiecesCover : Type 0
PiecesCover = (text : List ℕ) (free : ℕ → Bool) (spans : List Span) (from to : ℕ) → AreSpans text 0 spans → from ≤ to →
    to ≤ length text →
    Covers from (line_pieces free from to 0 spans) to

-- what of the slack stands before k of n spaces are passed: the odd units go to the first ones
abbrev pub share_of : ℕ → ℕ → ℕ → ℕ
share_of slack n k = if n == 0 then 0 else (slack / n) * k + min k (slack % n)
