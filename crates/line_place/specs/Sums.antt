-- What a line has up to an offset.
use Rattle.std.specs.Prelude.{◌≡◌, ◌≤◌, ◌<◌, ◌^◌, ℕ, ◌+◌, ◌-◌, ◌*◌, ℤ, pos, neg_ℤ, ◌≤ℤ◌, ◌+ℤ◌, Bool, false, if◌then◌else◌, List, length, slice_index_or, Some}
use Rattle.std.specs.List.{All}
use Rattle.metrics.specs.Face.{FontFace}
use Rattle.boxes.specs.Contents.{IsGoodLeaf}
use Rattle.boxes.specs.declared.leaf.Leaf.{Leaf}
use Rattle.boxes.specs.declared.leaf.Span.{Span}
use Rattle.metrics.specs.Widths.{sum_from}
use Rattle.line_fill.specs.Widths.{span_at, unit_at}
use Rattle.line_place.specs.declared.sums.Sums.{Sums}
use Rattle.line_place.specs.declared.pieces.Piece.{Piece}
use Rattle.line_place.specs.declared.place.Run.{Run}
use Rattle.line_place.specs.declared.place.Setting.{Setting}
use Rattle.line_place.specs.Conditions.{HasFaces}
use Rattle.line_place.specs.Runs.{Covers, is_free, share_of}

-- 1 for a place that counts, else 0
abbrev pub one : Bool → ℕ
one b = if b then 1 else 0

-- how many spaces that take shares stand among n bytes from an offset on
abbrev pub count_free : List ℕ → ℕ → ℕ → ℕ → ℕ
count_free text end from n = sum_from (λ k. one (is_free text end k)) from n

-- the width and the number of spaces that take shares, from the line's beginning to an offset
pub record AreSums (faces : List FontFace) (leaf : Leaf) (end from at : ℕ) (s : Sums) : Type 0 where
  pub width : s.width ≡ sum_from (unit_at faces leaf from) from (at - from)
  pub passed : s.passed ≡ count_free leaf.text end from (at - from)
  pub wide : s.width ≤ 2 ^ 27 * (at - from)
  pub few : s.passed ≤ at - from

-- a piece stands in the span that it names
pub record IsInside (spans : List Span) (p : Piece) : Type 0 where
  pub there : p.span < length spans
  pub here : (d : Span) (k : ℕ) → p.from ≤ k → k < p.to → span_at spans k ≡ Some (slice_index_or spans p.span d)

-- the bytes between two offsets stand in a span, whose face is there and which has a size
pub record StandsIn (faces : List FontFace) (leaf : Leaf) (span : Span) (from to : ℕ) : Type 0 where
  pub face : span.face.0 < length faces
  pub size : pos 0 ≤ℤ span.size
  pub here : (k : ℕ) → from ≤ k → k < to → span_at leaf.spans k ≡ Some span

-- the pieces of a part of a leaf's text: they cover it once, each in its span
pub record ArePieces (leaf : Leaf) (from to : ℕ) (pieces : List Piece) : Type 0 where
  pub within : to ≤ length leaf.text
  pub covers : Covers from pieces to
  pub inside : All (IsInside leaf.spans) pieces

-- the pieces of a part of a leaf's text can be summed: their leaf is good and its faces are there
pub record CanSum (faces : List FontFace) (leaf : Leaf) (from to : ℕ) (pieces : List Piece) : Type 0 where
  pub good : IsGoodLeaf leaf
  pub faced : HasFaces faces leaf
  pub few : to < 2 ^ 32
  pub parted : ArePieces leaf from to pieces

-- a line begins and has slack within bounds that no sum of places passes
pub record IsBounded (s : Setting) : Type 0 where
  pub slack : s.slack ≤ 2 ^ 42
  pub low : neg_ℤ (pos (2 ^ 44)) ≤ℤ s.start
  pub high : s.start ≤ℤ pos (2 ^ 44)

-- how a line is set: where its first character begins, its slack, and how many spaces share it. The place of an offset
-- is as far from the beginning as the text between is wide, with the shares of the spaces passed
abbrev pub left_at : List FontFace → Leaf → ℕ → ℕ → Setting → ℕ → ℤ
left_at faces leaf end from s at =
    s.start +ℤ pos (sum_from (unit_at faces leaf from) from (at - from) + share_of s.slack s.count
    (count_free leaf.text end from (at - from)))

-- the run of a piece
abbrev pub run_of : List FontFace → Leaf → ℕ → ℕ → Setting → Piece → Run
run_of faces leaf end from s p =
    record { x = left_at faces leaf end from s p.from; from = p.from; to = p.to; span = p.span; hyphen = false }
