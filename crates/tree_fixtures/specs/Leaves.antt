-- The leaves of trees in short: newlines and printable ASCII in one style.
use Rattle.std.specs.Prelude.{◌≡◌, ℕ, ◌<◌, ◌≤◌, ◌⊎◌, List, length, slice_index, true, false}
use Rattle.std.specs.List.{All, sum_by}
use Rattle.boxes.specs.declared.leaf.Leaf.{Leaf}
use Rattle.boxes.specs.declared.leaf.Span.{Span}

-- a newline, or a character from U+0020 to U+007E
abbrev pub IsPlainByte : ℕ → Type 0
IsPlainByte b = (b ≡ 10) ⊎ ((32 ≤ b) × (b ≤ 126))

-- bytes of plain text: printable ASCII
abbrev pub ArePlainBytes : List ℕ → Type 0
ArePlainBytes text = (k : ℕ) → k < length text → IsPlainByte (slice_index text k)

-- a span of the strut's style that wraps at ordinary places alone
pub record IsSpanLike (strut s : Span) : Type 0 where
  pub wrap : s.wrap ≡ true
  pub anywhere : s.anywhere ≡ false
  pub face : s.face ≡ strut.face
  pub size : s.size ≡ strut.size
  pub line_height : s.line_height ≡ strut.line_height

-- a text of at most 1,000 bytes in the first face, in one style, whose lines go as far as they fit
pub record IsShortLeaf (leaf : Leaf) : Type 0 where
  pub text : ArePlainBytes leaf.text
  pub spans : All (IsSpanLike leaf.strut) leaf.spans
  pub face : leaf.strut.face.0 ≡ 0
  pub few : length leaf.text ≤ 1000
  pub greedy : leaf.fit ≡ false

-- how many bytes the texts of leaves have together
abbrev pub bytes_of : List Leaf → ℕ
bytes_of leaves = sum_by (λ leaf. length leaf.text) leaves
