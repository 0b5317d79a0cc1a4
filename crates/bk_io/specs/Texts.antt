-- Texts of files. A text is its UTF-8 bytes; its characters are `chars` of them (Unicode, 3.9), and offsets are byte
-- offsets at `IsCharBoundary`.
use Rattle.std.specs.Prelude.{ℕ, ◌≤◌, List, ◌∷◌, [], length, take, drop, nat_eq, if◌then◌else◌}
use Rattle.std.specs.Str.{IsUtf8}
use Rattle.std.specs.List.{starts_with}

-- the bytes of U+FEFF
abbrev pub mark : List ℕ
mark = 0xEF ∷ 0xBB ∷ 0xBF ∷ []

-- a text less one U+FEFF at its start
unfoldable pub unmarked : List ℕ → List ℕ
unmarked text = if starts_with nat_eq text mark then drop 3 text else text

-- the prefix of this length is UTF-8, and no longer prefix is
pub record IsLongestPrefix (bytes : List ℕ) (n : ℕ) : Type 0 where
  pub within : n ≤ length bytes
  pub utf8 : IsUtf8 (take n bytes)
  pub greatest : (k : ℕ) → k ≤ length bytes → IsUtf8 (take k bytes) → k ≤ n

-- a function of bytes gives the length of their longest prefix that is UTF-8
abbrev pub LongestPrefixIs : (List ℕ → ℕ) → Type 0
LongestPrefixIs f = (bytes : List ℕ) → IsLongestPrefix bytes (f bytes)
