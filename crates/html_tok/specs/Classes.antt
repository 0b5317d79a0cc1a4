-- The classes of bytes at which the parts of a tag end (HTML, 13.2.5, "Tokenization").
use Rattle.std.specs.Prelude.{ℕ, Bool, List, drop, ◌==◌, ◌||◌}
use Rattle.std.specs.List.{position_or_len}
use Rattle.std.specs.Char.{is_ascii_whitespace}

-- what may stand between the attributes of a tag: white space and `/`
abbrev pub is_between : ℕ → Bool
is_between b = is_ascii_whitespace b || b == 47

-- what a tag's name ends before: white space, `/` and `>`
abbrev pub ends_name : ℕ → Bool
ends_name b = is_between b || b == 62

-- what an attribute's name ends before: the same and `=`
abbrev pub ends_attribute_name : ℕ → Bool
ends_attribute_name b = ends_name b || b == 61

-- what a value without quotes ends before: white space and `>`
abbrev pub ends_value : ℕ → Bool
ends_value b = is_ascii_whitespace b || b == 62

-- the bytes from the first one on that passes
abbrev pub from_first : (ℕ → Bool) → List ℕ → List ℕ
from_first p bs = drop (position_or_len p bs) bs
