-- Characters that more than one rule names, by their numbers in Unicode.
use Rattle.std.specs.Prelude.{◌≡◌, ◌==◌, ◌&&◌, ◌||◌, ◌-◌, ℕ, nat_le, Bool, List, slice_index}
use Rattle.bk_num.specs.declared.chars.TheConstants.{HYPHEN, SOFT_HYPHEN, ZERO_WIDTH_SPACE}

-- the hyphen that a line shows at its end: hyphen-minus
abbrev pub hyphen : ℕ
hyphen = 45

-- the soft hyphen, U+00AD, after which a line may end; it is shown as a hyphen there, and nowhere else
abbrev pub soft_hyphen : ℕ
soft_hyphen = 173

-- whether a soft hyphen ends at a place of a text: in UTF-8 it has two bytes
abbrev pub ends_soft_hyphen : List ℕ → ℕ → Bool
ends_soft_hyphen text at = nat_le 2 at && slice_index text (at - 2) == 194 && slice_index text (at - 1) == 173

-- the zero width space, U+200B, after which a line may end
abbrev pub zero_width_space : ℕ
zero_width_space = 8203

-- a quotation mark, `"` or `'`: attributes of HTML and strings of CSS stand between two of one kind
abbrev pub is_quote : ℕ → Bool
is_quote b = b == 34 || b == 39

-- the code has these characters
pub record CharsAgree : Type 0 where
  pub shown : HYPHEN ≡ hyphen
  pub soft : SOFT_HYPHEN ≡ soft_hyphen
  pub zero_width : ZERO_WIDTH_SPACE ≡ zero_width_space
