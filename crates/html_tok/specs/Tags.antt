-- The attributes and the end of a tag, as a grammar of what follows the tag's name.
use Rattle.std.specs.Prelude.{ℕ, zero, suc, ◌+◌, ◌-◌, Bool, true, not, List, [], ◌∷◌, Option, None, Some, length, drop, slice_index, option_map, ◌==◌, if◌then◌else◌}
use Rattle.std.specs.List.{before_first, after_first}
use Rattle.std.specs.Char.{is_ascii_whitespace}
use Rattle.bk_num.specs.Chars.{is_quote}
use Rattle.html_tok.specs.Classes.{is_between, ends_attribute_name, ends_value, from_first}

-- what stands at the start, and what is left after it
pub record Part : Type 0 where
  pub text : List ℕ
  pub rest : List ℕ

-- a value that begins here: between quotes, or up to white space or `>`
unfoldable pub value_at : List ℕ → Part
value_at bs = if is_quote (slice_index bs 0) then record {
  text = before_first (λ b. b == slice_index bs 0) (drop 1 bs);
  rest = after_first (λ b. b == slice_index bs 0) (drop 1 bs);
}
    else record { text = before_first ends_value bs; rest = from_first ends_value bs }

-- after white space that is passed
abbrev pub past_space : List ℕ → List ℕ
past_space bs = from_first (λ b. not (is_ascii_whitespace b)) bs

-- the value after an attribute's name: what follows white space, `=` and white space, and else the empty one
unfoldable pub value_after : List ℕ → Part
value_after bs = if slice_index (past_space bs) 0 == 61 then value_at (past_space (drop 1 (past_space bs)))
    else record { text = []; rest = bs }

-- the name of the attribute that begins here: one byte, and then those up to white space, `/`, `>` or `=`
unfoldable pub name_at : List ℕ → Part
name_at [] = record { text = []; rest = [] }
name_at (b ∷ bs) = record { text = b ∷ before_first ends_attribute_name bs; rest = from_first ends_attribute_name bs }

-- the name and the value of the attribute that begins here
abbrev pub attribute_at : List ℕ → List ℕ × List ℕ
attribute_at bs = ((name_at bs).text, (value_after (name_at bs).rest).text)

-- what follows the attribute that begins here
abbrev pub after_attribute : List ℕ → List ℕ
after_attribute bs = (value_after (name_at bs).rest).rest

-- how many bytes that attribute has
unfoldable pub attribute_len : List ℕ → ℕ
attribute_len bs = length bs - length (after_attribute bs)

-- how many bytes stand before the `>` that ends the tag, where the first n bytes belong to an attribute
unfoldable pub end_after : ℕ → List ℕ → Option ℕ
end_after n [] = None
end_after (suc n) (b ∷ bs) = option_map (λ k. k + 1) (end_after n bs)
end_after zero (b ∷ bs) = if is_between b then option_map (λ k. k + 1) (end_after 0 bs) else
    if b == 62 then Some 0 else option_map (λ k. k + 1) (end_after (attribute_len (b ∷ bs) - 1) bs)

-- the attributes up to the end of the tag or of the text, where the first n bytes belong to one before
unfoldable pub attributes_after : ℕ → List ℕ → List (List ℕ × List ℕ)
attributes_after n [] = []
attributes_after (suc n) (b ∷ bs) = attributes_after n bs
attributes_after zero (b ∷ bs) = if is_between b then attributes_after 0 bs else
    if b == 62 then [] else attribute_at (b ∷ bs) ∷ attributes_after (attribute_len (b ∷ bs) - 1) bs

-- where the tag ends whose name these bytes follow, if it does
abbrev pub tag_end : List ℕ → Option ℕ
tag_end bs = end_after 0 bs

-- the attributes of a tag, each a name and a value
abbrev pub attributes_of : List ℕ → List (List ℕ × List ℕ)
attributes_of bs = attributes_after 0 bs

-- whether no attribute begins here
abbrev pub ends_attributes : List ℕ → Bool
ends_attributes [] = true
ends_attributes (b ∷ bs) = b == 62
