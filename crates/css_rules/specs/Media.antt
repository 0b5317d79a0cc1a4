-- A media list (CSS 2.1, 7.2; HTML's `media`), as far as it is read: it is empty, or a part of it is `all` or `print`
-- alone.
use Rattle.std.specs.Prelude.{ℕ, Bool, false, not, ◌&&◌, ◌||◌, nat_le, List, [], ◌∷◌, take, length, max, codes}
use Rattle.std.specs.List.{list_any, list_all, filter, prefix_len}
use Rattle.css_tok.specs.Tokens.{Item}
use Rattle.css_tok.specs.Plain.{is_word}
use Rattle.css_tok.specs.Marks.{is_gap, is_ident_kind}
use Rattle.css_rules.specs.Brackets.{open_after}
use Rattle.css_rules.specs.Parts.{Piece, parts_from}
use Rattle.css_rules.specs.declared.parts.Stop.TheVariants as stop

-- the name of a medium that a paged book is for
unfoldable pub is_medium : Item → Bool
is_medium t = is_ident_kind t.kind && (is_word t.slice (codes "all") || is_word t.slice (codes "print"))

-- one token alone, a medium that counts
abbrev pub is_one_medium : List Item → Bool
is_one_medium [] = false
is_one_medium (t ∷ []) = is_medium t
is_one_medium (t ∷ u ∷ ts) = false

-- a medium alone, with white space and comments round it
unfoldable pub is_medium_part : Piece → Bool
is_medium_part ts = is_one_medium (filter (λ t. not (is_gap t)) ts)

-- the most brackets that are open at a time
unfoldable pub deepest : List ℕ → List Item → ℕ
deepest open' [] = length open'
deepest open' (t ∷ ts) = max (length open') (deepest (open_after open' t) ts)

-- the reader of media lists takes no memory, and gives up in a part with more open brackets
abbrev pub most_brackets : ℕ
most_brackets = 1024

-- no more brackets are open at once than a reader keeps
abbrev pub is_shallow : Piece → Bool
is_shallow ts = nat_le (deepest [] ts) most_brackets

-- the parts before the first whose brackets nest deeper
abbrev pub shallow_parts : List Piece → List Piece
shallow_parts ps = take (prefix_len is_shallow ps) ps

-- nothing but white space and comments, or a medium alone in one of the parts
unfoldable pub is_media_list : List Item → Bool
is_media_list ts = list_all is_gap ts || list_any is_medium_part (shallow_parts (parts_from stop.Comma [] ts))
