-- A media list of which a prefix was read, for the contracts of its reader.
use Rattle.std.specs.Prelude.{◌≡◌, ℕ, Bool, true, false, ◌&&◌, ◌||◌, if◌then◌else◌, nat_le, List, [], ◌∷◌}
use Rattle.std.specs.List.{list_any, list_all}
use Rattle.css_tok.specs.Tokens.{Item}
use Rattle.css_tok.specs.Marks.{is_gap}
use Rattle.css_rules.specs.Parts.{Piece, parts_from}
use Rattle.css_rules.specs.Media.{is_medium, is_medium_part, deepest, most_brackets, shallow_parts}
use Rattle.css_rules.specs.declared.parts.Stop.TheVariants as stop
use Rattle.css_rules.specs.declared.media.Seen.{Seen}
use Rattle.css_rules.specs.declared.media.Seen.TheVariants as seen
use Rattle.css_rules.specs.declared.media.MediaReader.{MediaReader}

-- the brackets that are open, what stands in the part so far, and whether all was white space and comments
pub record MediaState : Type 0 where
  pub brackets : List ℕ
  pub seen : Seen
  pub blank : Bool

-- a reader of media as contracts see it
abbrev pub state_in : MediaReader → MediaState
state_in r = record { brackets = r.brackets; seen = r.seen; blank = r.blank }

-- the part is a medium that counts
abbrev pub is_medium_seen : Seen → Bool
is_medium_seen seen.Medium = true
is_medium_seen _ = false

-- what a part is after its next token that is no gap
abbrev pub seen_first : Seen → Bool → Seen
seen_first seen.Nothing medium = if medium then seen.Medium else seen.Other
seen_first _ medium = seen.Other

-- what a part is after its next token
unfoldable pub seen_after : Seen → Item → Seen
seen_after s t = if is_gap t then s else seen_first s (is_medium t)

-- the state after a comma outside brackets
abbrev pub next_part : MediaState → MediaState
next_part m = record { brackets = m.brackets; seen = seen.Nothing; blank = false }

-- a part whose beginning was read is a medium alone
abbrev pub part_with : Seen → Piece → Bool
part_with seen.Nothing ts = is_medium_part ts
part_with seen.Medium ts = list_all is_gap ts
part_with seen.Other ts = false

-- a part is a medium alone, where the beginning of the first one was read
abbrev pub parts_with : Seen → List ℕ → List Piece → Bool
parts_with s open' [] = nat_le (deepest open' []) most_brackets && part_with s []
parts_with s open' (p ∷ ps) =
    nat_le (deepest open' p) most_brackets && (part_with s p || list_any is_medium_part (shallow_parts ps))

-- the list is read, if these tokens are what is left of it
unfoldable pub reads : MediaState → List Item → Bool
reads m ts = (m.blank && list_all is_gap ts) || parts_with m.seen m.brackets (parts_from stop.Comma m.brackets ts)

-- one more token was read
abbrev pub GoesOn : MediaState → Item → MediaState → Type 0
GoesOn m t n = (ts : List Item) → reads m (t ∷ ts) ≡ reads n ts

-- with this token the answer stands, whatever follows
abbrev pub IsSettled : MediaState → Item → Bool → Type 0
IsSettled m t answer = (ts : List Item) → reads m (t ∷ ts) ≡ answer
