-- A declaration, read from the tokens of a piece.
use Rattle.std.specs.Prelude.{◌≡◌, ◌++◌, ℕ, zero, suc, ◌-◌, Bool, true, false, ◌&&◌, if◌then◌else◌, ◌==◌, List, [], ◌∷◌, take, drop, length, Option, Some, None, slice_get, codes, unwrap_or, is_some, option_map}
use Rattle.std.specs.Option.{option_map_or}
use Rattle.std.specs.List.{prefix_len, list_any, filter_map}
use Rattle.css_tok.specs.Plain.{is_word}
use Rattle.css_tok.specs.declared.kind.CssKind.{CssKind}
use Rattle.css_tok.specs.declared.kind.CssKind.TheVariants as kind
use Rattle.css_tok.specs.Tokens.{Item}
use Rattle.css_tok.specs.Marks.{mark, is_gap, is_ident_kind}
use Rattle.css_rules.specs.Brackets.{is_closed}
use Rattle.css_rules.specs.Parts.{Piece, joined, parts_from, separator}
use Rattle.css_rules.specs.declared.parts.Stop.{Stop}
use Rattle.css_rules.specs.declared.decls.DeclSlice.{DeclSlice}

-- a declaration: its name, the bytes of its value, and whether it is important
pub record Decl : Type 0 where
  pub name : List ℕ
  pub value : List ℕ
  pub important : Bool

-- a declaration of the reader as contracts see it
abbrev pub decl_in : DeclSlice → Decl
decl_in d = record { name = d.name.now; value = d.value.now; important = d.important }

-- a string that its line ends
abbrev pub is_bad_kind : CssKind → Bool
is_bad_kind kind.BadStr = true
is_bad_kind _ = false

-- the word `important` in any case
unfoldable pub is_bang_word : Item → Bool
is_bang_word t = is_ident_kind t.kind && is_word t.slice (codes "important")

-- the token before a place
abbrev pub item_before : Piece → ℕ → Option Item
item_before ts zero = None
item_before ts (suc n) = slice_get ts n

-- a test of the token before a place
abbrev pub before : (Item → Bool) → Piece → ℕ → Bool
before test ts n = option_map_or test (item_before ts n) false

-- the mark `!`
abbrev pub is_bang : Item → Bool
is_bang t = mark t == 33

-- how many of the first n tokens are left without the gaps at their end
unfoldable pub gapless_len : Piece → ℕ → ℕ
gapless_len ts zero = 0
gapless_len ts (suc n) = if before is_gap ts (suc n) then gapless_len ts n else suc n

-- how many of the first n tokens come before a final `!` `important`, if there is one
unfoldable pub bang_place : Piece → ℕ → Option ℕ
bang_place ts n =
    let word = gapless_len ts n in
    let bang = gapless_len ts (word - 1) in
    if before is_bang_word ts word && before is_bang ts bang then Some (bang - 1) else None

-- The same for the tokens of a value (css-syntax, 5.4.6). Where a bracket is left open, they stand inside it and
-- are part of the value.
unfoldable pub important_place : Bool → Piece → Option ℕ
important_place closed ts = if closed then bang_place ts (length ts) else None

-- how many tokens a value has, without `!important` and the gaps before it
unfoldable pub value_len : Bool → Piece → ℕ
value_len closed ts = gapless_len ts (unwrap_or (important_place closed ts) (length ts))

-- the declaration of a name whose value these tokens begin
unfoldable pub decl_from : Bool → List ℕ → Piece → Decl
decl_from closed name ts =
    record {
      name = name;
      value = joined (take (value_len closed ts) ts);
      important = is_some (important_place closed ts);
    }

-- how many gaps the tokens begin with
unfoldable pub gaps_len : Piece → ℕ
gaps_len ts = prefix_len is_gap ts

-- the declaration of a name, where `:` follows
unfoldable pub after_name : Bool → List ℕ → Piece → Option Decl
after_name closed name [] = None
after_name closed name (t ∷ ts) = if mark t == 58 then Some (decl_from closed name (drop (gaps_len ts) ts)) else None

-- the declaration that begins with a name (css-syntax, 5.4.6)
unfoldable pub named : Bool → Piece → Option Decl
named closed [] = None
named closed (t ∷ ts) = if is_ident_kind t.kind then after_name closed t.slice (drop (gaps_len ts) ts) else None

-- an Ident, `:` and a value, with gaps between; none with a bad string
unfoldable pub decl_of : Piece → Option Decl
decl_of ts = if list_any (λ t. is_bad_kind t.kind) ts then None else named (is_closed ts) (drop (gaps_len ts) ts)

-- a text begins with what the tokens were cut from
pub record Covers (text : List ℕ) (ts : Piece) : Type 0 where
  pub rest : List ℕ
  pub is : text ≡ joined ts ++ rest

-- what a reader found, as contracts see it
abbrev pub found : Option DeclSlice → Option Decl
found d = option_map decl_in d

-- the declarations up to the end of a block, or of a style attribute
abbrev pub decls_of : Stop → List Item → List Decl
decls_of s ts = filter_map decl_of (parts_from s [] ts)

-- pieces that are declarations are parted by `;`
abbrev pub IsOfDecls : Stop → Type 0
IsOfDecls s = separator s ≡ 59
