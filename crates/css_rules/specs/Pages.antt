-- The block of a page rule: its declarations, its margin boxes, and what follows it (css-page, 4 and 5).
use Rattle.std.specs.Prelude.{◌≡◌, ℕ, Bool, true, false, ◌&&◌, ◌||◌, if◌then◌else◌, ◌==◌, List, [], ◌∷◌, ◌++◌, None, map, not, option_to_list, option_map, is_some, Vec, MatchBool, IfSome}
use Rattle.std.specs.Borrow.{Bor}
use Rattle.std.specs.List.{list_all}
use Rattle.css_tok.specs.declared.kind.CssKind.{CssKind}
use Rattle.css_tok.specs.declared.kind.CssKind.TheVariants as kind
use Rattle.css_tok.specs.Tokens.{Item}
use Rattle.css_tok.specs.Value.{value_slice}
use Rattle.css_tok.specs.Marks.{mark, first_mark, rest_of, is_gap}
use Rattle.css_rules.specs.MarginBoxes.{margin_box_number}
use Rattle.css_rules.specs.Parts.{front_from, after_from, past_block}
use Rattle.css_rules.specs.Decls.{Decl, decl_in, decl_of, decls_of}
use Rattle.css_rules.specs.declared.parts.Stop.TheVariants as stop
use Rattle.css_rules.specs.declared.pages.Lead.{Lead}
use Rattle.css_rules.specs.declared.pages.Lead.TheVariants as lead
use Rattle.css_rules.specs.declared.pages.PageSlice.{PageSlice}
use Rattle.css_rules.specs.declared.pages.PagePart.{PagePart}
use Rattle.css_rules.specs.declared.decls.DeclSlice.{DeclSlice}

-- a margin box
pub record BoxOf : Type 0 where
  pub name : List ℕ
  pub decls : List Decl

-- a page rule
pub record PageOf : Type 0 where
  pub selectors : List ℕ
  pub decls : List Decl
  pub boxes : List BoxOf

-- a margin box of the reader as contracts see it
abbrev pub box_in : {A : Type 0} → Bor (List ℕ) × Vec DeclSlice A → BoxOf
box_in b = record { name = b.0.now; decls = map decl_in b.1.items }

-- a page rule of the reader as contracts see it
abbrev pub page_in : PageSlice → PageOf
page_in p = record { selectors = p.selectors.now; decls = map decl_in p.decls.items; boxes = map box_in p.boxes.items }

-- whether a name is that of a margin box, ASCII case aside (css-page-3, 5.1)
unfoldable pub is_margin_name : List ℕ → Bool
is_margin_name name = is_some (margin_box_number name)

-- an at keyword
abbrev pub is_at_kind : CssKind → Bool
is_at_kind kind.At = true
is_at_kind _ = false

-- what stands where a declaration could begin
unfoldable pub page_lead : Item → Lead
page_lead t = if is_gap t then lead.Between else
    (if mark t == 125 then lead.Closer else (if is_at_kind t.kind then lead.At else lead.Content))

-- what stands between an At and the end of its rule's prelude, and what follows from there on
unfoldable pub at_prelude : List Item → List Item
at_prelude ts = front_from stop.InnerAtRule [] ts

-- what follows an at rule's prelude
unfoldable pub at_end : List Item → List Item
at_end ts = after_from stop.InnerAtRule [] ts

-- whether an At, its prelude and the mark that ends it are those of a margin box: its name, no prelude, and a block
-- (css-page-3, 5)
abbrev pub margin_box_by : Item → List Item → ℕ → Bool
margin_box_by t front end = is_margin_name (value_slice t.kind t.slice) && list_all is_gap front && end == 123

-- whether an At token begins a margin box, by what follows it
unfoldable pub is_margin_box : Item → List Item → Bool
is_margin_box t ts = margin_box_by t (at_prelude ts) (first_mark (at_end ts))

-- the margin box of an at keyword, with the declarations of the block that follows
abbrev pub box_of : Item → List Item → BoxOf
box_of t after = record { name = value_slice t.kind t.slice; decls = decls_of stop.BlockPiece (rest_of after) }

-- what follows an at-rule whose At was passed: the `;` or the block that it runs to, or the `}` that ends it
unfoldable pub past_end : List Item → List Item
past_end after = if first_mark after == 123 then past_block (rest_of after) else rest_of after

-- a piece of the block, and its end
unfoldable pub piece_at : List Item → List Item
piece_at ts = front_from stop.BlockPiece [] ts

-- what follows a declaration
unfoldable pub piece_end : List Item → List Item
piece_end ts = after_from stop.BlockPiece [] ts

-- a page rule's block: its declarations, its margin boxes and what is left behind it (css-page, 4)
pub data IsPageBlock : List Item → List Decl → List BoxOf → List Item → Type 0 where
  cut : IsPageBlock [] [] [] []
  closer : (t : Item) (ts : List Item) → page_lead t ≡ lead.Closer → IsPageBlock (t ∷ ts) [] [] ts
  between : (t : Item) (ts : List Item) (ds : List Decl) (bs : List BoxOf) (rest : List Item) →
      page_lead t ≡ lead.Between →
      IsPageBlock ts ds bs rest → IsPageBlock (t ∷ ts) ds bs rest
  margin_box : (t : Item) (ts : List Item) (ds : List Decl) (bs : List BoxOf) (rest : List Item) →
      page_lead t ≡ lead.At →
      is_margin_box t ts ≡ true
      → IsPageBlock (past_end (at_end ts)) ds bs rest → IsPageBlock (t ∷ ts) ds (box_of t (at_end ts) ∷ bs) rest
  at_rule : (t : Item) (ts : List Item) (ds : List Decl) (bs : List BoxOf) (rest : List Item) → page_lead t ≡ lead.At →
      is_margin_box t ts ≡ false → (first_mark (at_end ts) == 125) ≡ false
      → IsPageBlock (past_end (at_end ts)) ds bs rest → IsPageBlock (t ∷ ts) ds bs rest
  at_closer : (t : Item) (ts : List Item) → page_lead t ≡ lead.At → is_margin_box t ts ≡ false →
      (first_mark (at_end ts) == 125) ≡ true →
      IsPageBlock (t ∷ ts) [] [] (past_end (at_end ts))
  piece : (t : Item) (ts : List Item) (ds : List Decl) (bs : List BoxOf) (rest : List Item) →
      page_lead t ≡ lead.Content →
      (first_mark (piece_end (t ∷ ts)) == 59) ≡ true
      → IsPageBlock (rest_of (piece_end (t ∷ ts))) ds bs rest →
      IsPageBlock (t ∷ ts) (option_to_list (decl_of (piece_at (t ∷ ts))) ++ ds) bs rest
  last : (t : Item) (ts : List Item) → page_lead t ≡ lead.Content → (first_mark (piece_end (t ∷ ts)) == 59) ≡ false →
      IsPageBlock (t ∷ ts) (option_to_list (decl_of (piece_at (t ∷ ts)))) [] (rest_of (piece_end (t ∷ ts)))

-- what a part of the block adds: a declaration, a margin box or neither
abbrev pub decls_in_part : PagePart → List Decl
decls_in_part p = option_to_list (option_map decl_in p.decl)

-- the margin box that a part of a page rule gives, if it gives one
abbrev pub boxes_in_part : PagePart → List BoxOf
boxes_in_part p = option_to_list (option_map box_in p.margin)

-- a part was read between two lists of tokens, and the block goes on or ended with it
abbrev pub IsPartOfPage : PagePart → List Item → List Item → Type 0
IsPartOfPage p ts us = MatchBool p.more
    ((ds : List Decl) (bs : List BoxOf) (rest : List Item) → IsPageBlock us ds bs rest →
    IsPageBlock ts (decls_in_part p ++ ds) (boxes_in_part p ++ bs) rest)
    (IsPageBlock ts (decls_in_part p) (boxes_in_part p) us)

-- an at-rule in the block, whose At was passed
pub record IsPageAt (p : PagePart) (t : Item) (ts us : List Item) : Type 0 where
  pub decl : option_map decl_in p.decl ≡ None
  pub margin : is_some (option_map box_in p.margin) ≡ is_margin_box t ts
  pub is : IfSome (option_map box_in p.margin) (λ b. b ≡ box_of t (at_end ts))
  pub more : p.more ≡ (is_some (option_map box_in p.margin) || not (first_mark (at_end ts) == 125))
  pub rest : us ≡ past_end (at_end ts)
