-- The parts of a sheet that have a reading or none, in the order of its text (CSS 2.1, 4.1 and 4.2; css-page-3, 4 and
-- 5).
use Rattle.std.specs.Prelude.{ℕ, zero, suc, ◌+◌, ◌-◌, Bool, true, false, not, ◌&&◌, if◌then◌else◌, ◌==◌, List, [], ◌∷◌, ◌++◌, drop, length, Option, Some, None, option_to_list}
use Rattle.std.specs.List.{list_all}
use Rattle.css_tok.specs.Tokens.{Item, tokens_of}
use Rattle.css_tok.specs.Marks.{is_gap, first_mark, rest_of}
use Rattle.css_rules.specs.Decls.{Decl, decl_of, gaps_len}
use Rattle.css_rules.specs.Pages.{page_lead, piece_at, piece_end, is_margin_box, at_prelude, at_end}
use Rattle.css_rules.specs.Parts.{Piece, joined}
use Rattle.css_rules.specs.Sheet.{lead_of, at_kind, at_front, at_after, is_media_rule, prelude_at, prelude_end}
use Rattle.css_rules.specs.declared.pages.Lead.{Lead}
use Rattle.css_rules.specs.declared.pages.Lead.TheVariants as lead
use Rattle.css_rules.specs.declared.sheet.AtKind.{AtKind}
use Rattle.css_rules.specs.declared.sheet.AtKind.TheVariants as at
use Rattle.unread_list.specs.Lines.{feeds}
use Rattle.unread_list.specs.declared.part.Owner.{Owner}
use Rattle.unread_list.specs.declared.part.Owner.TheVariants as owner
use Rattle.unread_list.specs.declared.part.Mode.{Mode}
use Rattle.unread_list.specs.declared.part.Mode.TheVariants as mode
use Rattle.unread_list.specs.declared.part.State.{State}

-- a part of a sheet, by its text
pub data PartOf : Type 0 where
  Selectors : List ℕ → PartOf
  PageSelectors : List ℕ → List ℕ → PartOf
  Declaration : Owner → List ℕ → Option Decl → PartOf
  AtRule : List ℕ → PartOf
  Media : List ℕ → PartOf
  NoBlock : List ℕ → PartOf

-- a part, and the line on which it begins
pub record PlacedOf : Type 0 where
  pub line : ℕ
  pub part : PartOf

-- a part on a line
abbrev pub placed : ℕ → PartOf → PlacedOf
placed line p = record { line = line; part = p }

-- what one step along a sheet passes: the part that stands there, if one does, what stands behind it, and the tokens
-- from there on
pub record StepOf : Type 0 where
  pub part : Option PlacedOf
  pub state : State
  pub rest : List Item

-- a step by what it passes, what stands behind it, and the tokens from there on
abbrev pub step_to : Option PlacedOf → Bool → Mode → List Item → StepOf
step_to p inside m rest = record { part = p; state = record { inside = inside; mode = m }; rest = rest }

-- ---- blocks

-- whose declarations stand in a block; none where the block gives nothing
abbrev pub owner_of : Mode → Option Owner
owner_of mode.Rules = None
owner_of mode.Style = Some owner.Elements
owner_of mode.Page = Some owner.Page
owner_of mode.MarginBox = Some owner.MarginBox
owner_of mode.Skipped = None
owner_of mode.SkippedInPage = None

-- what stands behind a block
abbrev pub behind : Mode → Mode
behind mode.MarginBox = mode.Page
behind mode.SkippedInPage = mode.Page
behind _ = mode.Rules

-- a piece of a block without the white space and comments before it
abbrev pub bare : Piece → Piece
bare ts = drop (gaps_len ts) ts

-- the line of the first token that is no white space and no comment, where the tokens begin on a line
unfoldable pub bare_line : ℕ → List Item → ℕ
bare_line line [] = line
bare_line line (t ∷ ts) = if is_gap t then bare_line (line + feeds t.slice) ts else line

-- a piece that begins on a line is a declaration or none, unless it is blank
abbrev pub piece_by : Option Owner → ℕ → Piece → Option PlacedOf
piece_by None line ts = None
piece_by (Some o) line ts =
    if list_all is_gap ts then None else Some (placed line (Declaration o (joined (bare ts)) (decl_of ts)))

-- what stands behind a piece that ends with such a mark: more of the block after `;`, which is 59, else what is behind
-- the block
abbrev pub piece_mode : Mode → ℕ → Mode
piece_mode m mark = if mark == 59 then m else behind m

-- a piece of a block
unfoldable pub piece_step : State → ℕ → List Item → StepOf
piece_step s line ts =
    step_to (piece_by (owner_of s.mode) (bare_line line ts) (piece_at ts)) s.inside
    (piece_mode s.mode (first_mark (piece_end ts))) (rest_of (piece_end ts))

-- ---- page rules

-- what stands behind an at-rule of a page rule, by the mark that ends its prelude: `{` is 123 and `}` is 125
abbrev pub page_at_mode : ℕ → Mode
page_at_mode mark = if mark == 123 then mode.SkippedInPage else (if mark == 125 then mode.Rules else mode.Page)

-- an at-rule in a page rule: a margin box, or one that gives nothing
unfoldable pub page_at_step : Bool → ℕ → Item → List Item → StepOf
page_at_step inside line t ts =
    if is_margin_box t ts then step_to None inside mode.MarginBox (rest_of (at_end ts)) else
    step_to (Some (placed line (AtRule (joined (t ∷ at_prelude ts))))) inside (page_at_mode (first_mark (at_end ts)))
    (rest_of (at_end ts))

-- what stands where a declaration of a page rule could begin
abbrev pub page_by : Lead → Bool → ℕ → Item → List Item → StepOf
page_by lead.Between inside line t ts = step_to None inside mode.Page ts
page_by lead.Closer inside line t ts = step_to None inside mode.Rules ts
page_by lead.At inside line t ts = page_at_step inside line t ts
page_by lead.Content inside line t ts = piece_step (record { inside = inside; mode = mode.Page }) line (t ∷ ts)

-- a step in the block of a page rule
abbrev pub page_step : Bool → ℕ → List Item → StepOf
page_step inside line [] = step_to None inside mode.Page []
page_step inside line (t ∷ ts) = page_by (page_lead t) inside line t ts

-- ---- rules

-- an at-rule that gives nothing: an `@media` rule with a block, outside such rules, has no read list
abbrev pub at_part : Bool → Item → ℕ → List ℕ → PartOf
at_part inside t mark text =
    if mark == 123 && is_media_rule inside t then Media text else AtRule text

-- what stands behind a prelude that ends with such a mark, where its block is of this kind
abbrev pub prelude_mode : Mode → ℕ → Mode
prelude_mode m mark = if mark == 123 then m else mode.Rules

-- an `@media` block is still open there
abbrev pub prelude_inside : Bool → ℕ → Bool
prelude_inside inside mark = inside && not (mark == 125)

-- an at-rule by what it gives
abbrev pub at_by : AtKind → Bool → ℕ → Item → List Item → StepOf
at_by at.Media inside line t ts = step_to None true mode.Rules (rest_of (at_after inside ts))
at_by at.Page inside line t ts =
    step_to (Some (placed line (PageSelectors (joined (t ∷ at_front inside ts)) (joined (at_front inside ts))))) inside
    mode.Page (rest_of (at_after inside ts))
at_by at.Other inside line t ts =
    step_to (Some (placed line (at_part inside t (first_mark (at_after inside ts)) (joined (t ∷ at_front inside ts)))))
    (prelude_inside inside (first_mark (at_after inside ts)))
    (prelude_mode mode.Skipped (first_mark (at_after inside ts))) (rest_of (at_after inside ts))

-- a prelude by the mark that ends it
abbrev pub prelude_part : ℕ → List ℕ → PartOf
prelude_part mark text = if mark == 123 then Selectors text else NoBlock text

-- the prelude of a ruleset, or what has no block
unfoldable pub prelude_step : Bool → ℕ → List Item → StepOf
prelude_step inside line ts =
    step_to (Some (placed line (prelude_part (first_mark (prelude_end inside ts)) (joined (prelude_at inside ts)))))
    (prelude_inside inside (first_mark (prelude_end inside ts)))
    (prelude_mode mode.Style (first_mark (prelude_end inside ts))) (rest_of (prelude_end inside ts))

-- what stands where a rule could begin
abbrev pub rules_by : Lead → Bool → ℕ → Item → List Item → StepOf
rules_by lead.Between inside line t ts = step_to None inside mode.Rules ts
rules_by lead.Closer inside line t ts = step_to None false mode.Rules ts
rules_by lead.At inside line t ts = at_by (at_kind inside t ts) inside line t ts
rules_by lead.Content inside line t ts = prelude_step inside line (t ∷ ts)

-- a step between rules
abbrev pub rules_step : Bool → ℕ → List Item → StepOf
rules_step inside line [] = step_to None inside mode.Rules []
rules_step inside line (t ∷ ts) = rules_by (lead_of inside t) inside line t ts

-- ---- sheets

-- a step by what stands at the place
abbrev pub step_by : Mode → State → ℕ → List Item → StepOf
step_by mode.Rules s line ts = rules_step s.inside line ts
step_by mode.Page s line ts = page_step s.inside line ts
step_by _ s line ts = piece_step s line ts

-- a step from what stands at a place, which is on a line
unfoldable pub step_at : State → ℕ → List Item → StepOf
step_at s line ts = step_by s.mode s line ts

-- The parts of what is left of a sheet, whose first token stands on a line. The number counts the tokens that are left
-- of a step.
unfoldable pub parts_from : ℕ → ℕ → State → List Item → List PlacedOf
parts_from left line s [] = []
parts_from (suc left) line s (t ∷ ts) = parts_from left (line + feeds t.slice) s ts
parts_from zero line s (t ∷ ts) =
    option_to_list (step_at s line (t ∷ ts)).part ++
    parts_from (length ts - length (step_at s line (t ∷ ts)).rest) (line + feeds t.slice)
    (step_at s line (t ∷ ts)).state ts

-- a sheet begins with rules, outside `@media`
abbrev pub start : State
start = record { inside = false; mode = mode.Rules }

-- the parts of a sheet in the order of its text
unfoldable pub parts_of : List ℕ → List PlacedOf
parts_of text = parts_from 0 1 start (tokens_of text)
