-- A sheet: its rulesets and page rules, by a grammar with skipping cases over the tokens (CSS 2.1, 4.1 and 4.2).
use Rattle.std.specs.Prelude.{◌≡◌, ◌+◌, ℕ, Bool, true, false, not, ◌&&◌, if◌then◌else◌, ◌==◌, List, [], ◌∷◌, ◌++◌, map, length, codes}
use Rattle.css_tok.specs.declared.kind.CssKind.{CssKind}
use Rattle.css_tok.specs.declared.kind.CssKind.TheVariants as kind
use Rattle.css_tok.specs.Tokens.{Item}
use Rattle.css_tok.specs.Plain.{is_word}
use Rattle.css_tok.specs.Value.{value_slice}
use Rattle.css_tok.specs.Marks.{mark, first_mark, rest_of}
use Rattle.css_rules.specs.Parts.{joined, front_from, after_from, past_block}
use Rattle.css_rules.specs.Decls.{Decl, decl_in, decls_of}
use Rattle.css_rules.specs.Media.{is_media_list}
use Rattle.css_rules.specs.Pages.{BoxOf, PageOf, page_in, IsPageBlock, is_at_kind, past_end}
use Rattle.css_rules.specs.declared.parts.Stop.{Stop}
use Rattle.css_rules.specs.declared.parts.Stop.TheVariants as stop
use Rattle.css_rules.specs.declared.pages.Lead.{Lead}
use Rattle.css_rules.specs.declared.pages.Lead.TheVariants as lead
use Rattle.css_rules.specs.declared.sheet.AtKind.{AtKind}
use Rattle.css_rules.specs.declared.sheet.AtKind.TheVariants as at
use Rattle.css_rules.specs.declared.sheet.Rule.{Rule}
use Rattle.css_rules.specs.declared.sheet.SheetStep.{SheetStep}
use Rattle.css_rules.specs.declared.sheet.SheetStep.TheVariants as step
use Rattle.css_rules.specs.declared.sheet.Sheet.{Sheet}

-- a ruleset
pub record RuleOf : Type 0 where
  pub selectors : List ℕ
  pub decls : List Decl

-- a ruleset of the reader as contracts see it
abbrev pub rule_in : Rule → RuleOf
rule_in r = record { selectors = r.selectors.now; decls = map decl_in r.decls.items }

-- what may stand between rules: white space, a comment, `<!--` and `-->`
abbrev pub is_between_kind : CssKind → Bool
is_between_kind kind.Space = true
is_between_kind kind.Comment = true
is_between_kind kind.Cdo = true
is_between_kind kind.Cdc = true
is_between_kind _ = false

-- What stands where a rule could begin. The test tells whether an `@media` block is open.
unfoldable pub lead_of : Bool → Item → Lead
lead_of inside t = if is_between_kind t.kind then lead.Between else
    (if inside && mark t == 125 then lead.Closer else (if is_at_kind t.kind then lead.At else lead.Content))

-- where a prelude ends; inside a block also at the `}` that ends the block
abbrev pub prelude_stop : Bool → Stop
prelude_stop true = stop.InnerPrelude
prelude_stop false = stop.Prelude

-- what ends the prelude of an at rule, inside an `@media` block or outside
abbrev pub at_stop : Bool → Stop
at_stop true = stop.InnerAtRule
at_stop false = stop.AtRule

-- an At token with this name
unfoldable pub is_at_word : Item → List ℕ → Bool
is_at_word t word = is_word (value_slice t.kind t.slice) word

-- the tokens of an at-rule's prelude, and those from its end on
unfoldable pub at_front : Bool → List Item → List Item
at_front inside ts = front_from (at_stop inside) [] ts

-- what follows the prelude of an at rule
unfoldable pub at_after : Bool → List Item → List Item
at_after inside ts = after_from (at_stop inside) [] ts

-- whether an at keyword begins an `@media` rule, which none does inside another one
abbrev pub is_media_rule : Bool → Item → Bool
is_media_rule inside t = not inside && is_at_word t (codes "media")

-- what an at-rule gives: an `@media` with a read list the rules of its block, an `@page` with a block a page rule, all
-- others nothing
abbrev pub kind_of_at : Bool → Item → List Item → ℕ → AtKind
kind_of_at inside t front m =
    if m == 123 then (if is_at_word t (codes "page") then at.Page else
    (if is_media_rule inside t && is_media_list front then at.Media else at.Other)) else at.Other

-- what the at rule of this keyword is
unfoldable pub at_kind : Bool → Item → List Item → AtKind
at_kind inside t ts = kind_of_at inside t (at_front inside ts) (first_mark (at_after inside ts))

-- an `@media` block is still open behind a part that ended so
unfoldable pub stays : Bool → List Item → Bool
stays inside after = inside && not (first_mark after == 125)

-- the tokens of a ruleset's prelude, and those from its end on
unfoldable pub prelude_at : Bool → List Item → List Item
prelude_at inside ts = front_from (prelude_stop inside) [] ts

-- what follows the prelude of a ruleset
unfoldable pub prelude_end : Bool → List Item → List Item
prelude_end inside ts = after_from (prelude_stop inside) [] ts

-- the ruleset that begins here: its selectors and its declarations (css-syntax, 5.4.3)
abbrev pub rule_at : Bool → List Item → RuleOf
rule_at inside ts = record {
  selectors = joined (prelude_at inside ts);
  decls = decls_of stop.BlockPiece (rest_of (prelude_end inside ts));
}

-- the rulesets and page rules of tokens, inside an `@media` block or outside
pub data AreRules : Bool → List Item → List RuleOf → List PageOf → Type 0 where
  none : (m : Bool) → AreRules m [] [] []
  between : (m : Bool) (t : Item) (ts : List Item) (rs : List RuleOf) (ps : List PageOf) → lead_of m t ≡ lead.Between →
      AreRules m ts rs ps → AreRules m (t ∷ ts) rs ps
  closer : (m : Bool) (t : Item) (ts : List Item) (rs : List RuleOf) (ps : List PageOf) → lead_of m t ≡ lead.Closer →
      AreRules false ts rs ps → AreRules m (t ∷ ts) rs ps
  media : (m : Bool) (t : Item) (ts : List Item) (rs : List RuleOf) (ps : List PageOf) → lead_of m t ≡ lead.At →
      at_kind m t ts ≡ at.Media
      → AreRules true (rest_of (at_after m ts)) rs ps → AreRules m (t ∷ ts) rs ps
  page : (m : Bool) (t : Item) (ts : List Item) (ds : List Decl) (bs : List BoxOf) (rest : List Item) (rs : List RuleOf)
      (ps : List PageOf) → lead_of m t ≡ lead.At → at_kind m t ts ≡ at.Page
      → IsPageBlock (rest_of (at_after m ts)) ds bs rest → AreRules m rest rs ps →
      AreRules m (t ∷ ts) rs (record { selectors = joined (at_front m ts); decls = ds; boxes = bs } ∷ ps)
  other : (m : Bool) (t : Item) (ts : List Item) (rs : List RuleOf) (ps : List PageOf) → lead_of m t ≡ lead.At →
      at_kind m t ts ≡ at.Other
      → AreRules (stays m (at_after m ts)) (past_end (at_after m ts)) rs ps → AreRules m (t ∷ ts) rs ps
  styled : (m : Bool) (t : Item) (ts : List Item) (rs : List RuleOf) (ps : List PageOf) → lead_of m t ≡ lead.Content →
      (first_mark (prelude_end m (t ∷ ts)) == 123) ≡ true
      → AreRules m (past_block (rest_of (prelude_end m (t ∷ ts)))) rs ps →
      AreRules m (t ∷ ts) (rule_at m (t ∷ ts) ∷ rs) ps
  headless : (m : Bool) (t : Item) (ts : List Item) (rs : List RuleOf) (ps : List PageOf) → lead_of m t ≡ lead.Content →
      (first_mark (prelude_end m (t ∷ ts)) == 123) ≡ false
      → AreRules (stays m (prelude_end m (t ∷ ts))) (rest_of (prelude_end m (t ∷ ts))) rs ps → AreRules m (t ∷ ts) rs ps

-- the sheet of a list of tokens
abbrev pub IsSheet : List Item → List RuleOf → List PageOf → Type 0
IsSheet ts rs ps = AreRules false ts rs ps

-- how many rules page rules count for: each, and each of its margin boxes
abbrev pub page_count : List PageOf → ℕ
page_count [] = 0
page_count (p ∷ ps) = 1 + length p.boxes + page_count ps

-- rulesets, page rules and margin boxes
abbrev pub rule_count : List RuleOf → List PageOf → ℕ
rule_count rs ps = length rs + page_count ps

-- each list of tokens is one sheet
abbrev pub HaveOneReading : Type 0
HaveOneReading = (ts : List Item) → ((rs : List RuleOf) × (ps : List PageOf) × IsSheet ts rs ps) ×
    ((rs qs : List RuleOf) (ps os : List PageOf) → IsSheet ts rs ps → IsSheet ts qs os → (rs ≡ qs) × (ps ≡ os))

-- what a step of the reader adds, and whether an `@media` block is open behind it
abbrev pub rules_in_step : SheetStep → List RuleOf
rules_in_step (step.Rule r) = rule_in r ∷ []
rules_in_step _ = []

-- the page rule that a step gives, if it gives one
abbrev pub pages_in_step : SheetStep → List PageOf
pages_in_step (step.Page p) = page_in p ∷ []
pages_in_step _ = []

-- whether an `@media` block is open after a step
abbrev pub inside_after : Bool → SheetStep → Bool
inside_after m (step.Skipped behind) = behind
inside_after m _ = m

-- the step at the end of a sheet
abbrev pub is_end : SheetStep → Bool
is_end step.End = true
is_end _ = false

-- a step was made between two lists of tokens
abbrev pub GoesOn : SheetStep → Bool → List Item → List Item → Type 0
GoesOn s m ts us = (rs : List RuleOf) (ps : List PageOf) → AreRules (inside_after m s) us rs ps →
    AreRules m ts (rules_in_step s ++ rs) (pages_in_step s ++ ps)

-- the rulesets of a sheet as contracts see them
abbrev pub rules_in : Sheet → List RuleOf
rules_in s = map rule_in s.rules.items

-- the page rules of a sheet as contracts see them
abbrev pub pages_in : Sheet → List PageOf
pages_in s = map page_in s.pages.items
