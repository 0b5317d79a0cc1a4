-- The sheets of a run in the order of the cascade (CSS 2.1, 6.4), and their limits.
use Rattle.std.specs.Prelude.{◌≡◌, ℕ, Bool, true, false, List, ◌∷◌, map, nat_lt, length, Result, Ok, Err}
use Rattle.std.specs.List.{AllZip, filter_map, flat_map, list_any}
use Rattle.bk_num.specs.Limits.{most_sheets}
use Rattle.cascade.specs.Sheets.{IsReadSheet}
use Rattle.cascade.specs.declared.sheet.Origin.{Origin}
use Rattle.cascade.specs.declared.sheet.Origin.TheVariants as origin
use Rattle.cascade.specs.declared.sheet.ReadSheet.{ReadSheet}
use Rattle.css_tok.specs.Tokens.{tokens_of}
use Rattle.css_rules.specs.Pages.{PageOf}
use Rattle.css_rules.specs.Sheet.{RuleOf, IsSheet}
use Rattle.css_rules.specs.declared.sheet.SheetErr.{SheetErr}
use Rattle.css_rules.specs.declared.sheet.SheetErr.TheVariants as sheet_err
use Rattle.css_page.specs.Rules.{rule_of}
use Rattle.css_page.specs.declared.rules.PageRule.{PageRule}
use Rattle.sheets.specs.DefaultText.{default_text}
use Rattle.sheets.specs.Readings.{SheetOf, has_many}
use Rattle.sheets.specs.declared.author.AuthorSheet.{AuthorSheet}
use Rattle.sheets.specs.declared.read.Sheets.{Sheets}
use Rattle.sheets.specs.declared.read.SheetsErr.{SheetsErr}
use Rattle.sheets.specs.declared.read.SheetsErr.TheVariants as err

-- a sheet: whose it is, and its text
pub record Source : Type 0 where
  pub origin : Origin
  pub text : List ℕ

-- the default sheet with its origin
abbrev pub default_source : Source
default_source = record { origin = origin.Default; text = default_text }

-- a sheet of the author
abbrev pub author_source : List ℕ → Source
author_source text = record { origin = origin.Author; text = text }

-- the sheets of authors, by their texts
abbrev pub authors_of : List (List ℕ) → List Source
authors_of texts = map author_source texts

-- the sheets in the order of the cascade: the default one, and those of authors
abbrev pub sources_of : List (List ℕ) → List Source
sources_of texts = default_source ∷ authors_of texts

-- a sheet is what its text is read as
abbrev pub IsReadFrom : Source → ReadSheet → Type 0
IsReadFrom source s = IsReadSheet source.origin source.text s

-- the page rules of a text in their order, without those whose selectors have no reading (css-page-3, 3)
pub record ArePageRulesOf (text : List ℕ) (rules : List PageRule) : Type 0 where
  pub rs : List RuleOf
  pub ps : List PageOf
  pub sheet : IsSheet (tokens_of text) rs ps
  pub is : rules ≡ filter_map rule_of ps

-- the page rules of sheets, sheet after sheet
pub record ArePageRules (sources : List Source) (rules : List PageRule) : Type 0 where
  pub lists : List (List PageRule)
  pub each : AllZip (λ s l. ArePageRulesOf s.text l) sources lists
  pub is : rules ≡ flat_map (λ l. l) lists

-- whether there are more sheets than a run may have: 16
abbrev pub are_many : ℕ → Bool
are_many count = nat_lt most_sheets count

-- whether a text, read so, has more rules than a sheet may have
abbrev pub has_many_rules : (List ℕ → SheetOf) → List ℕ → Bool
has_many_rules reading text = has_many (reading text)

-- an author's sheet has too many rules, or not
abbrev pub IsAuthor : SheetOf → Result AuthorSheet SheetErr → Type 0
IsAuthor s (Ok a) = has_many s ≡ false
IsAuthor s (Err sheet_err.Rules) = has_many s ≡ true
IsAuthor s (Err sheet_err.NoMemory) = Unit {0}

-- the same, where this is one sheet of several
abbrev pub IsAuthorOf : SheetOf → Result AuthorSheet SheetsErr → Type 0
IsAuthorOf s (Ok a) = has_many s ≡ false
IsAuthorOf s (Err err.Rules) = has_many s ≡ true
IsAuthorOf s (Err err.Sheets) = ⊥
IsAuthorOf s (Err err.NoMemory) = Unit {0}

-- one of these sheets has too many rules, or none has
abbrev pub AreFew : (List ℕ → SheetOf) → List (List ℕ) → Result Sheets SheetsErr → Type 0
AreFew reading texts (Ok s) = list_any (has_many_rules reading) texts ≡ false
AreFew reading texts (Err err.Rules) = list_any (has_many_rules reading) texts ≡ true
AreFew reading texts (Err err.Sheets) = ⊥
AreFew reading texts (Err err.NoMemory) = Unit {0}

-- more than 16 sheets; else a sheet with more than 20,000 rules; else neither
abbrev pub AreRead : (List ℕ → SheetOf) → List (List ℕ) → Result Sheets SheetsErr → Type 0
AreRead reading texts (Ok s) =
    (are_many (length texts) ≡ false) × (list_any (has_many_rules reading) texts ≡ false)
AreRead reading texts (Err err.Sheets) = are_many (length texts) ≡ true
AreRead reading texts (Err err.Rules) =
    (are_many (length texts) ≡ false) × (list_any (has_many_rules reading) texts ≡ true)
AreRead reading texts (Err err.NoMemory) = Unit {0}
