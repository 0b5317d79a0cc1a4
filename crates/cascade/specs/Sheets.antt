-- Sheets whose selectors and values are read.
use Rattle.std.specs.Prelude.{◌≡◌, ℕ, List, Option, option_map}
use Rattle.std.specs.List.{filter_map}
use Rattle.css_tok.specs.Tokens.{tokens_of}
use Rattle.css_rules.specs.Decls.{Decl}
use Rattle.css_rules.specs.Pages.{PageOf}
use Rattle.css_rules.specs.Sheet.{RuleOf, IsSheet}
use Rattle.selectors.specs.Selectors.{SelectorView}
use Rattle.selectors.specs.Grammar.{selectors_in}
use Rattle.css_values.specs.Decls.{read_decl}
use Rattle.css_values.specs.declared.decls.Decl.{Decl as Longhands}
use Rattle.cascade.specs.declared.decl.ReadDecl.{ReadDecl}
use Rattle.cascade.specs.declared.sheet.Origin.{Origin}
use Rattle.cascade.specs.declared.sheet.ReadRule.{ReadRule}
use Rattle.cascade.specs.declared.sheet.ReadSheet.{ReadSheet}

-- a declaration as it is read
abbrev pub with_longs : Decl → Longhands → ReadDecl
with_longs d v = record { longs = v.longs; important = d.important }

-- a declaration with its value read, where it has a reading
abbrev pub read_of : Decl → Option ReadDecl
read_of d = option_map (with_longs d) (read_decl d.name d.value)

-- a rule as it is read, without declarations that have no reading
abbrev pub with_selectors : RuleOf → List SelectorView → ReadRule
with_selectors r ss = record { selectors = record { items = ss }; decls = filter_map read_of r.decls }

-- A ruleset with its selectors and values read, without the declarations that have no reading (CSS 2.1, 4.2); none
-- where its selectors have no reading (CSS 2.1, 4.1.7).
abbrev pub rule_of : RuleOf → Option ReadRule
rule_of r = option_map (with_selectors r) (selectors_in r.selectors)

-- the rulesets of a sheet that have a reading, in their order
abbrev pub sheet_of : Origin → List RuleOf → ReadSheet
sheet_of o rs = record { origin = o; rules = filter_map rule_of rs }

-- what a text is read as
pub record IsReadSheet (o : Origin) (text : List ℕ) (s : ReadSheet) : Type 0 where
  pub rules : List RuleOf
  pub pages : List PageOf
  pub is_sheet : IsSheet (tokens_of text) rules pages
  pub is : s ≡ sheet_of o rules
