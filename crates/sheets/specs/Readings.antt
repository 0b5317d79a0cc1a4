-- What texts are read as, as sheets.
use Rattle.std.specs.Prelude.{◌≡◌, ℕ, Bool, List, nat_lt}
use Rattle.bk_num.specs.Limits.{most_rules}
use Rattle.css_tok.specs.Tokens.{tokens_of}
use Rattle.css_rules.specs.Pages.{PageOf}
use Rattle.css_rules.specs.Sheet.{RuleOf, IsSheet, rule_count}

-- a sheet: its rulesets and its page rules
pub record SheetOf : Type 0 where
  pub rules : List RuleOf
  pub pages : List PageOf

-- a function gives what each text is read as (CSS 2.1, 4.1)
pub record AreReadings (reading : List ℕ → SheetOf) : Type 0 where
  pub is : (text : List ℕ) (rs : List RuleOf) (ps : List PageOf) → IsSheet (tokens_of text) rs ps →
      reading text ≡ record { rules = rs; pages = ps }

-- more than 20,000 rulesets, page rules and margin boxes
abbrev pub has_many : SheetOf → Bool
has_many s = nat_lt most_rules (rule_count s.rules s.pages)
