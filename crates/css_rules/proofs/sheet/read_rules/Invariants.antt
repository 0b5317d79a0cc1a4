use Rattle.std.proofs.Common.{◌≡◌, ◌≤◌, ◌++◌, List, false, map, length}
use Rattle.bk_num.specs.Limits.{most_rules}
use Rattle.css_tok.specs.Tokens.{tokens_of}
use Rattle.css_rules.specs.Pages.{PageOf, page_in}
use Rattle.css_rules.specs.Sheet.{RuleOf, AreRules, rule_in, rule_count}
use Rattle.css_rules.proofs.sheet.read_rules.Given as goal

abbrev pub invariant-rules : goal.invariant-rules
invariant-rules l = record {
  goes : (rs : List RuleOf) (ps : List PageOf) → AreRules l.inside (tokens_of l.tokens.rest.now) rs ps → AreRules false (tokens_of l.fn.text) (map rule_in l.rules.items ++ rs) (map page_in l.pages.items ++ ps);
  counted : l.count ≡ rule_count (map rule_in l.rules.items) (map page_in l.pages.items);
  few : l.count ≤ most_rules;
}

abbrev pub decreases-rules : goal.decreases-rules
decreases-rules l = length l.tokens.rest.now
