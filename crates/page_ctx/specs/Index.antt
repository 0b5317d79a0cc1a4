-- The selectors of rules, and an index of them by the names that they ask for.
use Rattle.std.specs.Prelude.{◌≡◌, ℕ, ◌+◌, List, [], ◌∷◌, ◌++◌, Option, None, Some, filter, map, option_map}
use Rattle.std.specs.List.{flat_map}
use Rattle.named_lists.specs.Lists.{items_of}
use Rattle.css_page.specs.declared.rules.PageRule.{PageRule}
use Rattle.css_page.specs.declared.selectors.PageSelector.{PageSelector}
use Rattle.page_ctx.specs.declared.index.RuleSelector.{RuleSelector}
use Rattle.page_ctx.specs.declared.index.SelectorIndex.{SelectorIndex}
use Rattle.page_ctx.specs.declared.index.OwnSelectors.{OwnSelectors}
use Rattle.page_ctx.specs.Selectors.{asks, is_for, is_for_each}

-- a selector with its rule and the rule's number
pub record RuleSelectorOf : Type 0 where
  pub number : ℕ
  pub rule : PageRule
  pub selector : PageSelector

-- the same as values
abbrev pub selector_in : RuleSelector → RuleSelectorOf
selector_in e = record { number = e.number; rule = e.rule.now; selector = e.selector.now }

-- a selector of the rule of a number
abbrev pub of_rule : ℕ → PageRule → PageSelector → RuleSelectorOf
of_rule number r s = record { number = number; rule = r; selector = s }

-- the selectors of rules in the order of the sheets, where the first rule has this number
abbrev pub selectors_from : ℕ → List PageRule → List RuleSelectorOf
selectors_from number [] = []
selectors_from number (r ∷ rules) = map (of_rule number r) r.selectors ++ selectors_from (number + 1) rules

-- the selectors that ask for a name, or, without one, for none, in the order of the sheets
abbrev pub own_selectors : List PageRule → Option (List ℕ) → List RuleSelectorOf
own_selectors rules asked = filter (λ e. asks asked e.selector.name) (selectors_from 0 rules)

-- a selector under the name that it asks for, if any
abbrev pub under : RuleSelector → Option (List ℕ) → List (List ℕ × RuleSelector)
under e None = []
under e (Some asked) = (asked, e) ∷ []

-- selectors under the names that they ask for
abbrev pub by_names : List RuleSelector → List (List ℕ × RuleSelector)
by_names all = flat_map (λ e. under e e.selector.now.name) all

-- those that ask for a name
abbrev pub named : List RuleSelector → List ℕ → List RuleSelector
named all name = filter (λ e. is_for name e.selector.now.name) all

-- those that ask for none
abbrev pub unnamed : List RuleSelector → List RuleSelector
unnamed all = filter (λ e. is_for_each e.selector.now.name) all

-- an index has each selector of its rules once: under the name that it asks for, or among those that ask for none
pub record IsIndex (i : SelectorIndex) : Type 0 where
  pub all : List RuleSelector
  pub selectors : map selector_in all ≡ selectors_from 0 i.rules.now
  pub named : (name : List ℕ) → items_of i.named name ≡ named all name
  pub every : i.every ≡ unnamed all

-- these are the selectors of the rules that ask for the name, or, without one, for none
abbrev pub AreOwn : OwnSelectors → Type 0
AreOwn o = map selector_in o.selectors.now ≡ own_selectors o.rules.now (option_map (λ n. n.now) o.asked)
