use Rattle.std.proofs.Common.{◌∙◌, sym, map}
use Rattle.css_tok.specs.Tokens.{tokens_of}
use Rattle.css_rules.specs.Pages.{page_in}
use Rattle.css_rules.specs.Sheet.{rule_in}
use Rattle.css_rules.proofs.CountLemmas.{step_goes, step_counts, too_many, sheet_ends}
use Rattle.css_rules.proofs.sheet.read_rules.Goals as goal

pub returns-then-is_end-clause-sheet : goal.returns-then-is_end-clause-sheet
returns-then-is_end-clause-sheet c =
    sheet_ends (tokens_of c.args.text.now) (tokens_of c.rules.tokens.rest.now) c.rules.inside (map rule_in c.rules.rules.items) (map page_in c.rules.pages.items) c.rules.invariant.goes (c.in_ok-step.ensures.end (sym c.is_end.ensures ∙ c.if-is_end.true))

pub returns-then-more-clause-many : goal.returns-then-more-clause-many
returns-then-more-clause-many c =
    too_many (tokens_of c.args.text.now) (tokens_of c.next_rule.new.tokens.rest.now) c.in_ok-behind.behind (map rule_in c.keep.new.rules.items) (map page_in c.keep.new.pages.items) c.in_ok-behind.more
    (step_goes c.in_ok-step.step c.rules.inside c.in_ok-behind.behind (tokens_of c.args.text.now) (tokens_of c.rules.tokens.rest.now) (tokens_of c.next_rule.new.tokens.rest.now) (map rule_in c.rules.rules.items) (map rule_in c.keep.new.rules.items) (map page_in c.rules.pages.items) (map page_in c.keep.new.pages.items) c.rules.invariant.goes c.in_ok-step.ensures.goes c.in_ok-behind.ensures.inside c.in_ok-behind.ensures.rules c.in_ok-behind.ensures.pages)
    (step_counts c.in_ok-step.step (map rule_in c.rules.rules.items) (map rule_in c.keep.new.rules.items) (map page_in c.rules.pages.items) (map page_in c.keep.new.pages.items) c.rules.count c.in_ok-behind.more c.in_ok-behind.ensures.rules c.in_ok-behind.ensures.pages c.rules.invariant.counted c.in_ok-behind.ensures.count)
    c.if-more.true

pub rules-preserved : goal.rules-preserved
rules-preserved c = record {
  goes = step_goes c.in_ok-step.step c.rules.inside c.in_ok-behind.behind (tokens_of c.args.text.now) (tokens_of c.rules.tokens.rest.now) (tokens_of c.next_rule.new.tokens.rest.now) (map rule_in c.rules.rules.items) (map rule_in c.keep.new.rules.items) (map page_in c.rules.pages.items) (map page_in c.keep.new.pages.items) c.rules.invariant.goes c.in_ok-step.ensures.goes c.in_ok-behind.ensures.inside c.in_ok-behind.ensures.rules c.in_ok-behind.ensures.pages;
  counted = step_counts c.in_ok-step.step (map rule_in c.rules.rules.items) (map rule_in c.keep.new.rules.items) (map page_in c.rules.pages.items) (map page_in c.keep.new.pages.items) c.rules.count c.in_ok-behind.more c.in_ok-behind.ensures.rules c.in_ok-behind.ensures.pages c.rules.invariant.counted c.in_ok-behind.ensures.count;
  few = c.if-more.false;
}
