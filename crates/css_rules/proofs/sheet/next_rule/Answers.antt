use Rattle.std.proofs.Common.{◌∙◌, sym}
use Rattle.css_tok.specs.Tokens.{tokens_of, item_in}
use Rattle.css_rules.proofs.SheetLemmas.{goes_between, goes_closer}
use Rattle.css_rules.proofs.sheet.next_rule.Goals as goal

pub returns-in-Between-clause-goes : goal.returns-in-Between-clause-goes
returns-in-Between-clause-goes c = goes_between c.args.inside (tokens_of c.args.tokens.now.rest.now) (tokens_of c.next.new.self.rest.now) (item_in c.in-Some.token) c.in-Some.ensures.tokens (sym c.lead.ensures ∙ c.in-Between.is)

pub returns-in-Closer-clause-goes : goal.returns-in-Closer-clause-goes
returns-in-Closer-clause-goes c = goes_closer c.args.inside (tokens_of c.args.tokens.now.rest.now) (tokens_of c.next.new.self.rest.now) (item_in c.in-Some.token) c.in-Some.ensures.tokens (sym c.lead.ensures ∙ c.in-Closer.is)
