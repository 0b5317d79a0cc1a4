use Rattle.css_rules.proofs.CoverLemmas.{item_before_is}
use Rattle.css_rules.proofs.decls.token_before.Goals as goal

pub returns-then-at-gt0-clause-value : goal.returns-then-at-gt0-clause-value
returns-then-at-gt0-clause-value c = item_before_is c.args.tokens.now c.args.at _ c.if-at-gt0.true c.requires
