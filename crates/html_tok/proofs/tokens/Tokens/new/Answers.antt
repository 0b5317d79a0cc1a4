use Rattle.html_tok.specs.Listed.{tokens_of}
use Rattle.std.proofs.Common.{refl}
use Rattle.html_tok.proofs.ListLemmas.{tokens-joined, tokens-placed}
use Rattle.html_tok.proofs.tokens.Tokens.new.Goals as goal

pub returns-clause-tokens : goal.returns-clause-tokens
unfolding tokens_of
returns-clause-tokens c = refl

pub returns-clause-joined : goal.returns-clause-joined
returns-clause-joined c = tokens-joined c.args.text.now

pub returns-clause-placed : goal.returns-clause-placed
returns-clause-placed c = tokens-placed c.args.text.now
