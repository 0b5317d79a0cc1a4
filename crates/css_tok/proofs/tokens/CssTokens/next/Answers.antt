use Rattle.std.proofs.Common.{◌≡◌, length, arith}
use Rattle.std.proofs.lemmas.Grind.{common_steps}
use Rattle.css_tok.proofs.TokenLemmas.{token_step, tokens_of_empty}
use Rattle.css_tok.proofs.tokens.CssTokens.next.Goals as goal

pub returns-then-is_empty-clause-tokens : goal.returns-then-is_empty-clause-tokens
returns-then-is_empty-clause-tokens c =
    let empty : length c.args.self.now.rest.now ≡ 0 = grind (arith, common_steps) in
    tokens_of_empty c.args.self.now.rest.now empty

pub returns-clause-tokens : goal.returns-clause-tokens
returns-clause-tokens c =
    token_step c.args.self.now.rest.now c.split_at.result.0.now c.split_at.result.1.now c.first-kind.result c.first-kind.ensures.value (omega arith) c.first-kind.ensures.within.0 c.split_at.ensures.front c.split_at.ensures.back
