use Rattle.std.proofs.Common.{◌≡◌, ◌++◌, ◌≤◌, [], map, length}
use Rattle.css_tok.specs.Tokens.{tokens_of}
use Rattle.css_rules.specs.Decls.{decl_in, decls_of}
use Rattle.css_rules.specs.Parts.{past_from}
use Rattle.css_rules.proofs.decls.read_block.Given as goal

abbrev pub invariant-parts : goal.invariant-parts
invariant-parts l = record {
  within : length l.tokens.rest.now ≤ length l.fn.tokens.rest.now;
  read : map decl_in l.decls.items ++ decls_of l.stop (tokens_of l.tokens.rest.now) ≡ decls_of l.stop (tokens_of l.fn.tokens.rest.now);
  rest : past_from l.stop [] (tokens_of l.tokens.rest.now) ≡ past_from l.stop [] (tokens_of l.fn.tokens.rest.now);
}

abbrev pub decreases-parts : goal.decreases-parts
decreases-parts l = length l.tokens.rest.now
