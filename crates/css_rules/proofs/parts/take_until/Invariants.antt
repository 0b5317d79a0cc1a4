use Rattle.std.proofs.Common.{◌≡◌, length, [], ◌++◌}
use Rattle.css_tok.specs.Tokens.{tokens_of}
use Rattle.css_rules.specs.Views.{items_in}
use Rattle.css_rules.specs.Brackets.{open_at}
use Rattle.css_rules.specs.Parts.{joined}
use Rattle.css_rules.specs.Parts.{front_from, after_from}
use Rattle.css_rules.proofs.parts.take_until.Given as goal

abbrev pub invariant-loop-token : goal.invariant-loop-token
invariant-loop-token l = record {
  front : l.fn.tokens.rest.now ≡ joined (items_in l.found.items) ++ l.tokens.rest.now;
  passed : tokens_of l.fn.tokens.rest.now ≡ items_in l.found.items ++ tokens_of l.tokens.rest.now;
  before : front_from l.stop [] (tokens_of l.fn.tokens.rest.now) ≡ items_in l.found.items ++ front_from l.stop l.open (tokens_of l.tokens.rest.now);
  opened : l.open ≡ open_at [] (items_in l.found.items) (length (items_in l.found.items));
  after : after_from l.stop [] (tokens_of l.fn.tokens.rest.now) ≡ after_from l.stop l.open (tokens_of l.tokens.rest.now);
}

abbrev pub decreases-loop-token : goal.decreases-loop-token
decreases-loop-token l = length l.tokens.rest.now
