use Rattle.std.proofs.Common.{◌≡◌, length}
use Rattle.css_tok.specs.Tokens.{tokens_of}
use Rattle.css_words.specs.Input.{kept}
use Rattle.css_words.proofs.reader.next_kept.Given as goal

abbrev pub invariant-loop-token : goal.invariant-loop-token
invariant-loop-token l = kept l.skipped (tokens_of l.fn.tokens.rest.now) ≡ kept l.skipped (tokens_of l.tokens.rest.now)

abbrev pub decreases-loop-token : goal.decreases-loop-token
decreases-loop-token l = length l.tokens.rest.now
