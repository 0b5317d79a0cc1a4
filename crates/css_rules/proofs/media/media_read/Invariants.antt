use Rattle.std.proofs.Common.{◌≡◌, length}
use Rattle.css_tok.specs.Tokens.{tokens_of}
use Rattle.css_rules.specs.Media.{is_media_list}
use Rattle.css_rules.specs.MediaSteps.{reads, state_in}
use Rattle.css_rules.proofs.media.media_read.Given as goal

abbrev pub invariant-loop-token : goal.invariant-loop-token
invariant-loop-token l = is_media_list (tokens_of l.fn.list) ≡ reads (state_in l.reader) (tokens_of l.tokens.rest.now)

abbrev pub decreases-loop-token : goal.decreases-loop-token
decreases-loop-token l = length l.tokens.rest.now
