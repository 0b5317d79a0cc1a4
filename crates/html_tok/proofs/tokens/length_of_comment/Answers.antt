use Rattle.std.proofs.Common.{arith}
use Rattle.html_tok.proofs.Ends.{through_boundary}
use Rattle.html_tok.proofs.ArrowLemmas.{arrow}
use Rattle.html_tok.proofs.tokens.length_of_comment.Goals as goal

pub returns-clause-boundary : goal.returns-clause-boundary
returns-clause-boundary c = rw (c.length_through_comment.ensures, c.as_bytes.ensures.value) (through_boundary arrow (omega arith) c.args.rest.now c.utf8.rest (omega arith))
