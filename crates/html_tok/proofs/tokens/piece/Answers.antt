use Rattle.html_tok.specs.Pieces.{by_end_of}
use Rattle.html_tok.proofs.TextLen.{text_boundary}
use Rattle.html_tok.proofs.tokens.piece.Goals as goal

pub returns-then-len-gt0-clause-boundary : goal.returns-then-len-gt0-clause-boundary
returns-then-len-gt0-clause-boundary c = rw (c.length_of_text-len.ensures, c.as_bytes.ensures.value) (text_boundary (by_end_of c.in-Some.name.now) c.args.rest.now)
