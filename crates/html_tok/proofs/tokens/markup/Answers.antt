use Rattle.std.proofs.Common.{◌≡◌, rules}
use Rattle.html_tok.specs.Pieces.{opening_of, opens_comment, opens_text, by_markup}
use Rattle.html_tok.proofs.PieceLemmas.{comment-boundary, text-some}
use Rattle.html_tok.proofs.TextLen.{text_boundary}
use Rattle.html_tok.proofs.tokens.markup.Goals as goal

pub range_from-requires : goal.range_from-requires
range_from-requires c = let e : opening_of c.args.rest.now ≡ opens_comment = search rules in λ _. comment-boundary c.args.rest.now c.utf8.rest e

pub returns-in-Text-clause-boundary : goal.returns-in-Text-clause-boundary
returns-in-Text-clause-boundary c = rw (c.length_of_text.ensures, c.as_bytes-in-Text.ensures.value) (text_boundary by_markup c.args.rest.now)

pub returns-in-Text-clause-some : goal.returns-in-Text-clause-some
returns-in-Text-clause-some c = let e : opening_of c.args.rest.now ≡ opens_text = search rules in rw (c.length_of_text.ensures, c.as_bytes-in-Text.ensures.value) (text-some c.args.rest.now c.requires e)
