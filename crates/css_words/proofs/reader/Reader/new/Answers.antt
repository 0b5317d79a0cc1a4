use Rattle.std.proofs.Common.{◌∙◌, ap}
use Rattle.css_tok.specs.Tokens.{tokens_of}
use Rattle.css_words.specs.Input.{kept}
use Rattle.css_words.proofs.ReadLemmas.{begun, no_later}
use Rattle.css_words.proofs.reader.Reader.new.Goals as goal

pub returns : goal.returns
returns c = begun _ _ _ _ _ _ c.next_kept-next.ensures.kept c.next_kept-later.ensures.kept ∙ ap (λ text. kept c.args.skipped (tokens_of text)) c.new-tokens.ensures.1

pub invariant_of-result : goal.invariant_of-result
invariant_of-result c = record {
  after_next = no_later c.next_kept-next.result c.next_kept-later.result (kept c.args.skipped (tokens_of c.next_kept-next.new.tokens.rest.now)) (kept c.args.skipped (tokens_of c.next_kept-later.new.tokens.rest.now)) c.next_kept-next.ensures.end c.next_kept-later.ensures.kept;
  after_later = c.next_kept-later.ensures.end;
}
