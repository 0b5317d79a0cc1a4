use Rattle.css_tok.specs.Tokens.{tokens_of}
use Rattle.css_words.specs.Input.{kept}
use Rattle.css_words.proofs.ReadLemmas.{advanced, no_later, rest_within, rest_less}
use Rattle.css_words.proofs.reader.Reader.advance.Goals as goal

pub returns-clause-rest : goal.returns-clause-rest
returns-clause-rest c = advanced _ _ _ _ _ _ _ c.self.invariant c.self.view_is c.next_kept-self-inside.ensures.kept

pub returns-clause-within : goal.returns-clause-within
returns-clause-within c = rw (advanced _ _ _ _ _ _ _ c.self.invariant c.self.view_is c.next_kept-self-inside.ensures.kept) (rest_within c.args.self.now)

pub returns-clause-taken : goal.returns-clause-taken
returns-clause-taken c = λ some. rw (advanced _ _ _ _ _ _ _ c.self.invariant c.self.view_is c.next_kept-self-inside.ensures.kept) (rest_less c.args.self.now some)

pub invariant_of-self : goal.invariant_of-self
invariant_of-self c = record {
  after_next = no_later c.self.inside.later c.next_kept-self-inside.result (kept c.self.inside.skipped (tokens_of c.self.inside.tokens.rest.now)) (kept c.self.inside.skipped (tokens_of c.next_kept-self-inside.new.tokens.rest.now)) c.self.invariant.after_later c.next_kept-self-inside.ensures.kept;
  after_later = c.next_kept-self-inside.ensures.end;
}
