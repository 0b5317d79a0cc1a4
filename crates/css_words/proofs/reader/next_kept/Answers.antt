use Rattle.std.proofs.Common.{◌≡◌, ◌∙◌, ap, sym, true, false}
use Rattle.css_tok.specs.Tokens.{tokens_of}
use Rattle.css_words.specs.Input.{is_skipped, kept}
use Rattle.css_words.proofs.ReadLemmas.{kept_keeps, kept_skips, kept_nil}
use Rattle.css_words.proofs.reader.next_kept.Goals as goal

pub returns-then-not-is_skipped : goal.returns-then-not-is_skipped
returns-then-not-is_skipped c =
    let is : is_skipped c.args.skipped c.in-Some.token.kind ≡ false = sym c.is_skipped.ensures ∙ c.if-not-is_skipped.true in
    record {
      kept = c.loop-token.invariant ∙ ap (kept c.args.skipped) c.in-Some.ensures.tokens ∙ kept_keeps c.args.skipped c.in-Some.token (tokens_of c.next.new.self.rest.now) is;
      end = tt;
    }

pub loop-token-preserved : goal.loop-token-preserved
loop-token-preserved c =
    let is : is_skipped c.args.skipped c.in-Some.token.kind ≡ true = sym c.is_skipped.ensures ∙ c.if-not-is_skipped.false in
    c.loop-token.invariant ∙ ap (kept c.args.skipped) c.in-Some.ensures.tokens ∙ kept_skips c.args.skipped c.in-Some.token (tokens_of c.next.new.self.rest.now) is

pub returns : goal.returns
returns c = record {
  kept = c.loop-token.invariant ∙ ap (λ t. kept c.args.skipped (tokens_of t.rest.now)) (sym c.in_default.ensures.end);
  end = ap (λ t. kept c.args.skipped (tokens_of t.rest.now)) c.in_default.ensures.end ∙ ap (kept c.args.skipped) c.in_default.ensures.tokens ∙ kept_nil c.args.skipped;
}
