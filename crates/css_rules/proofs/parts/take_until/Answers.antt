use Rattle.std.proofs.Common.{◌≡◌, ◌∙◌, ◌++◌, [], ◌∷◌, sym, false, true, ap, append_assoc}
use Rattle.css_tok.specs.Tokens.{tokens_of, item_in}
use Rattle.css_tok.specs.Marks.{first_mark, rest_of}
use Rattle.css_rules.specs.Parts.{joined}
use Rattle.css_rules.specs.Parts.{ends, after_from}
use Rattle.css_rules.specs.Brackets.{open_after}
use Rattle.css_rules.specs.Views.{items_in}
use Rattle.css_rules.proofs.CoverLemmas.{joined_push}
use Rattle.css_rules.proofs.PartLemmas.{passed_push, front_goes, front_stops, front_ends, after_goes, after_stops, after_ends, first_mark_is, first_mark_none, rest_is, rest_none, opened_push, closed_stops, closed_ends}
use Rattle.css_rules.proofs.parts.take_until.Goals as goal

pub loop-token-preserved : goal.loop-token-preserved
loop-token-preserved c =
    let inside : ends c.args.stop c.loop-token.open (item_in c.in-Some.token) ≡ false = sym c.ends.ensures ∙ c.if-ends.false in
    let front = c.loop-token.invariant.front ∙ ap (λ z. joined (items_in c.loop-token.found.items) ++ z) c.in-Some.ensures.joined ∙ sym (append_assoc (joined (items_in c.loop-token.found.items)) c.in-Some.token.slice.now c.next.new.self.rest.now) ∙ ap (λ z. z ++ c.next.new.self.rest.now) (sym (joined_push c.loop-token.found.items c.in-Some.token)) in
    let passed = passed_push (tokens_of c.args.tokens.now.rest.now) (tokens_of c.loop-token.tokens.rest.now) (tokens_of c.next.new.self.rest.now) c.loop-token.found.items c.in-Some.token c.loop-token.invariant.passed c.in-Some.ensures.tokens in
    record {
      front = rw c.in_ok-push.ensures.items front;
      passed = rw c.in_ok-push.ensures.items passed;
      before = c.loop-token.invariant.before ∙ rw (c.in-Some.ensures.tokens, c.in_ok-push.ensures.items, c.in_ok-pass.ensures.ok) (front_goes c.args.stop c.loop-token.open c.loop-token.found.items c.in-Some.token (tokens_of c.next.new.self.rest.now) inside);
      opened = c.in_ok-pass.ensures.ok ∙ ap (λ o. open_after o (item_in c.in-Some.token)) c.loop-token.invariant.opened ∙ rw c.in_ok-push.ensures.items (sym (opened_push c.loop-token.found.items c.in-Some.token));
      after = c.loop-token.invariant.after ∙ rw (c.in-Some.ensures.tokens, c.in_ok-pass.ensures.ok) (after_goes c.args.stop c.loop-token.open c.in-Some.token (tokens_of c.next.new.self.rest.now) inside);
    }

pub returns-then-ends-clause-found : goal.returns-then-ends-clause-found
returns-then-ends-clause-found c =
    let stops : ends c.args.stop c.loop-token.open (item_in c.in-Some.token) ≡ true = sym c.ends.ensures ∙ c.if-ends.true in
    sym (c.loop-token.invariant.before ∙ rw c.in-Some.ensures.tokens (front_stops c.args.stop c.loop-token.open c.loop-token.found.items c.in-Some.token (tokens_of c.next.new.self.rest.now) stops))

pub returns-then-ends-clause-end : goal.returns-then-ends-clause-end
returns-then-ends-clause-end c =
    let stops : ends c.args.stop c.loop-token.open (item_in c.in-Some.token) ≡ true = sym c.ends.ensures ∙ c.if-ends.true in
    let after = c.loop-token.invariant.after ∙ ap (after_from c.args.stop c.loop-token.open) c.in-Some.ensures.tokens ∙ after_stops c.args.stop c.loop-token.open c.in-Some.token (tokens_of c.next.new.self.rest.now) stops in
    c.mark.ensures ∙ sym (ap first_mark after ∙ first_mark_is (item_in c.in-Some.token) (tokens_of c.next.new.self.rest.now))

pub returns-then-ends-clause-rest : goal.returns-then-ends-clause-rest
returns-then-ends-clause-rest c =
    let stops : ends c.args.stop c.loop-token.open (item_in c.in-Some.token) ≡ true = sym c.ends.ensures ∙ c.if-ends.true in
    let after = c.loop-token.invariant.after ∙ ap (after_from c.args.stop c.loop-token.open) c.in-Some.ensures.tokens ∙ after_stops c.args.stop c.loop-token.open c.in-Some.token (tokens_of c.next.new.self.rest.now) stops in
    sym (ap rest_of after ∙ rest_is (item_in c.in-Some.token) (tokens_of c.next.new.self.rest.now))

pub returns-then-ends-clause-closed : goal.returns-then-ends-clause-closed
returns-then-ends-clause-closed c = closed_stops c.args.stop c.loop-token.open (items_in c.loop-token.found.items) (item_in c.in-Some.token) (sym c.ends.ensures ∙ c.if-ends.true) c.loop-token.invariant.opened

pub returns-then-ends-clause-passed : goal.returns-then-ends-clause-passed
returns-then-ends-clause-passed c =
    let front = c.loop-token.invariant.front ∙ ap (λ z. joined (items_in c.loop-token.found.items) ++ z) c.in-Some.ensures.joined ∙ sym (append_assoc (joined (items_in c.loop-token.found.items)) c.in-Some.token.slice.now c.next.new.self.rest.now) ∙ ap (λ z. z ++ c.next.new.self.rest.now) (sym (joined_push c.loop-token.found.items c.in-Some.token)) in
    record {
      front = items_in (c.loop-token.found.items ++ c.in-Some.token ∷ []);
      text_is = front;
      tokens_are = passed_push (tokens_of c.args.tokens.now.rest.now) (tokens_of c.loop-token.tokens.rest.now) (tokens_of c.next.new.self.rest.now) c.loop-token.found.items c.in-Some.token c.loop-token.invariant.passed c.in-Some.ensures.tokens;
    }

pub returns-clause-passed : goal.returns-clause-passed
returns-clause-passed c = record {
  front = items_in c.loop-token.found.items;
  text_is = c.loop-token.invariant.front ∙ ap (λ r. joined (items_in c.loop-token.found.items) ++ r.rest.now) (sym c.in_default.ensures.end);
  tokens_are = c.loop-token.invariant.passed ∙ ap (λ r. items_in c.loop-token.found.items ++ tokens_of r.rest.now) (sym c.in_default.ensures.end);
}

pub returns-clause-closed : goal.returns-clause-closed
returns-clause-closed c = closed_ends c.loop-token.open (items_in c.loop-token.found.items) c.is_outside.result c.is_outside.ensures c.loop-token.invariant.opened

pub returns-clause-found : goal.returns-clause-found
returns-clause-found c = sym (c.loop-token.invariant.before ∙ rw c.in_default.ensures.tokens (front_ends c.args.stop c.loop-token.open c.loop-token.found.items))

pub returns-clause-end : goal.returns-clause-end
returns-clause-end c = sym (ap first_mark (c.loop-token.invariant.after ∙ ap (after_from c.args.stop c.loop-token.open) c.in_default.ensures.tokens ∙ after_ends c.args.stop c.loop-token.open) ∙ first_mark_none)

pub returns-clause-rest : goal.returns-clause-rest
returns-clause-rest c =
    ap (λ r. tokens_of r.rest.now) c.in_default.ensures.end ∙ c.in_default.ensures.tokens ∙ sym (ap rest_of (c.loop-token.invariant.after ∙ ap (after_from c.args.stop c.loop-token.open) c.in_default.ensures.tokens ∙ after_ends c.args.stop c.loop-token.open) ∙ rest_none)
