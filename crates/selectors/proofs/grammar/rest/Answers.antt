use Rattle.std.proofs.Common.{◌≡◌, ◌-◌, ◌+◌, ◌∙◌, rules, arith, subst}
use Rattle.std.specs.Prelude.{Some}
use Rattle.std.proofs.lemmas.Grind.{common_steps}
use Rattle.selectors.specs.Grammar.{next_turn, rest_from}
use Rattle.css_words.proofs.ReadLemmas.{one_more, no_more}
use Rattle.selectors.proofs.LoopLemmas.{turn_more, turn_last, turn_err, of-none}
use Rattle.selectors.proofs.grammar.rest.Goals as goal

pub loop-turn-preserved : goal.loop-turn-preserved
loop-turn-preserved c =
    let more = of-none c.in_ok-pseudo.field-0 c.in_default.is c.in_ok-pseudo.ensures.more in
    let parts = more.0 in
    let joins = more.1 in
    let old = c.loop-turn.invariant.parts in
    let before = c.loop-turn.invariant.joins in
    let less = c.in_ok-pseudo.ensures.within in
    let low = c.loop-turn.invariant.within in
    record {
      parts = omega (arith, parts, old);
      joins = omega (arith, joins, before);
      read = one_more (λ n. rest_from n c.loop-turn.found.parts c.loop-turn.found.joins c.loop-turn.reader) _ c.loop-turn.turn c.loop-turn-test.true c.loop-turn.invariant.read
          ∙ turn_more (16 - (c.loop-turn.turn + 1)) c.loop-turn.found.parts c.next_turn.new.found.parts c.loop-turn.found.joins c.next_turn.new.found.joins c.loop-turn.reader c.next_turn.new.reader
          (subst (λ o. next_turn c.loop-turn.found.parts c.loop-turn.found.joins c.loop-turn.reader ≡ Some ((o, c.next_turn.new.found.parts, c.next_turn.new.found.joins), c.next_turn.new.reader)) c.in_default.is c.in_ok-pseudo.ensures.reads);
      within = omega (arith, less, low);
    }

pub returns : goal.returns
unfolding rest_from
returns c =
    let e = no_more (λ n. rest_from n c.loop-turn.found.parts c.loop-turn.found.joins c.loop-turn.reader) _ c.loop-turn.turn c.loop-turn-test.false c.loop-turn.invariant.read in
    first_of (search rules, grind (arith, common_steps))

pub returns-in_err-pseudo-clause-reads : goal.returns-in_err-pseudo-clause-reads
returns-in_err-pseudo-clause-reads c =
    let e = one_more (λ n. rest_from n c.loop-turn.found.parts c.loop-turn.found.joins c.loop-turn.reader) _ c.loop-turn.turn c.loop-turn-test.true c.loop-turn.invariant.read in
    first_of (search rules, grind (arith, common_steps, turn_err))

pub returns-in-Some-clause-reads : goal.returns-in-Some-clause-reads
returns-in-Some-clause-reads c =
    one_more (λ n. rest_from n c.loop-turn.found.parts c.loop-turn.found.joins c.loop-turn.reader) _ c.loop-turn.turn c.loop-turn-test.true c.loop-turn.invariant.read
    ∙ turn_last (16 - (c.loop-turn.turn + 1)) c.loop-turn.found.parts c.next_turn.new.found.parts c.loop-turn.found.joins c.next_turn.new.found.joins c.loop-turn.reader c.next_turn.new.reader c.in-Some.pseudo
    (subst (λ o. next_turn c.loop-turn.found.parts c.loop-turn.found.joins c.loop-turn.reader ≡ Some ((o, c.next_turn.new.found.parts, c.next_turn.new.found.joins), c.next_turn.new.reader)) c.in-Some.is c.in_ok-pseudo.ensures.reads)
