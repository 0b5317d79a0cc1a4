use Rattle.std.proofs.Common.{string_bytes}
use Rattle.std.specs.Str.Iter.{chars_rest}
use Rattle.gen_text.proofs.WordLemmas.{chars_turn, chars_ending_turn, chars_end, chars_ending_end}
use Rattle.gen_text.proofs.own.push_words.Goals as goal

pub loop-c-preserved : goal.loop-c-preserved
loop-c-preserved c =
    let h = c.loop-c.invariant in
    let next = c.in-Some.ensures.steps.0 in
    record {
      can = tt;
      finite = tt;
      text = chars_turn c.args.ending.now c.loop-c.ending c.push_char.new.ending c.args.text.now (chars_rest c.loop-c.c-iterator) (chars_rest c.next.new.self) c.in-Some.c (string_bytes c.args.into.now) (string_bytes c.loop-c.into) (string_bytes c.push_char.new.into) h.text next c.in_ok-push_char.ensures.ok c.in_ok-push_char.ensures.ending;
      ending = chars_ending_turn c.args.ending.now c.loop-c.ending c.push_char.new.ending c.args.text.now (chars_rest c.loop-c.c-iterator) (chars_rest c.next.new.self) c.in-Some.c h.ending next c.in_ok-push_char.ensures.ending;
    }

pub returns-clause-ok : goal.returns-clause-ok
returns-clause-ok c = chars_end c.args.ending.now c.loop-c.ending c.args.text.now (chars_rest c.loop-c.c-iterator) (string_bytes c.args.into.now) (string_bytes c.loop-c.into) c.loop-c.invariant.text c.in-None.ensures.steps.0.0

pub returns-clause-ending : goal.returns-clause-ending
returns-clause-ending c = chars_ending_end c.args.ending.now c.loop-c.ending c.args.text.now (chars_rest c.loop-c.c-iterator) c.loop-c.invariant.ending c.in-None.ensures.steps.0.0
