use Rattle.std.proofs.Common.{◌≡◌, ◌∙◌, ◌<◌, ◌≤◌, ◌-◌, ◌+◌, ◌++◌, ◌∷◌, [], ap, sym, rules, arith, pos}
use Rattle.std.specs.Prelude.{Some, None}
use Rattle.std.proofs.lemmas.Grind.{common_steps}
use Rattle.style.specs.Counters.{most_counters}
use Rattle.css_words.specs.Repeat.{with_prefix, fewer_than}
use Rattle.css_content.specs.Grammar.{next_entry}
use Rattle.css_content.proofs.EntryLemmas.{entries_go, entries_stop}
use Rattle.css_content.proofs.counters.more_entries.Goals as goal

pub returns-in-None-clause-reads : goal.returns-in-None-clause-reads
returns-in-None-clause-reads c =
    let e : next_entry (pos c.args.other) c.loop-turn.reader ≡ Some (None, c.next_entry.new.reader) = first_of (search rules, grind (arith, common_steps)) in
    let low : c.loop-turn.turn ≤ most_counters - 1 = search rules in
    c.loop-turn.invariant.0 ∙ entries_stop (next_entry (pos c.args.other)) c.loop-turn.found c.loop-turn.turn c.loop-turn.reader c.next_entry.new.reader low e

pub loop-turn-preserved : goal.loop-turn-preserved
loop-turn-preserved c =
    let e : next_entry (pos c.args.other) c.loop-turn.reader ≡ Some (Some c.in-Some.next, c.next_entry.new.reader) = first_of (search rules, grind (arith, common_steps)) in
    let f : c.push-in-Some.new.self ≡ c.loop-turn.found ++ c.in-Some.next ∷ [] = first_of (search rules, grind (arith, common_steps)) in
    let low : c.loop-turn.turn < most_counters - 1 = search rules in (
      c.loop-turn.invariant.0
          ∙ entries_go (next_entry (pos c.args.other)) c.loop-turn.found c.loop-turn.turn c.loop-turn.reader c.next_entry.new.reader c.in-Some.next low e
          ∙ ap (λ z. with_prefix z (fewer_than (most_counters - (c.loop-turn.turn + 1)) (next_entry (pos c.args.other)) c.next_entry.new.reader)) (sym f),
      rw f (first_of (search rules, grind (arith, common_steps))),
      first_of (search rules, grind (arith, common_steps)),
      omega (arith, low),
    )

pub returns-in-None-2-clause-reads : goal.returns-in-None-2-clause-reads
returns-in-None-2-clause-reads c =
    let e : next_entry (pos c.args.other) c.loop-turn.reader ≡ Some (None, c.next_entry-2.new.reader) = first_of (search rules, grind (arith, common_steps)) in
    let low : c.loop-turn.turn ≤ most_counters - 1 = search rules in
    c.loop-turn.invariant.0 ∙ entries_stop (next_entry (pos c.args.other)) c.loop-turn.found c.loop-turn.turn c.loop-turn.reader c.next_entry-2.new.reader low e
