use Rattle.std.proofs.Common.{◌≡◌, ◌≤◌, ◌∷◌, ◌-◌, ◌+◌, [], length, pos}
use Rattle.style.specs.Counters.{most_counters}
use Rattle.css_words.specs.Repeat.{fewer_than, with_prefix}
use Rattle.css_content.specs.Grammar.{next_entry}
use Rattle.css_content.proofs.counters.more_entries.Given as goal

abbrev pub invariant-loop-turn : goal.invariant-loop-turn
invariant-loop-turn l = (with_prefix (l.fn.first ∷ []) (fewer_than most_counters (next_entry (pos l.other)) l.fn.reader) ≡ with_prefix l.found (fewer_than (most_counters - l.turn) (next_entry (pos l.other)) l.reader)) × (length l.found ≡ l.turn + 1) × (length l.reader ≤ length l.fn.reader) × (l.turn ≤ most_counters - 1)
