use Rattle.std.proofs.Common.{◌≡◌, ◌≤◌, length}
use Rattle.css_words.specs.Repeat.{many}
use Rattle.selectors.specs.Grammar.{all_parts, next_part}
use Rattle.selectors.proofs.LoopLemmas.{with_parts}
use Rattle.selectors.proofs.grammar.all_parts.Given as goal

abbrev pub invariant-parts : goal.invariant-parts
invariant-parts l = record {
  read : all_parts l.fn.reader ≡ with_parts l.found (many next_part l.reader);
  within : length l.reader ≤ length l.fn.reader;
}

abbrev pub decreases-parts : goal.decreases-parts
decreases-parts l = length l.reader
