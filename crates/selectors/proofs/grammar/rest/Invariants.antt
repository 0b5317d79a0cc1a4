use Rattle.std.proofs.Common.{◌≡◌, ◌-◌, ◌+◌, ◌∷◌, [], ◌≤◌, length}
use Rattle.selectors.specs.Grammar.{rest_from}
use Rattle.selectors.proofs.grammar.rest.Given as goal

abbrev pub invariant-loop-turn : goal.invariant-loop-turn
invariant-loop-turn l = record {
  parts : length l.found.parts ≡ l.turn + 1;
  joins : length l.found.joins ≡ l.turn;
  read : rest_from 16 (l.fn.first ∷ []) [] l.fn.reader ≡ rest_from (16 - l.turn) l.found.parts l.found.joins l.reader;
  within : length l.reader ≤ length l.fn.reader;
}
