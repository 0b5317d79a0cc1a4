use Rattle.std.proofs.Common.{◌≡◌, ◌++◌, ◌+◌, string_bytes}
use Rattle.sample.specs.Words.{draws_end, letter_count}
use Rattle.sample.proofs.WordLemmas.{letters}
use Rattle.sample.proofs.words.push_word.Given as goal

abbrev pub invariant-loop-place : goal.invariant-loop-place
invariant-loop-place l = record {
  count : l.count ≡ letter_count l.fn.draws;
  text : string_bytes l.out ≡ string_bytes l.fn.out ++ letters l.fn.draws l._place;
  state : l.draws ≡ draws_end (1 + l._place) l.fn.draws;
}
