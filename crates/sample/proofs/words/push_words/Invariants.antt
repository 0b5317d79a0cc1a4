use Rattle.std.proofs.Common.{◌≡◌, ◌++◌, string_bytes}
use Rattle.sample.specs.Words.{words, words_end}
use Rattle.sample.proofs.words.push_words.Given as goal

abbrev pub invariant-loop-word : goal.invariant-loop-word
invariant-loop-word l = record {
  text : string_bytes l.out ≡ string_bytes l.fn.out ++ words l._word l.fn.draws;
  state : l.draws ≡ words_end l._word l.fn.draws;
}
