use Rattle.std.proofs.Common.{◌∙◌, ◌++◌, ◌∷◌, ℕ, List, sym, ap, arith, string_bytes}
use Rattle.sample.specs.Words.{word, word_end}
use Rattle.sample.proofs.Appended.{appended}
use Rattle.sample.proofs.WordLemmas.{words-more, words-one, words_end-more, words_end-one}
use Rattle.sample.proofs.words.push_words.Goals as goal

pub loop-word-init : goal.loop-word-init
loop-word-init c = record {
  text = c.in_ok-push_word.ensures.text ∙ ap (λ (z : List ℕ). string_bytes c.args.out.now ++ z) (sym (words-one c.args.draws.now));
  state = c.in_ok-push_word.ensures.state ∙ sym (words_end-one c.args.draws.now);
}

pub loop-word-preserved : goal.loop-word-preserved
loop-word-preserved c =
    let x = c.args.draws.now in
    let k = c.loop-word._word in
    record {
      text = appended _ _ _ _ _ c.loop-word.invariant.text (c.in_ok-push_next_word.ensures.text ∙ ap (λ (y : ℕ). string_bytes c.loop-word.out ++ (32 ∷ word y)) c.loop-word.invariant.state)
          ∙ ap (λ (z : List ℕ). string_bytes c.args.out.now ++ z) (sym (words-more k x (omega arith)));
      state = c.in_ok-push_next_word.ensures.state ∙ ap word_end c.loop-word.invariant.state ∙ sym (words_end-more k x);
    }
