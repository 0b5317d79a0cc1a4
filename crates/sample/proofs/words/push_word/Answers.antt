use Rattle.std.proofs.Common.{◌≡◌, ◌∙◌, ◌+◌, ◌++◌, ◌∷◌, [], ℕ, List, sym, ap, append-nil, arith, string_bytes}
use Rattle.sample.specs.Draws.{drawn, letter, next_state}
use Rattle.sample.specs.Words.{draws_end, letter_count, word_end}
use Rattle.sample.proofs.Appended.{appended}
use Rattle.sample.proofs.WordLemmas.{draws_end-more, draws_end-one, letters-all, letters-more, letters-none, letters}
use Rattle.sample.proofs.words.push_word.Goals as goal

pub loop-place-init : goal.loop-place-init
unfolding letter_count
loop-place-init c = record {
  count = ap (λ (k : ℕ). 2 + k) (c.draw-count.ensures.number ∙ ap (drawn 8) c.draw-count.ensures.state);
  text = sym (append-nil _) ∙ ap (λ (z : List ℕ). string_bytes c.args.out.now ++ z) (sym (letters-none c.args.draws.now));
  state = c.draw-count.ensures.state ∙ sym (draws_end-one c.args.draws.now);
}

pub loop-place-preserved : goal.loop-place-preserved
loop-place-preserved c =
    let x = c.args.draws.now in
    let k = c.loop-place._place in
    let more : (1 + k) + 1 ≡ 1 + (k + 1) = omega arith in
    let add : ℕ → List ℕ = λ y. letter (drawn 26 (next_state y)) ∷ [] in
    record {
      count = c.loop-place.invariant.count;
      text = appended _ _ _ _ _ c.loop-place.invariant.text (c.in_ok-push_letter.ensures.text ∙ ap (λ (y : ℕ). string_bytes c.loop-place.out ++ add y) c.loop-place.invariant.state)
          ∙ ap (λ (z : List ℕ). string_bytes c.args.out.now ++ z) (sym (letters-more x k));
      state = c.push_letter.ensures.state ∙ ap next_state c.loop-place.invariant.state ∙ sym (draws_end-more (1 + k) x) ∙ ap (λ (n : ℕ). draws_end n x) more;
    }

pub returns-clause-text : goal.returns-clause-text
returns-clause-text c =
    let x = c.args.draws.now in
    let count = c.loop-place.invariant.count in
    let all : c.loop-place._place ≡ letter_count x = omega arith in
    c.loop-place.invariant.text ∙ ap (λ (n : ℕ). string_bytes c.args.out.now ++ letters x n) all ∙ ap (λ (z : List ℕ). string_bytes c.args.out.now ++ z) (letters-all x)

pub returns-clause-state : goal.returns-clause-state
unfolding word_end
returns-clause-state c =
    let x = c.args.draws.now in
    let count = c.loop-place.invariant.count in
    let all : c.loop-place._place ≡ letter_count x = omega arith in
    c.loop-place.invariant.state ∙ ap (λ (n : ℕ). draws_end (1 + n) x) all
