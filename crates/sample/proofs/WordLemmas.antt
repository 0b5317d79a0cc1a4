-- Words, one letter and one word at a time.
use Rattle.std.proofs.Common.{◌≡◌, ◌∙◌, ℕ, ◌+◌, ◌<◌, ◌≤◌, List, [], ◌∷◌, ◌++◌, length, map, refl, ap, arith}
use Rattle.std.proofs.lemmas.List.FromFn.{length-map-range_with_len, map-range_with_len_more}
use Rattle.std.specs.List.{join_with_byte, range_with_len}
use Rattle.sample.specs.Draws.{drawn, letter, next_state}
use Rattle.sample.specs.Words.{draws_end, letter_after, letter_count, word, word_after, word_end, words, words_end}
use Rattle.sample.proofs.Repeats.{iterate-add, iterate-more, join-more}

-- the first letters of a word
pub letters : ℕ → ℕ → List ℕ
letters x count = map (letter_after x) (range_with_len 1 count)

pub letters-none : (x : ℕ) → letters x 0 ≡ []
unfolding letters
letters-none x = refl

pub letters-all : (x : ℕ) → letters x (letter_count x) ≡ word x
unfolding letters word
letters-all x = refl

pub draws_end-one : (x : ℕ) → draws_end 1 x ≡ next_state x
unfolding draws_end
draws_end-one x = refl

pub draws_end-more : (k x : ℕ) → draws_end (k + 1) x ≡ next_state (draws_end k x)
unfolding draws_end
draws_end-more k x = iterate-more next_state k x

pub letters-more : (x k : ℕ) → letters x (k + 1) ≡ letters x k ++ letter (drawn 26 (next_state (draws_end (1 + k) x))) ∷ []
unfolding letters letter_after
letters-more x k =
    map-range_with_len_more (letter_after x) 1 k (1 + k) refl ∙ ap (λ (y : ℕ). letters x k ++ letter (drawn 26 y) ∷ []) (draws_end-more (1 + k) x)

pub words_end-none : (x : ℕ) → words_end 0 x ≡ x
unfolding words_end
words_end-none x = refl

pub words_end-one : (x : ℕ) → words_end 1 x ≡ word_end x
unfolding words_end
words_end-one x = refl

pub words_end-more : (k x : ℕ) → words_end (k + 1) x ≡ word_end (words_end k x)
unfolding words_end
words_end-more k x = iterate-more word_end k x

pub words_end-add : (m n x : ℕ) → words_end n (words_end m x) ≡ words_end (m + n) x
unfolding words_end
words_end-add m n x = iterate-add word_end m n x

pub words-one : (x : ℕ) → words 1 x ≡ word x
unfolding words word_after words_end
words-one x = refl

pub words-more : (k x : ℕ) → 1 ≤ k → words (k + 1) x ≡ words k x ++ 32 ∷ word (words_end k x)
unfolding words word_after
words-more k x h =
    let some : 0 < length (map (word_after x) (range_with_len 0 k)) = omega (arith, length-map-range_with_len (word_after x) 0 k) in
    ap (join_with_byte 32) (map-range_with_len_more (word_after x) 0 k k (omega arith)) ∙ join-more 32 (map (word_after x) (range_with_len 0 k)) (word (words_end k x)) some
