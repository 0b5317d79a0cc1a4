-- A word of a table in two parts is one of the first, or else of the second.
use Rattle.std.proofs.Common.{◌≡◌, ℕ, Bool, true, false, List, [], ◌∷◌, ◌++◌, refl}
use Rattle.std.specs.Option.{option_or}
use Rattle.css_tok.specs.Plain.{is_word}
use Rattle.css_words.specs.Table.{find_word}

pub found_in : {A : Type 0} (xs ys : List (List ℕ × A)) (word : List ℕ) → find_word (xs ++ ys) word ≡ option_or (find_word xs word) (find_word ys word)
unfolding find_word
found_in [] ys word = refl
found_in (x ∷ xs) ys word = by (is_word word x.0) refl (found_in xs ys word)
  where
    by : (b : Bool) → is_word word x.0 ≡ b → find_word (xs ++ ys) word ≡ option_or (find_word xs word) (find_word ys word) → find_word (x ∷ (xs ++ ys)) word ≡ option_or (find_word (x ∷ xs) word) (find_word ys word)
    by true h r = rw h refl
    by false h r = rw h r
