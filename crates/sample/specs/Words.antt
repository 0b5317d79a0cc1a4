-- The words of a sample book, from a state of the generator on. Draws are made in the order of the text.
use Rattle.std.specs.Prelude.{ℕ, List, ◌+◌, map}
use Rattle.std.specs.Fn.{iterate}
use Rattle.std.specs.List.{join_with_byte, range_with_len}
use Rattle.sample.specs.Draws.{drawn, letter, next_state}

-- the state after so many draws
unfoldable pub draws_end : ℕ → ℕ → ℕ
draws_end count x = iterate next_state count x

-- how many letters a word has, 2 to 9, by its first draw
unfoldable pub letter_count : ℕ → ℕ
letter_count x = 2 + drawn 8 (next_state x)

-- the letter that a draw after so many others gives
unfoldable pub letter_after : ℕ → ℕ → ℕ
letter_after x count = letter (drawn 26 (draws_end (count + 1) x))

-- a word: after the draw of how many, one for each letter
unfoldable pub word : ℕ → List ℕ
word x = map (letter_after x) (range_with_len 1 (letter_count x))

-- the state after a word
unfoldable pub word_end : ℕ → ℕ
word_end x = draws_end (1 + letter_count x) x

-- the state after so many words
unfoldable pub words_end : ℕ → ℕ → ℕ
words_end count x = iterate word_end count x

-- the word after so many others
unfoldable pub word_after : ℕ → ℕ → List ℕ
word_after x count = word (words_end count x)

-- so many words, parted by one space
unfoldable pub words : ℕ → ℕ → List ℕ
words count x = join_with_byte 32 (map (word_after x) (range_with_len 0 count))
