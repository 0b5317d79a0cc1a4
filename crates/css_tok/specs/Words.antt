-- Texts as words.
use Rattle.std.specs.Prelude.{ℕ, not, ◌==◌, List, filter, length}
use Rattle.std.specs.List.{slice_split}
use Rattle.css_tok.specs.Lengths.{is_blank}

-- the words of a text, separated by white space (HTML: set of space-separated tokens; Selectors 3, 6.3.1)
unfoldable pub words_of : List ℕ → List (List ℕ)
words_of text = filter (λ w. not (length w == 0)) (slice_split is_blank text)
