-- Tables of words. CSS compares words without regard to ASCII case, after escapes are undone (CSS 2.1, 4.1.3).
use Rattle.std.specs.Prelude.{ℕ, if◌then◌else◌, List, [], ◌∷◌, Option, Some, None}
use Rattle.css_tok.specs.Plain.{is_word}

-- what the first row of a word says
unfoldable pub find_word : {A : Type 0} → List (List ℕ × A) → List ℕ → Option A
find_word [] word = None
find_word (row ∷ rows) word = if is_word word row.0 then Some row.1 else find_word rows word
