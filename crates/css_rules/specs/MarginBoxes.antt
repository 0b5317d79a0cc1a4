-- The margin boxes of a page (css-page-3, 5.1).
use Rattle.std.specs.Prelude.{ℕ, List, [], ◌∷◌, Option, codes}
use Rattle.css_words.specs.Table.{find_word}

-- how many margin boxes a page has
abbrev pub margin_box_count : ℕ
margin_box_count = 16

-- the margin boxes by their names, numbered in the order in which they are listed: clockwise from the top left corner
unfoldable pub margin_boxes : List (List ℕ × ℕ)
margin_boxes =
    (codes "top-left-corner", 0) ∷ (codes "top-left", 1) ∷ (codes "top-center", 2) ∷ (codes "top-right", 3) ∷
    (codes "top-right-corner", 4) ∷ (codes "right-top", 5) ∷ (codes "right-middle", 6) ∷ (codes "right-bottom", 7) ∷
    (codes "bottom-right-corner", 8) ∷ (codes "bottom-right", 9) ∷ (codes "bottom-center", 10) ∷
    (codes "bottom-left", 11) ∷ (codes "bottom-left-corner", 12) ∷ (codes "left-bottom", 13) ∷
    (codes "left-middle", 14) ∷ (codes "left-top", 15) ∷ []

-- the number of the margin box of a name, ASCII case aside
abbrev pub margin_box_number : List ℕ → Option ℕ
margin_box_number name = find_word margin_boxes name
