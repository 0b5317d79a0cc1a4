-- Words joined by spaces, a word at a time.
use Rattle.std.proofs.Common.{◌≡◌, ℕ, suc, ◌+◌, ◌<◌, List, [], ◌∷◌, ◌++◌, length, drop, get_or, ap, sym, ◌∙◌, arith, append_assoc, append-nil}
use Rattle.std.proofs.Math.Seq.{drop-cons}
use Rattle.css_values.specs.Fonts.{spaced}

pub spaced_step : (text w : List ℕ) (ws : List (List ℕ)) → ((text ++ (32 ∷ [])) ++ w) ++ spaced ws ≡ text ++ spaced (w ∷ ws)
unfolding spaced
spaced_step text w ws =
    ap (λ z. z ++ spaced ws) (append_assoc text (32 ∷ []) w) ∙ append_assoc text (32 ∷ w) (spaced ws)

pub spaced_end : (text : List ℕ) → text ++ spaced [] ≡ text
unfolding spaced
spaced_end text = append-nil text

-- a turn of the loop over the words
pub spaced_turn : (text w : List ℕ) (ws : List (List ℕ)) (i : ℕ) → i < length ws → w ≡ get_or ws i w → ((text ++ (32 ∷ [])) ++ w) ++ spaced (drop (i + 1) ws) ≡ text ++ spaced (drop i ws)
spaced_turn text w ws i low is =
    let s : suc i ≡ i + 1 = omega arith in
    let d : drop i ws ≡ w ∷ drop (i + 1) ws = drop-cons ws i w low ∙ ap (λ v. v ∷ drop (suc i) ws) (sym is) ∙ ap (λ k. w ∷ drop k ws) s in
    spaced_step text w (drop (i + 1) ws) ∙ ap (λ z. text ++ spaced z) (sym d)
