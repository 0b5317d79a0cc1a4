-- The laws of texts with soft hyphens.
use Rattle.std.proofs.Common.{◌≡◌, ◌∙◌, ℕ, ◌+◌, Bool, true, false, ◌&&◌, List, [], ◌∷◌, ◌++◌, length, refl, sym, ap, ap₂}
use Rattle.std.specs.List.{All}
use Rattle.std.specs.Str.{IsUtf8, chars}
use Rattle.std.proofs.lemmas.List.Elements.{All-head, All-tail}
use Rattle.std.proofs.lemmas.Str.{chars-append, chars-nil, encodes-chars}
use Rattle.inline_text.specs.Joined.{joined}
use Rattle.soft_hyphens.specs.Hyphenated.{encoded, hyphenated, put_from, put_in}
use Rattle.soft_hyphens.specs.Laws.{NothingIsPut, TextsJoin}
use Rattle.soft_hyphens.specs.Words.{counts, is_put, letters_in, word_begin, word_end}
use Rattle.soft_hyphens.specs.declared.letter.Letter.{Letter}
use Rattle.soft_hyphens.proofs.PutLemmas.{encoded-append, encoded-std, put-append, put-none}

put-joined : (here : ℕ → Bool) (at : ℕ) (ts : List (List ℕ)) → All IsUtf8 ts → joined (put_in here at ts) ≡ encoded (put_from here at (chars (joined ts)))
put-joined here at [] u = ap (λ (l : List ℕ). encoded (put_from here at l)) (sym chars-nil)
put-joined here at (t ∷ ts) u =
    let n : ℕ = at + length (chars t) in
    ap (λ (l : List ℕ). encoded (put_from here at (chars t)) ++ l) (put-joined here n ts (All-tail IsUtf8 t ts u))
    ∙ sym (encoded-append (put_from here at (chars t)) (put_from here n (chars (joined ts))))
    ∙ ap encoded (sym (put-append here at (chars t) (chars (joined ts))) ∙ ap (put_from here at) (sym (chars-append t (joined ts) (All-head IsUtf8 t ts u))))

pub texts-join : TextsJoin
unfolding hyphenated
texts-join points autos ts u = put-joined (is_put points (letters_in autos ts)) 0 ts u

put-in-none : (here : ℕ → Bool) (at : ℕ) (ts : List (List ℕ)) → ((k : ℕ) → here k ≡ false) → All IsUtf8 ts → put_in here at ts ≡ ts
put-in-none here at [] h u = refl
put-in-none here at (t ∷ ts) h u =
    let same : encoded (put_from here at (chars t)) ≡ t = ap encoded (put-none here at (chars t) h) ∙ encoded-std (chars t) ∙ encodes-chars t (All-head IsUtf8 t ts u) in
    ap₂ (λ (x : List ℕ) (l : List (List ℕ)). x ∷ l) same (put-in-none here (at + length (chars t)) ts h (All-tail IsUtf8 t ts u))

pub never-put : (ls : List Letter) (k : ℕ) → is_put (λ word place. false) ls k ≡ false
unfolding is_put
never-put ls k = by (counts ls (word_begin ls k) (word_end ls k))
  where
    by : (b : Bool) → (b && false) ≡ false
    by true = refl
    by false = refl

pub nothing-is-put : NothingIsPut
unfolding hyphenated
nothing-is-put autos ts u = put-in-none (is_put (λ word place. false) (letters_in autos ts)) 0 ts (never-put (letters_in autos ts)) u
