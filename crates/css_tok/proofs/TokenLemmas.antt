use Rattle.std.proofs.Common.{◌≡◌, ℕ, zero, suc, ◌-◌, ◌<◌, ◌≤◌, List, [], ◌∷◌, take, drop, length, refl, ap, subst, ◌∙◌, arith}
use Rattle.css_tok.specs.declared.kind.CssKind.{CssKind}
use Rattle.css_tok.specs.Kind.{token_at}
use Rattle.css_tok.specs.Tokens.{item_of, tokens_from, tokens_of}

tokens_from-drop : (n : ℕ) (bs : List ℕ) → tokens_from n bs ≡ tokens_from 0 (drop n bs)
unfolding tokens_from
tokens_from-drop zero bs = refl
tokens_from-drop (suc n) [] = refl
tokens_from-drop (suc n) (b ∷ bs) = tokens_from-drop n bs

drop-cons : (n b : ℕ) (bs : List ℕ) → 1 ≤ n → drop (n - 1) bs ≡ drop n (b ∷ bs)
drop-cons zero b bs h = absurd (omega arith)
drop-cons (suc n) b bs h = let e : suc n - 1 ≡ n = omega arith in ap (λ k. drop k bs) e

-- the tokens of a text are its first one and those of the rest
pub tokens_of-first : (bs : List ℕ) → 0 < length bs → 1 ≤ (token_at bs).1 → tokens_of bs ≡ item_of bs ∷ tokens_of (drop (token_at bs).1 bs)
unfolding tokens_of tokens_from
tokens_of-first [] some moves = absurd (omega arith)
tokens_of-first (b ∷ bs) some moves = ap (λ ts. item_of (b ∷ bs) ∷ ts) (tokens_from-drop ((token_at (b ∷ bs)).1 - 1) bs ∙ ap (tokens_from 0) (drop-cons (token_at (b ∷ bs)).1 b bs moves))

pub tokens_of-nil : tokens_of [] ≡ []
unfolding tokens_of tokens_from
tokens_of-nil = refl

pub tokens_of_empty : (bs : List ℕ) → length bs ≡ 0 → tokens_of bs ≡ []
tokens_of_empty [] empty = tokens_of-nil
tokens_of_empty (b ∷ bs) empty = absurd (omega arith)

-- what a reader that cuts at the token's end hands out
pub token_step : (bs slice rest : List ℕ) (p : CssKind × ℕ) → p ≡ token_at bs → 0 < length bs → 0 < p.1 → slice ≡ take p.1 bs → rest ≡ drop p.1 bs → tokens_of bs ≡ record { kind = p.0; slice = slice } ∷ tokens_of rest
token_step bs slice rest p is some moves front back =
    rw (front, back, is) (tokens_of-first bs some (subst (λ (q : CssKind × ℕ). 1 ≤ q.1) is moves))
