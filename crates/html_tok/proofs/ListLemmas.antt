-- The list of tokens, one after another.
use Rattle.std.proofs.Common.{◌≡◌, ℕ, zero, suc, ◌+◌, ◌-◌, ◌<◌, List, [], ◌∷◌, ◌++◌, Option, None, length, take, drop, refl, ap, sym, ◌∙◌, arith, subst, add-zero}
use Rattle.std.specs.List.{flat_map}
use Rattle.std.proofs.lemmas.List.{take-append-drop, length-take-le}
use Rattle.html_tok.specs.Pieces.{Piece, piece_at, raw_after}
use Rattle.html_tok.specs.Listed.{view_at, tokens_after, ArePlaced}
use Rattle.html_tok.proofs.PieceLemmas.{piece-cut}

tokens-later : (n at : ℕ) (awaited : Option (List ℕ)) (bs : List ℕ) → tokens_after n at awaited bs ≡ tokens_after 0 (at + n) awaited (drop n bs)
unfolding tokens_after
tokens-later zero at awaited [] = refl
tokens-later (suc n) at awaited [] = refl
tokens-later zero at awaited (b ∷ bs) = ap (λ m. tokens_after 0 m awaited (b ∷ bs)) (sym (add-zero at))
tokens-later (suc n) at awaited (b ∷ bs) = tokens-later n (at + 1) awaited bs ∙ ap (λ m. tokens_after 0 m awaited (drop n bs)) (let e : at + 1 + n ≡ at + suc n = omega arith in e)

-- the first token and those after it
pub tokens-step : (at : ℕ) (awaited : Option (List ℕ)) (bs : List ℕ) → 0 < length bs → tokens_after 0 at awaited bs ≡ view_at at bs (piece_at awaited bs) ∷ tokens_after 0 (at + (piece_at awaited bs).len) (raw_after (piece_at awaited bs).kind) (drop (piece_at awaited bs).len bs)
unfolding tokens_after
tokens-step at awaited [] l = absurd (omega arith)
tokens-step at awaited (b ∷ bs) l = ap (λ ts. view_at at (b ∷ bs) (piece_at awaited (b ∷ bs)) ∷ ts) (past at (b ∷ bs) b bs refl (piece_at awaited (b ∷ bs)) (piece-cut awaited (b ∷ bs) l).some)
  where
    past : (at : ℕ) (all : List ℕ) (b : ℕ) (bs : List ℕ) → all ≡ b ∷ bs → (p : Piece) → 0 < p.len → tokens_after (p.len - 1) (at + 1) (raw_after p.kind) bs ≡ tokens_after 0 (at + p.len) (raw_after p.kind) (drop p.len (b ∷ bs))
    past at all b bs e p some =
        let s : p.len ≡ suc (p.len - 1) = omega arith in
        tokens-later (p.len - 1) (at + 1) (raw_after p.kind) bs
        ∙ ap (λ m. tokens_after 0 m (raw_after p.kind) (drop (p.len - 1) bs)) (let n : at + 1 + (p.len - 1) ≡ at + p.len = omega arith in n)
        ∙ ap (λ m. tokens_after 0 (at + p.len) (raw_after p.kind) (drop m (b ∷ bs))) (sym s)

pub tokens-none : (at : ℕ) (awaited : Option (List ℕ)) (bs : List ℕ) → length bs ≡ 0 → tokens_after 0 at awaited bs ≡ []
unfolding tokens_after
tokens-none at awaited [] h = refl
tokens-none at awaited (b ∷ bs) h = absurd (omega arith)

-- the first bytes, and what is left of the others
whole : (m : ℕ) (b : ℕ) (bs : List ℕ) → 0 < m → take m (b ∷ bs) ++ drop (m - 1) bs ≡ b ∷ bs
whole zero b bs h = absurd (omega arith)
whole (suc m) b bs h = let e : suc m - 1 ≡ m = omega arith in rw e (ap (λ r. b ∷ r) (take-append-drop m bs))

joined-after : (n at : ℕ) (awaited : Option (List ℕ)) (bs : List ℕ) → flat_map (λ t. t.slice) (tokens_after n at awaited bs) ≡ drop n bs
unfolding tokens_after
joined-after zero at awaited [] = refl
joined-after (suc n) at awaited [] = refl
joined-after (suc n) at awaited (b ∷ bs) = joined-after n (at + 1) awaited bs
joined-after zero at awaited (b ∷ bs) =
    ap (λ r. take (piece_at awaited (b ∷ bs)).len (b ∷ bs) ++ r) (joined-after ((piece_at awaited (b ∷ bs)).len - 1) (at + 1) (raw_after (piece_at awaited (b ∷ bs)).kind) bs)
    ∙ whole (piece_at awaited (b ∷ bs)).len b bs (piece-cut awaited (b ∷ bs) (omega arith)).some

placed-after : (n at : ℕ) (awaited : Option (List ℕ)) (bs : List ℕ) → ArePlaced (at + n) (tokens_after n at awaited bs)
unfolding tokens_after
placed-after zero at awaited [] = tt
placed-after (suc n) at awaited [] = tt
placed-after (suc n) at awaited (b ∷ bs) = subst (λ m. ArePlaced m (tokens_after n (at + 1) awaited bs)) (let e : at + 1 + n ≡ at + suc n = omega arith in e) (placed-after n (at + 1) awaited bs)
placed-after zero at awaited (b ∷ bs) =
    let cut = piece-cut awaited (b ∷ bs) (omega arith) in
    let len : length (take (piece_at awaited (b ∷ bs)).len (b ∷ bs)) ≡ (piece_at awaited (b ∷ bs)).len = length-take-le (piece_at awaited (b ∷ bs)).len (b ∷ bs) cut.within in
    let e : at + 1 + ((piece_at awaited (b ∷ bs)).len - 1) ≡ at + 0 + length (take (piece_at awaited (b ∷ bs)).len (b ∷ bs)) = omega (arith, cut.some, len) in
    (sym (add-zero at), subst (λ m. ArePlaced m (tokens_after ((piece_at awaited (b ∷ bs)).len - 1) (at + 1) (raw_after (piece_at awaited (b ∷ bs)).kind) bs)) e (placed-after ((piece_at awaited (b ∷ bs)).len - 1) (at + 1) (raw_after (piece_at awaited (b ∷ bs)).kind) bs))

pub tokens-joined : (bs : List ℕ) → flat_map (λ t. t.slice) (tokens_after 0 0 None bs) ≡ bs
tokens-joined bs = joined-after 0 0 None bs

pub tokens-placed : (bs : List ℕ) → ArePlaced 0 (tokens_after 0 0 None bs)
tokens-placed bs = placed-after 0 0 None bs
