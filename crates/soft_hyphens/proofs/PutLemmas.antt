-- Soft hyphens that are put, character by character.
use Rattle.std.proofs.Common.{◌≡◌, ◌∙◌, ℕ, suc, ◌+◌, ◌≤◌, Bool, true, false, cond, List, [], ◌∷◌, ◌++◌, length, Result, Ok, Err, refl, sym, ap, ap₂, arith, append_assoc}
use Rattle.std.specs.Char.{encode_utf8}
use Rattle.std.specs.Str.{chars, encode_utf8_all}
use Rattle.std.specs.Prelude.{OnOk}
use Rattle.bk_num.specs.Chars.{soft_hyphen}
use Rattle.soft_hyphens.specs.Hyphenated.{encoded, put_from, put_in}

-- UTF-8 as std has it
pub encoded-std : (cs : List ℕ) → encoded cs ≡ encode_utf8_all cs
encoded-std [] = refl
encoded-std (c ∷ cs) = ap (λ (l : List ℕ). encode_utf8 c ++ l) (encoded-std cs)

pub encoded-append : (xs ys : List ℕ) → encoded (xs ++ ys) ≡ encoded xs ++ encoded ys
encoded-append [] ys = refl
encoded-append (x ∷ xs) ys = ap (λ (l : List ℕ). encode_utf8 x ++ l) (encoded-append xs ys) ∙ sym (append_assoc (encode_utf8 x) (encoded xs) (encoded ys))

pub put-append : (here : ℕ → Bool) (at : ℕ) (xs ys : List ℕ) → put_from here at (xs ++ ys) ≡ put_from here at xs ++ put_from here (at + length xs) ys
put-append here at [] ys = let e : at ≡ at + 0 = omega arith in ap (λ (n : ℕ). put_from here n ys) e
put-append here at (x ∷ xs) ys =
    let e : suc at + length xs ≡ at + length (x ∷ xs) = omega arith in
    let rest : put_from here (suc at) (xs ++ ys) ≡ put_from here (suc at) xs ++ put_from here (at + length (x ∷ xs)) ys =
    put-append here (suc at) xs ys ∙ ap (λ (n : ℕ). put_from here (suc at) xs ++ put_from here n ys) e in
    ap (λ (l : List ℕ). x ∷ cond (here (suc at)) (soft_hyphen ∷ l) l) rest ∙ by (here (suc at))
  where
    by : (b : Bool) → x ∷ cond b (soft_hyphen ∷ (put_from here (suc at) xs ++ put_from here (at + length (x ∷ xs)) ys)) (put_from here (suc at) xs ++ put_from here (at + length (x ∷ xs)) ys) ≡ (x ∷ cond b (soft_hyphen ∷ put_from here (suc at) xs) (put_from here (suc at) xs)) ++ put_from here (at + length (x ∷ xs)) ys
    by true = refl
    by false = refl

-- places that are the same give the same texts
put-same : (f g : ℕ → Bool) (at : ℕ) (cs : List ℕ) → ((k : ℕ) → k ≤ at + length cs → f k ≡ g k) → put_from f at cs ≡ put_from g at cs
put-same f g at [] h = refl
put-same f g at (c ∷ cs) h =
    ap₂ (λ (b : Bool) (l : List ℕ). c ∷ cond b (soft_hyphen ∷ l) l) (h (suc at) (omega arith)) (put-same f g (suc at) cs (λ k l. h k (omega arith)))

-- how many characters some texts have
abbrev count_in : List (List ℕ) → ℕ
count_in [] = 0
count_in (t ∷ ts) = length (chars t) + count_in ts

pub put-in-same : (f g : ℕ → Bool) (at : ℕ) (ts : List (List ℕ)) → ((k : ℕ) → k ≤ at + count_in ts → f k ≡ g k) → put_in f at ts ≡ put_in g at ts
put-in-same f g at [] h = refl
put-in-same f g at (t ∷ ts) h =
    ap₂ (λ (x : List ℕ) (l : List (List ℕ)). encoded x ∷ l) (put-same f g at (chars t) (λ k l. h k (omega arith))) (put-in-same f g (at + length (chars t)) ts (λ k l. h k (omega arith)))

-- where nothing is put, characters stay
pub put-none : (here : ℕ → Bool) (at : ℕ) (cs : List ℕ) → ((k : ℕ) → here k ≡ false) → put_from here at cs ≡ cs
put-none here at [] h = refl
put-none here at (c ∷ cs) h = ap₂ (λ (b : Bool) (l : List ℕ). c ∷ cond b (soft_hyphen ∷ l) l) (h (suc at)) (put-none here (suc at) cs h)

pub on-ok-more : {T E : Type 0} (r : Result T E) (P Q : Type 0) → (P → Q) → OnOk r P → OnOk r Q
on-ok-more (Ok x) P Q f h = f h
on-ok-more (Err e) P Q f h = tt
