-- The last character before a place, and faces without pairs.
use Rattle.std.proofs.Common.{◌≡◌, ℕ, suc, ◌+◌, ◌-◌, ◌≤◌, ◌<◌, true, false, List, [], Option, None, Some, ◌∷◌, ◌==◌, not, pos, length, refl, ap, ◌∙◌, arith}
use Rattle.std.proofs.lemmas.Bool.Decides.{nat_tests}
use Rattle.std.proofs.lemmas.Int.{ints}
use Rattle.metrics.specs.Face.{FontFace, advance_number, change_of, paired_number}
use Rattle.metrics.specs.Pen.{PenView}
use Rattle.metrics.specs.Widths.{begun_at, char_after, is_paired, last_from, last_with, width_after}

-- one more byte
pub last_step : (text : List ℕ) (begin k : ℕ) → begin ≤ k →
    last_from text begin (suc k - begin) ≡ last_with (last_from text begin (k - begin)) (begun_at text k)
last_step text begin k h =
    let e : suc k - begin ≡ suc (k - begin) = omega arith in
    let f : begin + (k - begin) ≡ k = omega arith in
    ap (last_from text begin) e ∙ ap (λ (n : ℕ). last_with (last_from text begin (k - begin)) (begun_at text n)) f

-- where a byte begins a character that may stand first, it is the last one
pub last_here : (last : Option ℕ) (c : ℕ) → is_paired c ≡ true → last_with last (Some c) ≡ Some c
last_here last c h = rw h refl

-- and else the last one stays
pub last_stays : (last : Option ℕ) (c : ℕ) → is_paired c ≡ false → last_with last (Some c) ≡ last
last_stays last c h = rw h refl

-- without pairs an advance is that of the character alone
no_change : (f : FontFace) (a c : ℕ) → f.pairs ≡ [] → change_of f a c ≡ pos 0
unfolding change_of
no_change f a c e = rw e refl

pub plain_number : (f : FontFace) (last : Option ℕ) (c : ℕ) → f.pairs ≡ [] → paired_number f last c ≡ advance_number f c
unfolding paired_number
plain_number f None c e = refl
plain_number f (Some a) c e = rw (no_change f a c e) (omega (arith, ints))

pub plain_after : (p : PenView) (last o : Option ℕ) → p.face.pairs ≡ [] → width_after p last o ≡ width_after p None o
unfolding char_after
plain_after p last None e = refl
plain_after p last (Some c) e = rw (plain_number p.face last c e, plain_number p.face None c e) refl

-- a list that isn't said to have items has none
pub no_pairs : {X : Type 0} → (xs : List X) → not (length xs == 0) ≡ false → xs ≡ []
no_pairs [] h = refl
no_pairs (x ∷ xs) h = absurd (let e : length (x ∷ xs) ≡ suc (length xs) = refl in grind (arith, nat_tests))

-- each ASCII character may stand first in a pair
pub ascii_paired : (c : ℕ) → c < 128 → is_paired c ≡ true
unfolding is_paired
ascii_paired c h =
    let e : (c == 173) ≡ false = grind (arith, nat_tests) in
    let f : (c == 8203) ≡ false = grind (arith, nat_tests) in
    rw (e, f) refl
