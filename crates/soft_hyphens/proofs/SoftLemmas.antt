-- A text with soft hyphens at the offsets of some of its places.
use Rattle.std.proofs.Common.{◌≡◌, ◌∙◌, ℕ, suc, ◌+◌, ◌-◌, ◌<◌, ◌≤◌, Bool, true, false, cond, leb, List, [], ◌∷◌, ◌++◌, length, take, drop, map, refl, sym, ap, ap₂, arith, add-one, append_assoc, append-nil, length-append}
use Rattle.std.specs.Prelude.{filter}
use Rattle.std.specs.Char.{encode_utf8, len_utf8}
use Rattle.std.specs.List.{prefix_len, range_with_len, slice_range}
use Rattle.std.proofs.Math.Seq.{drop-append_seam, take-append_seam}
use Rattle.std.proofs.lemmas.Bool.Decides.{nat_tests}
use Rattle.std.proofs.lemmas.Str.{drop_past_char, len_utf8_bounds, length-encode}
use Rattle.bk_num.specs.Chars.{soft_hyphen}
use Rattle.hyphen.specs.Points.{offset_of}
use Rattle.hyphen.proofs.PointLemmas.{offset_none}
use Rattle.soft_hyphens.specs.Hyphenated.{encoded, put_from}
use Rattle.soft_hyphens.specs.Pass.{offsets_in, soft_bytes, softened}
use Rattle.soft_hyphens.proofs.OffsetLemmas.{offset-cons}
use Rattle.soft_hyphens.proofs.SliceLemmas.{slice-grows}

-- the byte offsets of the places after one at which something holds, character by character
abbrev pub soft_offsets : (ℕ → Bool) → ℕ → ℕ → List ℕ → List ℕ
soft_offsets here place at [] = []
soft_offsets here place at (c ∷ cs) =
    cond (here (suc place)) ((at + len_utf8 c) ∷ soft_offsets here (suc place) (at + len_utf8 c) cs) (soft_offsets here (suc place) (at + len_utf8 c) cs)

-- ---- they are those of all places

by-chars : (here : ℕ → Bool) (f : ℕ → ℕ) (place at : ℕ) (cs : List ℕ) → ((k : ℕ) → k ≤ length cs → f (place + k) ≡ at + offset_of cs k) → map f (filter here (range_with_len (suc place) (length cs))) ≡ soft_offsets here place at cs
by-chars here f place at [] h = refl
by-chars here f place at (c ∷ cs) h =
    let one : place + 1 ≡ suc place = omega arith in
    let first : f (suc place) ≡ at + len_utf8 c = ap f (sym one) ∙ h 1 (omega arith) ∙ omega (arith, offset-cons c cs 0, offset_none cs) in
    let more : map f (filter here (range_with_len (suc (suc place)) (length cs))) ≡ soft_offsets here (suc place) (at + len_utf8 c) cs =
    by-chars here f (suc place) (at + len_utf8 c) cs
    (λ k l. let e : suc place + k ≡ place + suc k = omega arith in ap f e ∙ h (suc k) (omega (arith, l)) ∙ omega (arith, offset-cons c cs k)) in
    ap (λ (n : ℕ). map f (cond (here (suc place)) (suc place ∷ filter here (range_with_len n (length cs))) (filter here (range_with_len n (length cs))))) (add-one (suc place))
    ∙ by (here (suc place)) first more
  where
    by : (b : Bool) → f (suc place) ≡ at + len_utf8 c → map f (filter here (range_with_len (suc (suc place)) (length cs))) ≡ soft_offsets here (suc place) (at + len_utf8 c) cs →
        map f (cond b (suc place ∷ filter here (range_with_len (suc (suc place)) (length cs))) (filter here (range_with_len (suc (suc place)) (length cs))))
        ≡ cond b ((at + len_utf8 c) ∷ soft_offsets here (suc place) (at + len_utf8 c) cs) (soft_offsets here (suc place) (at + len_utf8 c) cs)
    by true first more = ap₂ (λ (x : ℕ) (l : List ℕ). x ∷ l) first more
    by false first more = more

pub all-offsets : (here : ℕ → Bool) (cs : List ℕ) → here 0 ≡ false → offsets_in here cs ≡ soft_offsets here 0 0 cs
all-offsets here cs none =
    let f : ℕ → ℕ = offset_of cs in
    ap (λ (n : ℕ). map f (filter here (range_with_len 0 n))) (add-one (length cs))
    ∙ ap (λ (b : Bool). map f (cond b (0 ∷ filter here (range_with_len 1 (length cs))) (filter here (range_with_len 1 (length cs))))) none
    ∙ by-chars here f 0 0 cs (λ k l. let e : 0 + k ≡ k = omega arith in ap f e ∙ sym (same (offset_of cs k)))
  where
    same : (n : ℕ) → 0 + n ≡ n
    same n = omega arith

-- ---- those of the first characters, and the others

bytes-cons : (c : ℕ) (cs : List ℕ) (at : ℕ) → (at + len_utf8 c) + length (encoded cs) ≡ at + length (encoded (c ∷ cs))
bytes-cons c cs at = omega (arith, length-append (encode_utf8 c) (encoded cs), length-encode c)

pub soft-append : (here : ℕ → Bool) (place at : ℕ) (xs ys : List ℕ) → soft_offsets here place at (xs ++ ys) ≡ soft_offsets here place at xs ++ soft_offsets here (place + length xs) (at + length (encoded xs)) ys
soft-append here place at [] ys =
    let p : place ≡ place + 0 = omega arith in
    let a : at ≡ at + 0 = omega arith in
    ap₂ (λ (x y : ℕ). soft_offsets here x y ys) p a
soft-append here place at (x ∷ xs) ys =
    let p : suc place + length xs ≡ place + length (x ∷ xs) = omega arith in
    ap (λ (l : List ℕ). cond (here (suc place)) ((at + len_utf8 x) ∷ l) l)
    (soft-append here (suc place) (at + len_utf8 x) xs ys
    ∙ ap₂ (λ (m n : ℕ). soft_offsets here (suc place) (at + len_utf8 x) xs ++ soft_offsets here m n ys) p (bytes-cons x xs at))
    ∙ by (here (suc place)) (soft_offsets here (suc place) (at + len_utf8 x) xs) (soft_offsets here (place + length (x ∷ xs)) (at + length (encoded (x ∷ xs))) ys)
  where
    by : (b : Bool) (l m : List ℕ) → cond b ((at + len_utf8 x) ∷ (l ++ m)) (l ++ m) ≡ cond b ((at + len_utf8 x) ∷ l) l ++ m
    by true l m = refl
    by false l m = refl

-- none of the others is in front of the end of the first
none-upto : (here : ℕ → Bool) (place at end : ℕ) (cs : List ℕ) → end ≤ at → prefix_len (λ (o : ℕ). leb o end) (soft_offsets here place at cs) ≡ 0
none-upto here place at end [] h = refl
none-upto here place at end (c ∷ cs) h =
    let some = len_utf8_bounds c in
    let past : leb (at + len_utf8 c) end ≡ false = low (at + len_utf8 c) end (omega (arith, some.0)) in
    by (here (suc place)) past (none-upto here (suc place) (at + len_utf8 c) end cs (omega arith))
  where
    low : (a b : ℕ) → b < a → leb a b ≡ false
    low a b h = grind (arith, nat_tests)

    by : (b : Bool) → leb (at + len_utf8 c) end ≡ false → prefix_len (λ (o : ℕ). leb o end) (soft_offsets here (suc place) (at + len_utf8 c) cs) ≡ 0 →
        prefix_len (λ (o : ℕ). leb o end) (cond b ((at + len_utf8 c) ∷ soft_offsets here (suc place) (at + len_utf8 c) cs) (soft_offsets here (suc place) (at + len_utf8 c) cs)) ≡ 0
    by true past rest = ap (λ (t : Bool). cond t (1 + prefix_len (λ (o : ℕ). leb o end) (soft_offsets here (suc place) (at + len_utf8 c) cs)) 0) past
    by false past rest = rest

-- so many aren't after the end of the first
pub count-is : (here : ℕ → Bool) (place at end : ℕ) (xs ys : List ℕ) → end ≡ at + length (encoded xs) → prefix_len (λ (o : ℕ). leb o end) (soft_offsets here place at (xs ++ ys)) ≡ length (soft_offsets here place at xs)
count-is here place at end [] ys e = none-upto here place at end ys (omega (arith, e))
count-is here place at end (x ∷ xs) ys e =
    let upto : leb (at + len_utf8 x) end ≡ true = high (at + len_utf8 x) end (omega (arith, e, bytes-cons x xs at)) in
    by (here (suc place)) upto (count-is here (suc place) (at + len_utf8 x) end xs ys (omega (arith, e, bytes-cons x xs at)))
  where
    high : (a b : ℕ) → a ≤ b → leb a b ≡ true
    high a b h = grind (arith, nat_tests)

    all : List ℕ
    all = soft_offsets here (suc place) (at + len_utf8 x) (xs ++ ys)

    front : List ℕ
    front = soft_offsets here (suc place) (at + len_utf8 x) xs

    by : (b : Bool) → leb (at + len_utf8 x) end ≡ true → prefix_len (λ (o : ℕ). leb o end) all ≡ length front →
        prefix_len (λ (o : ℕ). leb o end) (cond b ((at + len_utf8 x) ∷ all) all) ≡ length (cond b ((at + len_utf8 x) ∷ front) front)
    by true upto rest =
        let one : 1 + length front ≡ suc (length front) = omega arith in
        ap (λ (t : Bool). cond t (1 + prefix_len (λ (o : ℕ). leb o end) all) 0) upto ∙ ap (λ (n : ℕ). 1 + n) rest ∙ one
    by false upto rest = rest

-- the first of some offsets, and the others
pub record IsCut (offsets : List ℕ) (count : ℕ) (first others : List ℕ) : Type 0 where
  pub front : take count offsets ≡ first
  pub back : drop count offsets ≡ others

pub cut-is : (here : ℕ → Bool) (place at end : ℕ) (xs ys offsets : List ℕ) → end ≡ at + length (encoded xs) → offsets ≡ soft_offsets here place at (xs ++ ys) → IsCut offsets (prefix_len (λ (o : ℕ). leb o end) offsets) (soft_offsets here place at xs) (soft_offsets here (place + length xs) end ys)
cut-is here place at end xs ys offsets e is =
    let front : List ℕ = soft_offsets here place at xs in
    let back : List ℕ = soft_offsets here (place + length xs) end ys in
    let count : prefix_len (λ (o : ℕ). leb o end) offsets ≡ length front = ap (prefix_len (λ (o : ℕ). leb o end)) is ∙ count-is here place at end xs ys e in
    let both : offsets ≡ front ++ back = is ∙ soft-append here place at xs ys ∙ ap (λ (n : ℕ). front ++ soft_offsets here (place + length xs) n ys) (sym e) in
    record {
      front = ap₂ (λ (n : ℕ) (l : List ℕ). take n l) count both ∙ take-append_seam front back;
      back = ap₂ (λ (n : ℕ) (l : List ℕ). drop n l) count both ∙ drop-append_seam front back;
    }

-- ---- a text with soft hyphens there

empty-slice : (text : List ℕ) (at : ℕ) → slice_range text at at ≡ []
empty-slice text at = let z : at - at ≡ 0 = omega arith in ap (λ (n : ℕ). take n (drop at text)) z

waits : (here : ℕ → Bool) (text : List ℕ) (put place at to : ℕ) (cs tail : List ℕ) → put ≤ at → drop at text ≡ encoded cs ++ tail → to ≡ at + length (encoded cs) → softened text put (soft_offsets here place at cs) to ≡ slice_range text put at ++ encoded (put_from here place cs)
waits here text put place at to [] tail order e end = ap (slice_range text put) (omega (arith, end)) ∙ sym (append-nil (slice_range text put at))
waits here text put place at to (c ∷ cs) tail order e end =
    let next : ℕ = at + len_utf8 c in
    let first : drop at text ≡ encode_utf8 c ++ (encoded cs ++ tail) = e ∙ append_assoc (encode_utf8 c) (encoded cs) tail in
    let others : drop next text ≡ encoded cs ++ tail = drop_past_char text (encoded cs ++ tail) at c first in
    let last : to ≡ next + length (encoded cs) = omega (arith, end, bytes-cons c cs at) in
    let grown : slice_range text put next ≡ slice_range text put at ++ encode_utf8 c = slice-grows text put at c (encoded cs ++ tail) order first in
    by (here (suc place)) grown
    (waits here text next (suc place) next to cs tail (omega arith) others last ∙ ap (λ (l : List ℕ). l ++ encoded (put_from here (suc place) cs)) (empty-slice text next))
    (waits here text put (suc place) next to cs tail (omega arith) others last)
  where
    rest : List ℕ
    rest = put_from here (suc place) cs

    os : List ℕ
    os = soft_offsets here (suc place) (at + len_utf8 c) cs

    by : (b : Bool) → slice_range text put (at + len_utf8 c) ≡ slice_range text put at ++ encode_utf8 c → softened text (at + len_utf8 c) os to ≡ encoded rest → softened text put os to ≡ slice_range text put (at + len_utf8 c) ++ encoded rest →
        softened text put (cond b ((at + len_utf8 c) ∷ os) os) to ≡ slice_range text put at ++ encoded (c ∷ cond b (soft_hyphen ∷ rest) rest)
    by true grown after more = ap₂ (λ (x y : List ℕ). x ++ (soft_bytes ++ y)) grown after ∙ append_assoc (slice_range text put at) (encode_utf8 c) (soft_bytes ++ encoded rest)
    by false grown after more = more ∙ ap (λ (x : List ℕ). x ++ encoded rest) grown ∙ append_assoc (slice_range text put at) (encode_utf8 c) (encoded rest)

pub softened-is : (here : ℕ → Bool) (text : List ℕ) (place at to : ℕ) (cs tail : List ℕ) → drop at text ≡ encoded cs ++ tail → to ≡ at + length (encoded cs) → softened text at (soft_offsets here place at cs) to ≡ encoded (put_from here place cs)
softened-is here text place at to cs tail e end =
    waits here text at place at to cs tail (omega arith) e end ∙ ap (λ (l : List ℕ). l ++ encoded (put_from here place cs)) (empty-slice text at)
