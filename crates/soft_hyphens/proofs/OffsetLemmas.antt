-- Byte offsets of places.
use Rattle.std.proofs.Common.{◌≡◌, ◌∙◌, ℕ, zero, suc, ◌+◌, ◌<◌, ◌≤◌, List, [], ◌∷◌, ◌++◌, length, get_or, take, drop, map, sym, ap, ap₂, refl, subst, arith, append_assoc, append-nil, ⊎_elim}
use Rattle.std.specs.Char.{encode_utf8, len_utf8, to_ascii_lowercase}
use Rattle.std.specs.List.{All, slice_range, sum_by, take-map}
use Rattle.std.specs.Str.{chars, IsCharBoundary, IsUtf8}
use Rattle.std.proofs.Math.Seq.{take-add}
use Rattle.std.proofs.lemmas.Bool.{cases_lt}
use Rattle.std.proofs.lemmas.Bool.Decides.{nat_tests}
use Rattle.std.proofs.lemmas.List.{take-take}
use Rattle.std.proofs.lemmas.List.Elements.{All-map}
use Rattle.std.proofs.lemmas.List.Folds.{drop_split}
use Rattle.std.proofs.lemmas.List.Sums.{sum_by-append, sum_by-cons, sum_by_more}
use Rattle.std.proofs.lemmas.Str.{encodes-chars, IsCharBoundary-start, IsUtf8-between, drop_past_char, len_utf8_ascii}
use Rattle.hyphen.specs.Points.{letters_of, offset_of, places_of, points_of}
use Rattle.hyphen.proofs.PointLemmas.{offset_none}
use Rattle.soft_hyphens.specs.Hyphenated.{encoded}
use Rattle.soft_hyphens.specs.Known.{word_points}
use Rattle.soft_hyphens.proofs.PutLemmas.{encoded-std}
use Rattle.soft_hyphens.proofs.SliceLemmas.{next-boundary}

pub offset-empty : (k : ℕ) → offset_of [] k ≡ 0
unfolding offset_of
offset-empty zero = refl
offset-empty (suc k) = refl

pub offset-cons : (c : ℕ) (cs : List ℕ) (k : ℕ) → offset_of (c ∷ cs) (suc k) ≡ len_utf8 c + offset_of cs k
unfolding offset_of
offset-cons c cs k = sum_by-cons len_utf8 c (take k cs)

-- one character further
pub offset-next : (cs : List ℕ) (k : ℕ) → k < length cs → offset_of cs (k + 1) ≡ offset_of cs k + len_utf8 (get_or cs k 0)
unfolding offset_of
offset-next cs k h = sum_by_more len_utf8 cs k 0 h

-- further by some characters
pub offset-from : (cs : List ℕ) (from k : ℕ) → offset_of cs (from + k) ≡ offset_of cs from + offset_of (drop from cs) k
unfolding offset_of
offset-from cs from k = ap (sum_by len_utf8) (take-add from k cs) ∙ sum_by-append len_utf8 (take from cs) (take k (drop from cs))

-- among the first characters
pub offset-within : (cs : List ℕ) (n k : ℕ) → k ≤ n → offset_of (take n cs) k ≡ offset_of cs k
unfolding offset_of
offset-within cs n k h = ap (sum_by len_utf8) (take-take k n cs h)

-- ---- letters in lower case

lower-ascii : (c : ℕ) → c < 128 → to_ascii_lowercase c < 128
lower-ascii c l = grind (arith, nat_tests)

lower-stays : (c : ℕ) → 128 ≤ c → to_ascii_lowercase c ≡ c
lower-stays c h = grind (arith, nat_tests)

lower-len : (c : ℕ) → len_utf8 (to_ascii_lowercase c) ≡ len_utf8 c
lower-len c = ⊎_elim
    (λ (l : c < 128). len_utf8_ascii (to_ascii_lowercase c) (lower-ascii c l) ∙ sym (len_utf8_ascii c l))
    (λ (h : 128 ≤ c). ap len_utf8 (lower-stays c h))
    (cases_lt c 128)

lower-sum : (cs : List ℕ) → sum_by len_utf8 (map to_ascii_lowercase cs) ≡ sum_by len_utf8 cs
lower-sum [] = refl
lower-sum (c ∷ cs) =
    sum_by-cons len_utf8 (to_ascii_lowercase c) (map to_ascii_lowercase cs) ∙ ap₂ (λ (x y : ℕ). x + y) (lower-len c) (lower-sum cs) ∙ sym (sum_by-cons len_utf8 c cs)

-- a letter in lower case has as many bytes
pub offset-lower : (cs : List ℕ) (k : ℕ) → offset_of (map to_ascii_lowercase cs) k ≡ offset_of cs k
unfolding offset_of
offset-lower cs k = ap (sum_by len_utf8) (take-map to_ascii_lowercase k cs) ∙ lower-sum (take k cs)

-- ---- where a text may be cut

-- at each of its characters
stands : (text : List ℕ) (at k : ℕ) (cs tail : List ℕ) → IsUtf8 text → IsCharBoundary text at → drop at text ≡ encoded cs ++ tail → IsCharBoundary text (at + offset_of cs k)
stands text at zero cs tail u b e = subst (IsCharBoundary text) (omega (arith, offset_none cs)) b
stands text at (suc k) [] tail u b e = subst (IsCharBoundary text) (omega (arith, offset-empty (suc k))) b
stands text at (suc k) (c ∷ cs) tail u b e =
    let here : drop at text ≡ encode_utf8 c ++ (encoded cs ++ tail) = e ∙ append_assoc (encode_utf8 c) (encoded cs) tail in
    let further : (at + len_utf8 c) + offset_of cs k ≡ at + offset_of (c ∷ cs) (suc k) = omega (arith, offset-cons c cs k) in
    subst (IsCharBoundary text) further
    (stands text (at + len_utf8 c) k cs tail u (next-boundary text at c (encoded cs ++ tail) u b here) (drop_past_char text (encoded cs ++ tail) at c here))

-- the bytes of a text are those of its characters
pub spelled : (text : List ℕ) → IsUtf8 text → encoded (chars text) ≡ text
spelled text u = encoded-std (chars text) ∙ encodes-chars text u

-- the points of a word stand in it
pub points-within : (value : List ℕ → ℕ → ℕ) (word : List ℕ) → IsUtf8 word → All (λ (p : ℕ). p ≤ length word) (word_points value word)
unfolding points_of letters_of
points-within value word u =
    All-map (λ (p : ℕ). p ≤ length word) (offset_of (letters_of word)) (places_of value (letters_of word) 2 3)
    (λ i d h. within (get_or (places_of value (letters_of word) 2 3) i d))
  where
    within : (k : ℕ) → offset_of (letters_of word) k ≤ length word
    within k =
        let bound = stands word 0 k (chars word) [] u (IsCharBoundary-start word u) (sym (append-nil (encoded (chars word)) ∙ spelled word u)) in
        omega (arith, bound.0, offset-lower (chars word) k)

-- a text may be cut at the points of a word that stands in it
pub points-stand : (value : List ℕ → ℕ → ℕ) (text : List ℕ) (from at : ℕ) → IsUtf8 text → from ≤ at → IsCharBoundary text from → IsCharBoundary text at → All (IsCharBoundary text) (map (λ (p : ℕ). from + p) (word_points value (slice_range text from at)))
unfolding points_of letters_of
points-stand value text from at u order b e =
    All-map (IsCharBoundary text) (λ (p : ℕ). from + p) (map (offset_of (letters_of word)) places)
    (All-map (λ (p : ℕ). IsCharBoundary text (from + p)) (offset_of (letters_of word)) places (λ i d h. at_place (get_or places i d)))
  where
    word : List ℕ
    word = slice_range text from at

    places : List ℕ
    places = places_of value (letters_of word) 2 3

    at_place : (k : ℕ) → IsCharBoundary text (from + offset_of (letters_of word) k)
    at_place k =
        let here : drop from text ≡ encoded (chars word) ++ drop at text = drop_split text from at order ∙ ap (λ (l : List ℕ). l ++ drop at text) (sym (spelled word (IsUtf8-between text from at u order b e))) in
        subst (λ (n : ℕ). IsCharBoundary text (from + n)) (sym (offset-lower (chars word) k)) (stands text from k (chars word) (drop at text) u b here)
