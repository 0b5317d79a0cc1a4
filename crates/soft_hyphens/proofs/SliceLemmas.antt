-- Pieces of a text that grow character by character, and texts that stand one after the other.
use Rattle.std.proofs.Common.{◌≡◌, ◌∙◌, ℕ, suc, ◌+◌, ◌-◌, ◌*◌, ◌<◌, ◌≤◌, List, [], ◌∷◌, ◌++◌, length, get_or, take, drop, refl, sym, ap, ap₂, subst, arith, append_assoc, append-nil, length-append, ⊎_elim}
use Rattle.std.specs.Prelude.{Some, slice_get}
use Rattle.std.specs.Char.{encode_utf8, len_utf8}
use Rattle.std.specs.List.{slice_range}
use Rattle.std.specs.Str.{chars, encode_utf8_all, IsCharBoundary, IsUtf8}
use Rattle.std.proofs.Math.Seq.{drop-append_seam, take-append_seam}
use Rattle.std.proofs.lemmas.Bool.{cases_lt}
use Rattle.std.proofs.lemmas.List.{drop-drop, drop_all, get_or-drop, length-drop, length-take-le, take_all}
use Rattle.std.proofs.lemmas.List.Folds.{drop_split}
use Rattle.std.proofs.lemmas.Option.{slice_get-get_or}
use Rattle.std.proofs.lemmas.Str.{chars-append, chars-nil, chars_past_char, encodes-chars, IsCharBoundary-past_char, IsUtf8-between, IsUtf8-drop, len_utf8_bounds, length-encode}
use Rattle.inline_text.specs.Joined.{Laid, ends_from, joined}

-- ---- characters

-- what stands up to the end of one more character
pub slice-grows : (text : List ℕ) (from at c : ℕ) (rest : List ℕ) → from ≤ at → drop at text ≡ encode_utf8 c ++ rest → slice_range text from (at + len_utf8 c) ≡ slice_range text from at ++ encode_utf8 c
slice-grows text from at c rest order next =
    let here : List ℕ = slice_range text from at ++ encode_utf8 c in
    let size : length (encode_utf8 c) ≡ len_utf8 c = length-encode c in
    let some = len_utf8_bounds c in
    let left : length (encode_utf8 c ++ rest) ≡ len_utf8 c + length rest = length-append (encode_utf8 c) rest ∙ ap (λ (n : ℕ). n + length rest) size in
    let gone : length text - at ≡ length (encode_utf8 c ++ rest) = sym (length-drop at text) ∙ ap (λ (l : List ℕ). length l) next in
    let inside : at ≤ length text = omega (arith, gone, left, some.0) in
    let n : length (slice_range text from at) ≡ at - from = length-take-le (at - from) (drop from text) (omega (arith, length-drop from text)) in
    let both : length here ≡ (at + len_utf8 c) - from = omega (arith, length-append (slice_range text from at) (encode_utf8 c), n, size, order) in
    let all : drop from text ≡ here ++ rest = drop_split text from at order ∙ ap (λ (l : List ℕ). slice_range text from at ++ l) next ∙ sym (append_assoc (slice_range text from at) (encode_utf8 c) rest) in
    ap₂ (λ (k : ℕ) (l : List ℕ). take k l) (sym both) all ∙ take-append_seam here rest

-- the end of one more character
pub next-boundary : (text : List ℕ) (at c : ℕ) (rest : List ℕ) → IsUtf8 text → IsCharBoundary text at → drop at text ≡ encode_utf8 c ++ rest → IsCharBoundary text (at + len_utf8 c)
next-boundary text at c rest u b next = IsCharBoundary-past_char text rest at c b.0 (IsUtf8-drop text at u b) next

-- the characters of what stands up to there
pub chars-grow : (text : List ℕ) (from at c : ℕ) (rest : List ℕ) → IsUtf8 text → from ≤ at → IsCharBoundary text from → IsCharBoundary text at → drop at text ≡ encode_utf8 c ++ rest → chars (slice_range text from (at + len_utf8 c)) ≡ chars (slice_range text from at) ++ c ∷ []
chars-grow text from at c rest u order b e next =
    let step : at ≤ at + len_utf8 c = omega arith in
    let size : (at + len_utf8 c) - at ≡ length (encode_utf8 c) = omega (arith, length-encode c) in
    let is : take ((at + len_utf8 c) - at) (drop at text) ≡ encode_utf8 c = ap₂ (λ (k : ℕ) (l : List ℕ). take k l) size next ∙ take-append_seam (encode_utf8 c) rest in
    let one : IsUtf8 (encode_utf8 c) = subst IsUtf8 is (IsUtf8-between text at (at + len_utf8 c) u step e (next-boundary text at c rest u e next)) in
    let before : IsUtf8 (slice_range text from at) = IsUtf8-between text from at u order b e in
    ap chars (slice-grows text from at c rest order next) ∙ chars-append (slice_range text from at) (encode_utf8 c) before
    ∙ ap (λ (l : List ℕ). chars (slice_range text from at) ++ l) (chars_past_char (encode_utf8 c) [] c one (sym (append-nil (encode_utf8 c))) ∙ ap (λ (l : List ℕ). c ∷ l) chars-nil)

most-bytes : (cs : List ℕ) → length (encode_utf8_all cs) ≤ 4 * length cs
most-bytes [] = omega arith
most-bytes (c ∷ cs) =
    let rest = most-bytes cs in
    let some = len_utf8_bounds c in
    omega (arith, rest, some.1, length-append (encode_utf8 c) (encode_utf8_all cs), length-encode c)

-- a character has at most four bytes
pub few-bytes : (text : List ℕ) → IsUtf8 text → length text ≤ 4 * length (chars text)
few-bytes text u = omega (arith, most-bytes (chars text), ap (λ (l : List ℕ). length l) (encodes-chars text u))

-- ---- pieces

-- what stands at an offset is a piece, and what stands after it
pub piece-first : (text : List ℕ) (at end : ℕ) → drop at text ≡ slice_range text at end ++ drop (at + length (slice_range text at end)) text
piece-first text at end = ⊎_elim
    (λ (l : length text < end). late l)
    (λ (h : end ≤ length text). early h)
    (cases_lt (length text) end)
  where
    none : length (drop at text) ≡ length text - at
    none = length-drop at text

    late : length text < end → drop at text ≡ slice_range text at end ++ drop (at + length (slice_range text at end)) text
    late l =
        let all : slice_range text at end ≡ drop at text = take_all (end - at) (drop at text) (omega (arith, none)) in
        let past : drop (at + length (slice_range text at end)) text ≡ [] = drop_all (at + length (slice_range text at end)) text (omega (arith, none, ap (λ (l : List ℕ). length l) all)) in
        sym (append-nil (drop at text)) ∙ ap₂ (λ (x y : List ℕ). x ++ y) (sym all) (sym past)

    early : end ≤ length text → drop at text ≡ slice_range text at end ++ drop (at + length (slice_range text at end)) text
    early h = ⊎_elim
        (λ (l : at < end).
        let n : length (slice_range text at end) ≡ end - at = length-take-le (end - at) (drop at text) (omega (arith, none)) in
        let to : at + length (slice_range text at end) ≡ end = omega (arith, n) in
        drop_split text at end (omega arith) ∙ ap (λ (k : ℕ). slice_range text at end ++ drop k text) (sym to))
        (λ (k : end ≤ at).
        let z : end - at ≡ 0 = omega arith in
        let nil : slice_range text at end ≡ [] = ap (λ (n : ℕ). take n (drop at text)) z in
        let to : at + length (slice_range text at end) ≡ at = omega (arith, ap (λ (l : List ℕ). length l) nil) in
        ap₂ (λ (l : List ℕ) (n : ℕ). l ++ drop n text) (sym nil) (sym to))
        (cases_lt at end)

-- the texts from a number on begin at an offset
pub record BeginAt (l : Laid) (ts : List (List ℕ)) (i at : ℕ) : Type 0 where
  pub bytes : drop at l.bytes ≡ joined (drop i ts)
  pub ends : drop i l.ends ≡ ends_from at (drop i ts)

pub begin-first : (text ends : List ℕ) (ts : List (List ℕ)) → text ≡ joined ts → ends ≡ ends_from 0 ts → BeginAt (record { bytes = text; ends = ends }) ts 0 0
begin-first text ends ts t e = record { bytes = t; ends = e }

pub drop-next : {A : Type 0} (xs : List A) (i : ℕ) (x : A) (more : List A) → drop i xs ≡ x ∷ more → drop (i + 1) xs ≡ more
drop-next xs i x more e = sym (drop-drop 1 i xs) ∙ ap (drop 1) e

drop-past : (xs : List ℕ) (i : ℕ) (s tail : List ℕ) → drop i xs ≡ s ++ tail → drop (i + length s) xs ≡ tail
drop-past xs i s tail e = sym (drop-drop (length s) i xs) ∙ ap (drop (length s)) e ∙ drop-append_seam s tail

-- the text with a number stands first among those from its number on, and the others begin after it
pub record IsNext (l : Laid) (ts : List (List ℕ)) (i at : ℕ) (t : List ℕ) : Type 0 where
  pub first : drop i ts ≡ t ∷ drop (i + 1) ts
  pub end : get_or l.ends i 0 ≡ at + length t
  pub others : BeginAt l ts (i + 1) (at + length t)

pub next-is : (l : Laid) (ts : List (List ℕ)) (i at : ℕ) → BeginAt l ts i at → i < length l.ends → IsNext l ts i at (slice_range l.bytes at (get_or l.ends i 0))
next-is l ts i at b inside = by (drop i ts) refl
  where
    by : (rest : List (List ℕ)) → drop i ts ≡ rest → IsNext l ts i at (slice_range l.bytes at (get_or l.ends i 0))
    by [] e =
        let none : drop i l.ends ≡ [] = b.ends ∙ ap (ends_from at) e in
        absurd (omega (arith, inside, length-drop i l.ends, ap (λ (x : List ℕ). length x) none))
    by (t ∷ more) e =
        let bytes : drop at l.bytes ≡ t ++ joined more = b.bytes ∙ ap joined e in
        let ends : drop i l.ends ≡ (at + length t) ∷ ends_from (at + length t) more = b.ends ∙ ap (ends_from at) e in
        let zero_more : i + 0 ≡ i = omega arith in
        let end : get_or l.ends i 0 ≡ at + length t = ap (λ (k : ℕ). get_or l.ends k 0) (sym zero_more) ∙ sym (get_or-drop i l.ends 0 0) ∙ ap (λ (x : List ℕ). get_or x 0 0) ends in
        let size : get_or l.ends i 0 - at ≡ length t = omega (arith, end) in
        let is : slice_range l.bytes at (get_or l.ends i 0) ≡ t = ap₂ (λ (k : ℕ) (x : List ℕ). take k x) size bytes ∙ take-append_seam t (joined more) in
        let n : length (slice_range l.bytes at (get_or l.ends i 0)) ≡ length t = ap (λ (x : List ℕ). length x) is in
        let rest : drop (i + 1) ts ≡ more = drop-next ts i t more e in
        let far : drop (at + length t) l.bytes ≡ joined more = drop-past l.bytes at t (joined more) bytes in
        record {
          end = omega (arith, end, n);
          first = e ∙ ap₂ (λ (x : List ℕ) (y : List (List ℕ)). x ∷ y) (sym is) (sym rest);
          others = record {
            bytes = ap (λ (k : ℕ). drop (at + k) l.bytes) n ∙ far ∙ ap joined (sym rest);
            ends = drop-next l.ends i (at + length t) (ends_from (at + length t) more) ends ∙ ap₂ (λ (k : ℕ) (y : List (List ℕ)). ends_from (at + k) y) (sym n) (sym rest);
          };
        }

-- what stands first from a place on is what stands there
pub get-first : {A : Type 0} (xs : List A) (i : ℕ) (x : A) (more : List A) → drop i xs ≡ x ∷ more → slice_get xs i ≡ Some x
get-first xs i x more e =
    let at : i + 0 ≡ i = omega arith in
    let some : length (drop i xs) ≡ suc (length more) = ap (λ l. length l) e in
    slice_get-get_or xs i x (omega (arith, some, length-drop i xs))
    ∙ ap Some (ap (λ (k : ℕ). get_or xs k x) (sym at) ∙ sym (get_or-drop i xs 0 x) ∙ ap (λ l. get_or l 0 x) e)

-- after the last end there is no text
pub no-texts : (l : Laid) (ts : List (List ℕ)) (i at : ℕ) → BeginAt l ts i at → length l.ends ≤ i → drop i ts ≡ []
no-texts l ts i at b past = by (drop i ts) refl
  where
    by : (rest : List (List ℕ)) → drop i ts ≡ rest → drop i ts ≡ []
    by [] e = e
    by (t ∷ more) e =
        let some : drop i l.ends ≡ ends_from at (t ∷ more) = b.ends ∙ ap (ends_from at) e in
        absurd (omega (arith, past, length-drop i l.ends, ap (λ (x : List ℕ). length x) some))
