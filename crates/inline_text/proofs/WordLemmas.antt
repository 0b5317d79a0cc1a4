-- A word is put whole.
use Rattle.std.proofs.Common.{◌≡◌, ◌∙◌, ℕ, zero, suc, ◌+◌, ◌-◌, ◌<◌, ◌≤◌, Bool, true, false, cond, ◌==◌, ◌||◌, ◌&&◌, not, ◌⊎◌, inl, inr, List, [], ◌∷◌, ◌++◌, length, get_or, take, drop, refl, sym, ap, ap₂, subst, arith, append_assoc, append-nil, length-append}
use Rattle.std.specs.Char.{encode_utf8}
use Rattle.std.specs.Prelude.{encode_utf8_all}
use Rattle.std.specs.List.{slice_range}
use Rattle.std.specs.Str.{chars, IsCharBoundary, IsUtf8}
use Rattle.std.proofs.lemmas.Bool.{cases_lt, eq-eqb}
use Rattle.std.proofs.lemmas.Bool.Decides.{nat_tests}
use Rattle.std.proofs.lemmas.List.{drop-drop, drop_more, get_or-append-add, get_or-drop, get_or-take, length-drop, length-take-le, map-append, take-append-drop}
use Rattle.std.proofs.lemmas.Str.{chars-append, encode_ascii, encodes-chars, IsCharBoundary-after_ascii, IsUtf8-between, IsUtf8-drop, chars_past_char}
use Rattle.bk_num.specs.declared.values.WhiteSpace.{WhiteSpace}
use Rattle.inline_text.specs.Joined.{Laid, laid_on, reached, repeated}
use Rattle.inline_text.specs.Space.{Char, collapses, folds_newlines, class_of, mark, marked}
use Rattle.inline_text.specs.Gaps.{is_joint, is_white, laid, stops, left_from, next_gap, put_of, settled}
use Rattle.inline_text.specs.declared.space.CharClass.TheVariants.{Blank, SoftBreak, HardBreak, Tab, Plain}
use Rattle.inline_text.specs.declared.space.Gap.{Gap}
use Rattle.inline_text.specs.declared.space.Gap.TheVariants.{Open, Pending}
use Rattle.inline_text.proofs.GapLemmas.{goes}

-- a character that is no white space is plain, whatever collapses
plain : (c : ℕ) (s : WhiteSpace) → is_white c ≡ false → class_of c s ≡ Plain
plain c s h = by (c == 32) (c == 9) (c == 10) h
  where
    by : (a b d : Bool) → (a || b || d) ≡ false → cond a (cond (collapses s) Blank Plain) (cond b (cond (collapses s) Blank Tab) (cond d (cond (folds_newlines s) SoftBreak HardBreak) Plain)) ≡ Plain
    by true b d h = absurd (cc)
    by false true d h = absurd (cc)
    by false false true h = absurd (cc)
    by false false false h = refl

white_ascii : (c : ℕ) → is_white c ≡ true → c < 128
white_ascii c h = grind (arith, nat_tests)

-- a character that is white space is one byte
first_not_white : (c : ℕ) (bytes : List ℕ) → is_white (get_or (encode_utf8 c ++ bytes) 0 0) ≡ false → is_white c ≡ false
first_not_white c bytes h = by (is_white c) refl
  where
    by : (b : Bool) → is_white c ≡ b → is_white c ≡ false
    by true e = subst (λ (l : List ℕ). is_white (get_or (l ++ bytes) 0 0) ≡ false) (encode_ascii c (white_ascii c e)) h
    by false e = e

-- a space that stands at a place of some bytes, before another byte that is no white space
abbrev IsSingle : List ℕ → ℕ → Type 0
IsSingle bytes k = (get_or bytes k 0 ≡ 32) × (k + 1 < length bytes) × (is_white (get_or bytes (k + 1) 0) ≡ false)

-- white space is single spaces
abbrev AreSingle : List ℕ → Type 0
AreSingle bytes = (k : ℕ) → k < length bytes → is_white (get_or bytes k 0) ≡ true → IsSingle bytes k

-- a character that is no white space comes first
abbrev BeginsPlain : List ℕ → Type 0
BeginsPlain [] = ⊥
BeginsPlain (c ∷ cs) = is_white c ≡ false

-- the same of characters
abbrev Single : List ℕ → Type 0
Single [] = Unit {0}
Single (c ∷ cs) = (is_white c ≡ true → (c ≡ 32) × BeginsPlain cs) × Single cs

begins_plain : (cs : List ℕ) → 0 < length (encode_utf8_all cs) → is_white (get_or (encode_utf8_all cs) 0 0) ≡ false → BeginsPlain cs
begins_plain [] some h = absurd (omega (arith, some))
begins_plain (c ∷ cs) some h = first_not_white c (encode_utf8_all cs) h

single_first : (c : ℕ) (cs : List ℕ) → AreSingle (encode_utf8 c ++ encode_utf8_all cs) → is_white c ≡ true → (c ≡ 32) × BeginsPlain cs
single_first c cs h white =
    let here : AreSingle (c ∷ encode_utf8_all cs) = subst (λ (l : List ℕ). AreSingle (l ++ encode_utf8_all cs)) (encode_ascii c (white_ascii c white)) h in
    let r : IsSingle (c ∷ encode_utf8_all cs) 0 = here 0 (omega arith) white in
    let more = r.1 in
    (r.0, begins_plain cs (omega (arith, more)) r.2)

single_rest : (xs bytes : List ℕ) → AreSingle (xs ++ bytes) → AreSingle bytes
single_rest xs bytes h k within white =
    let n : ℕ = length xs in
    let here : get_or (xs ++ bytes) (n + k) 0 ≡ get_or bytes k 0 = get_or-append-add xs bytes k 0 in
    let next : get_or (xs ++ bytes) (n + k + 1) 0 ≡ get_or bytes (k + 1) 0 = ap (λ (j : ℕ). get_or (xs ++ bytes) j 0) (let e : n + k + 1 ≡ n + (k + 1) = omega arith in e) ∙ get_or-append-add xs bytes (k + 1) 0 in
    let size : length (xs ++ bytes) ≡ n + length bytes = length-append xs bytes in
    let r : IsSingle (xs ++ bytes) (n + k) = h (n + k) (omega (arith, size, within)) (ap is_white here ∙ white) in
    let more = r.1 in
    (sym here ∙ r.0, omega (arith, more, size), sym (ap is_white next) ∙ r.2)

single : (cs : List ℕ) → AreSingle (encode_utf8_all cs) → Single cs
single [] h = tt
single (c ∷ cs) h = (single_first c cs h, single cs (single_rest (encode_utf8 c) (encode_utf8_all cs) h))

pub length-repeated : (n at : ℕ) → length (repeated n at) ≡ n
length-repeated zero at = refl
length-repeated (suc n) at = ap suc (length-repeated n at)

none-repeated : (n at : ℕ) → n ≡ 0 → repeated n at ≡ []
none-repeated n at e = ap (λ (k : ℕ). repeated k at) e

-- as many ends as there are at least
pub reached-length : (l : Laid) (n : ℕ) → length (reached l n).ends ≡ length l.ends + (n - length l.ends)
reached-length l n = length-append l.ends (repeated (n - length l.ends) (length l.bytes)) ∙ ap (λ (k : ℕ). length l.ends + k) (length-repeated (n - length l.ends) (length l.bytes))

laid_twice : (l : Laid) (k : ℕ) (a b : List ℕ) → laid_on (laid_on l k a) k b ≡ laid_on l k (a ++ b)
laid_twice l k a b =
    let n = reached-length l k in
    let none : k - length (reached l k).ends ≡ 0 = omega (arith, n) in
    ap₂ (λ (x y : List ℕ). laid_made x y) (append_assoc l.bytes a b) (ap (λ (x : List ℕ). (reached l k).ends ++ x) (none-repeated (k - length (reached l k).ends) (length (l.bytes ++ a)) none) ∙ append-nil (reached l k).ends)
  where
    laid_made : List ℕ → List ℕ → Laid
    laid_made x y = record { bytes = x; ends = y }

-- one plain character
one : (done : Laid) (gap : Gap) (s : WhiteSpace) (k c : ℕ) (more : List Char) → is_white c ≡ false → laid done (left_from gap (mark (class_of c s) c k ∷ more)) ≡ laid (laid_on (settled done gap) k (encode_utf8 c)) (left_from Open more)
one done gap s k c more h = ap (λ q. laid done (left_from gap (mark q c k ∷ more))) (plain c s h) ∙ goes done gap Plain c k more

-- a space between two words
space_goes : (done : Laid) (s : WhiteSpace) (k d : ℕ) (more : List Char) → is_white d ≡ false → laid done (left_from Open (mark (class_of 32 s) 32 k ∷ mark (class_of d s) d k ∷ more)) ≡ laid (laid_on done k (32 ∷ [])) (left_from Open (mark (class_of d s) d k ∷ more))
space_goes done s k d more plain = by (collapses s)
  where
    next : List Char
    next = mark (class_of d s) d k ∷ more

    by : (b : Bool) → laid done (left_from Open (mark (cond b Blank Plain) 32 k ∷ next)) ≡ laid (laid_on done k (32 ∷ [])) (left_from Open next)
    by true = goes done Open Blank 32 k next ∙ one done (Pending k) s k d more plain ∙ sym (one (laid_on done k (32 ∷ [])) Open s k d more plain)
    by false = goes done Open Plain 32 k next ∙ ap (λ (l : List ℕ). laid (laid_on done k l) (left_from Open next)) (encode_ascii 32 (omega arith))

-- one more character of words
next_goes : (done : Laid) (s : WhiteSpace) (k c : ℕ) (cs : List ℕ) (more : List Char) → (is_white c ≡ true → (c ≡ 32) × BeginsPlain cs) → laid done (left_from Open (mark (class_of c s) c k ∷ marked s k cs ++ more)) ≡ laid (laid_on done k (encode_utf8 c)) (left_from Open (marked s k cs ++ more))
next_goes done s k c cs more h = by (is_white c) refl
  where
    space : (cs : List ℕ) → c ≡ 32 → BeginsPlain cs → laid done (left_from Open (mark (class_of c s) c k ∷ marked s k cs ++ more)) ≡ laid (laid_on done k (encode_utf8 c)) (left_from Open (marked s k cs ++ more))
    space [] e none = absurd none
    space (d ∷ ds) e plain =
        ap (λ (x : ℕ). laid done (left_from Open (mark (class_of x s) x k ∷ marked s k (d ∷ ds) ++ more))) e
        ∙ space_goes done s k d (marked s k ds ++ more) plain
        ∙ ap (λ (l : List ℕ). laid (laid_on done k l) (left_from Open (marked s k (d ∷ ds) ++ more))) (sym (ap encode_utf8 e ∙ encode_ascii 32 (omega arith)))

    by : (b : Bool) → is_white c ≡ b → laid done (left_from Open (mark (class_of c s) c k ∷ marked s k cs ++ more)) ≡ laid (laid_on done k (encode_utf8 c)) (left_from Open (marked s k cs ++ more))
    by true e = let r = h e in space cs r.0 r.1
    by false e = one done Open s k c (marked s k cs ++ more) e

-- more characters of words, after one
others : (done : Laid) (s : WhiteSpace) (k : ℕ) (before cs : List ℕ) (more : List Char) → Single cs → laid (laid_on done k before) (left_from Open (marked s k cs ++ more)) ≡ laid (laid_on done k (before ++ encode_utf8_all cs)) (left_from Open more)
others done s k before [] more h = ap (λ (l : List ℕ). laid (laid_on done k l) (left_from Open more)) (sym (append-nil before))
others done s k before (c ∷ cs) more h =
    next_goes (laid_on done k before) s k c cs more h.0
    ∙ ap (λ (x : Laid). laid x (left_from Open (marked s k cs ++ more))) (laid_twice done k before (encode_utf8 c))
    ∙ others done s k (before ++ encode_utf8 c) cs more h.1
    ∙ ap (λ (l : List ℕ). laid (laid_on done k l) (left_from Open more)) (append_assoc before (encode_utf8 c) (encode_utf8_all cs))

characters : (done : Laid) (gap : Gap) (s : WhiteSpace) (k : ℕ) (cs : List ℕ) (more : List Char) → Single cs → BeginsPlain cs → laid done (left_from gap (marked s k cs ++ more)) ≡ laid (laid_on (settled done gap) k (encode_utf8_all cs)) (left_from Open more)
characters done gap s k [] more h first = absurd first
characters done gap s k (c ∷ cs) more h first = one done gap s k c (marked s k cs ++ more) first ∙ others (settled done gap) s k (encode_utf8 c) cs more h.1

-- words before other bytes
put_whole : (done : Laid) (gap : Gap) (s : WhiteSpace) (part : ℕ) (word after : List ℕ) (more : List Char) → IsUtf8 word → 0 < length word → is_white (get_or word 0 0) ≡ false → AreSingle word →
    laid done (left_from gap (marked s part (chars (word ++ after)) ++ more)) ≡ laid (laid_on (settled done gap) part word) (left_from Open (marked s part (chars after) ++ more))
put_whole done gap s part word after more utf8 some first are =
    let bytes : encode_utf8_all (chars word) ≡ word = encodes-chars word utf8 in
    let begins : BeginsPlain (chars word) = begins_plain (chars word) (subst (λ (w : List ℕ). 0 < length w) (sym bytes) some) (subst (λ (w : List ℕ). is_white (get_or w 0 0) ≡ false) (sym bytes) first) in
    ap (λ (l : List ℕ). laid done (left_from gap (marked s part l ++ more))) (chars-append word after utf8)
    ∙ ap (λ (l : List Char). laid done (left_from gap (l ++ more))) (map-append (λ (c : ℕ). mark (class_of c s) c part) (chars word) (chars after))
    ∙ ap (λ (l : List Char). laid done (left_from gap l)) (append_assoc (marked s part (chars word)) (marked s part (chars after)) more)
    ∙ characters done gap s part (chars word) (marked s part (chars after) ++ more) (single (chars word) (subst AreSingle (sym bytes) are)) begins
    ∙ ap (λ (w : List ℕ). laid (laid_on (settled done gap) part w) (left_from Open (marked s part (chars after) ++ more))) bytes

-- the character at white space is put, and the next one begins after its byte
pub white_goes : (done : Laid) (gap : Gap) (s : WhiteSpace) (part : ℕ) (text : List ℕ) (at : ℕ) (more : List Char) → IsUtf8 text → IsCharBoundary text at → at < length text → is_white (get_or text at 0) ≡ true →
    laid done (left_from gap (marked s part (chars (drop at text)) ++ more)) ≡ laid (put_of done gap (class_of (get_or text at 0) s) (get_or text at 0) part) (left_from (next_gap gap (class_of (get_or text at 0) s) part) (marked s part (chars (drop (at + 1) text)) ++ more))
white_goes done gap s part text at more utf8 boundary within white =
    let c : ℕ = get_or text at 0 in
    let bytes : drop at text ≡ encode_utf8 c ++ drop (at + 1) text = drop_more text at 0 within ∙ ap (λ (l : List ℕ). l ++ drop (at + 1) text) (sym (encode_ascii c (white_ascii c white))) in
    ap (λ (l : List ℕ). laid done (left_from gap (marked s part l ++ more))) (chars_past_char (drop at text) (drop (at + 1) text) c (IsUtf8-drop text at utf8 boundary) bytes)
    ∙ goes done gap (class_of c s) c part (marked s part (chars (drop (at + 1) text)) ++ more)

pub past_white : (text : List ℕ) (at : ℕ) → IsUtf8 text → at < length text → is_white (get_or text at 0) ≡ true → IsCharBoundary text (at + 1)
past_white text at utf8 within white = IsCharBoundary-after_ascii text at utf8 within (white_ascii (get_or text at 0) white)

-- a word ends where a character does
pub word_boundary : (text : List ℕ) (to : ℕ) → to ≤ length text → (to < length text → is_white (get_or text to 0) ≡ true) → IsCharBoundary text to
word_boundary text to within stop = (within, λ inside high. absurd (let low = white_ascii (get_or text to 0) (stop inside) in omega (arith, low, high)))

-- what goes on is no white space, or one space between two words
first_plain : (text : List ℕ) (at : ℕ) → stops text at at ≡ false → is_white (get_or text at 0) ≡ false
first_plain text at h = by (is_white (get_or text at 0)) (at == at) (eq-eqb at at refl) h
  where
    by : (w t : Bool) → t ≡ true → (w && (t || not (is_joint text at))) ≡ false → w ≡ false
    by false t e h = refl
    by true true e h = absurd (cc)
    by true false e h = absurd (cc)

goes_on : (text : List ℕ) (at k : ℕ) → stops text at k ≡ false → is_white (get_or text k 0) ≡ true → IsSingle text k
goes_on text at k h white = (grind (arith, nat_tests), grind (arith, nat_tests), of (is_white (get_or text (k + 1) 0)) refl)
  where
    of : (b : Bool) → is_white (get_or text (k + 1) 0) ≡ b → is_white (get_or text (k + 1) 0) ≡ false
    of true e = absurd (grind (arith, nat_tests))
    of false e = e

-- words don't end after a space
goes_past : (text : List ℕ) (at to k : ℕ) → k < to - at → at + k + 1 < length text → is_white (get_or text (at + (k + 1)) 0) ≡ false → (to < length text → is_white (get_or text to 0) ≡ true) → k + 1 < to - at
goes_past text at to k within inside next stop = by (cases_lt (k + 1) (to - at))
  where
    by : (k + 1 < to - at) ⊎ (to - at ≤ k + 1) → k + 1 < to - at
    by (inl l) = l
    by (inr h) =
        let e : at + (k + 1) ≡ to = omega arith in
        let white : is_white (get_or text to 0) ≡ true = stop (omega (arith, e, inside)) in
        let other : is_white (get_or text to 0) ≡ false = subst (λ (j : ℕ). is_white (get_or text j 0) ≡ false) e next in
        absurd (cc)

-- words that stand at an offset of a text
pub word_goes : (done : Laid) (gap : Gap) (s : WhiteSpace) (part : ℕ) (text : List ℕ) (at to : ℕ) (more : List Char) → IsUtf8 text → IsCharBoundary text at → IsCharBoundary text to → at < to → ((k : ℕ) → at ≤ k → k < to → stops text at k ≡ false) → (to < length text → is_white (get_or text to 0) ≡ true) →
    laid done (left_from gap (marked s part (chars (drop at text)) ++ more)) ≡ laid (laid_on (settled done gap) part (slice_range text at to)) (left_from Open (marked s part (chars (drop to text)) ++ more))
word_goes done gap s part text at to more utf8 start end some plain stop =
    ap (λ (l : List ℕ). laid done (left_from gap (marked s part (chars l) ++ more))) split
    ∙ put_whole done gap s part word (drop to text) more (IsUtf8-between text at to utf8 (omega arith) start end) (omega (arith, size)) first are
  where
    word : List ℕ
    word = take (to - at) (drop at text)

    size : length word ≡ to - at
    size = length-take-le (to - at) (drop at text) (omega (arith, end.0, length-drop at text))

    after : drop (to - at) (drop at text) ≡ drop to text
    after = drop-drop (to - at) at text ∙ ap (λ (n : ℕ). drop n text) (omega arith)

    split : drop at text ≡ word ++ drop to text
    split = sym (take-append-drop (to - at) (drop at text)) ∙ ap (λ (l : List ℕ). word ++ l) after

    byte : (k : ℕ) → k < to - at → get_or word k 0 ≡ get_or text (at + k) 0
    byte k within = get_or-take (to - at) (drop at text) k 0 within ∙ get_or-drop at text k 0

    first : is_white (get_or word 0 0) ≡ false
    first = ap is_white (byte 0 (omega arith)) ∙ ap (λ (j : ℕ). is_white (get_or text j 0)) (let e : at + 0 ≡ at = omega arith in e) ∙ first_plain text at (plain at (omega arith) some)

    are : AreSingle word
    are k within white =
        let here : get_or word k 0 ≡ get_or text (at + k) 0 = byte k (omega (arith, size, within)) in
        let r : IsSingle text (at + k) = goes_on text at (at + k) (plain (at + k) (omega arith) (omega (arith, size, within))) (sym (ap is_white here) ∙ white) in
        let e : at + k + 1 ≡ at + (k + 1) = omega arith in
        let next : is_white (get_or text (at + (k + 1)) 0) ≡ false = subst (λ (j : ℕ). is_white (get_or text j 0) ≡ false) e r.2 in
        let inside : k + 1 < to - at = goes_past text at to k (omega (arith, size, within)) r.1 next stop in
        (here ∙ r.0, omega (arith, size, inside), ap is_white (byte (k + 1) inside) ∙ next)
