-- The laws of runs that are hyphenated.
use Rattle.std.proofs.Common.{◌≡◌, ◌∙◌, ℕ, zero, suc, ◌+◌, Bool, true, false, cond, ◌||◌, ◌==◌, List, [], ◌∷◌, ◌++◌, map, None, Some, refl, sym, ap}
use Rattle.std.specs.Char.{IsScalar, encode_utf8}
use Rattle.std.specs.List.{All}
use Rattle.std.proofs.Math.Utf8.{scalar as is_scalar}
use Rattle.std.specs.Str.{IsUtf8, all_scalars, chars, is_utf8}
use Rattle.std.proofs.lemmas.List.Elements.{All-append, All-cons, All-head, All-map, All-nil, All-tail}
use Rattle.std.proofs.lemmas.Str.{IsUtf8-append, IsUtf8-encode, IsUtf8-from_is_utf8, IsUtf8-nil, scalars-chars}
use Rattle.std.proofs.lemmas.Bool.{and_parts}
use Rattle.bk_num.specs.declared.values.WhiteSpace.{WhiteSpace}
use Rattle.bk_num.specs.declared.values.WhiteSpace.TheVariants as space
use Rattle.inline_text.specs.Joined.{joined}
use Rattle.inline_text.specs.Space.{Char, appended, chars_from, class_of, collapsed, collapses, folds_newlines, is_blank, is_newline, is_space, mark, marked, meets_newline, placed, spelled, squeezed, trimmed}
use Rattle.inline_text.specs.declared.space.TextPart.{TextPart}
use Rattle.soft_hyphens.proofs.LawLemmas.{texts-join}
use Rattle.soft_hyphens.specs.Words.{points_with}
use Rattle.soft_hyphens.specs.Hyphenated.{hyphenated}
use Rattle.box_gen.specs.Hyphens.{OthersStay, RunsAreCollapsed, RunsAreHyphenated}
use Rattle.box_gen.specs.Runs.{autos_in, marks_in, parts_in, printed_in, spans_from, spans_of, starts_from, starts_of, styles_in, text_of}
use Rattle.soft_hyphens.proofs.PlainLemmas.{plain-stays}

-- ---- collapsed texts are texts

abbrev IsText : TextPart → Type 0
IsText p = IsUtf8 p.text

-- what is printed of a character is text
abbrev IsSpelled : Char → Type 0
IsSpelled c = IsUtf8 (spelled c.class c.code)

one-space : IsUtf8 (32 ∷ [])
unfolding is_utf8 chars encode_utf8
one-space = IsUtf8-from_is_utf8 (32 ∷ []) refl

eight-spaces : IsUtf8 (32 ∷ 32 ∷ 32 ∷ 32 ∷ 32 ∷ 32 ∷ 32 ∷ 32 ∷ [])
unfolding is_utf8 chars encode_utf8
eight-spaces = IsUtf8-from_is_utf8 (32 ∷ 32 ∷ 32 ∷ 32 ∷ 32 ∷ 32 ∷ 32 ∷ 32 ∷ []) refl

-- the classes of characters are named by characters of them
is-spelled : (s : WhiteSpace) (k c : ℕ) → IsScalar c → IsSpelled (mark (class_of c s) c k)
is-spelled s k c h = by (c == 32) (collapses s) (c == 9) (c == 10) (folds_newlines s)
  where
    by : (blank folds tab newline folded : Bool) → IsUtf8 (spelled (cond blank (cond folds (class_of 32 space.Normal) (class_of 0 s)) (cond tab (cond folds (class_of 32 space.Normal) (class_of 9 space.Pre)) (cond newline (cond folded (class_of 10 space.Normal) (class_of 10 space.Pre)) (class_of 0 s)))) c)
    by true true t n f = one-space
    by true false t n f = IsUtf8-encode c h
    by false true true n f = one-space
    by false false true n f = eight-spaces
    by false l false true true = one-space
    by false l false true false = IsUtf8-encode c h
    by false l false false f = IsUtf8-encode c h

codes-of : (s : WhiteSpace) (k : ℕ) (cs : List ℕ) → all_scalars cs ≡ true → All IsSpelled (marked s k cs)
codes-of s k [] e = All-nil IsSpelled
codes-of s k (c ∷ cs) e =
    let h = and_parts (is_scalar c) (all_scalars cs) e in
    All-cons IsSpelled (mark (class_of c s) c k) (marked s k cs) (is-spelled s k c h.0) (codes-of s k cs h.1)

codes-from : (k : ℕ) (ps : List TextPart) → All IsText ps → All IsSpelled (chars_from k ps)
codes-from k [] u = All-nil IsSpelled
codes-from k (p ∷ ps) u = All-append IsSpelled (marked p.space k (chars p.text)) (chars_from (k + 1) ps) (codes-of p.space k (chars p.text) (scalars-chars p.text (All-head IsText p ps u))) (codes-from (k + 1) ps (All-tail IsText p ps u))

trimmed-codes : (after : Bool) (cs : List Char) → All IsSpelled cs → All IsSpelled (trimmed after cs)
trimmed-codes after [] u = u
trimmed-codes after (c ∷ cs) u =
    let rest : All IsSpelled cs = All-tail IsSpelled c cs u in
    by (is_blank c.class) (after || meets_newline cs) (trimmed-codes after cs rest) (trimmed-codes (is_newline c.class) cs rest)
  where
    by : (b n : Bool) → All IsSpelled (trimmed after cs) → All IsSpelled (trimmed (is_newline c.class) cs) → All IsSpelled (cond b (cond n (trimmed after cs) (c ∷ trimmed after cs)) (c ∷ trimmed (is_newline c.class) cs))
    by true true same next = same
    by true false same next = All-cons IsSpelled c (trimmed after cs) (All-head IsSpelled c cs u) same
    by false n same next = All-cons IsSpelled c (trimmed (is_newline c.class) cs) (All-head IsSpelled c cs u) next

squeezed-codes : (spaced : Bool) (cs : List Char) → All IsSpelled cs → All IsSpelled (squeezed spaced cs)
squeezed-codes spaced [] u = u
squeezed-codes spaced (c ∷ cs) u =
    let rest : All IsSpelled cs = All-tail IsSpelled c cs u in
    by (is_space c.class) spaced (squeezed-codes spaced cs rest) (squeezed-codes true cs rest) (squeezed-codes (is_newline c.class) cs rest)
  where
    by : (b n : Bool) → All IsSpelled (squeezed spaced cs) → All IsSpelled (squeezed true cs) → All IsSpelled (squeezed (is_newline c.class) cs) → All IsSpelled (cond b (cond n (squeezed spaced cs) (c ∷ squeezed true cs)) (c ∷ squeezed (is_newline c.class) cs))
    by true true same one next = same
    by true false same one next = All-cons IsSpelled c (squeezed true cs) (All-head IsSpelled c cs u) one
    by false n same one next = All-cons IsSpelled c (squeezed (is_newline c.class) cs) (All-head IsSpelled c cs u) next

appended-texts : (ts : List (List ℕ)) (k : ℕ) (s : List ℕ) → All IsUtf8 ts → IsUtf8 s → All IsUtf8 (appended ts k s)
appended-texts [] k s u h = u
appended-texts (t ∷ ts) zero s u h = All-cons IsUtf8 (t ++ s) ts (IsUtf8-append t s (All-head IsUtf8 t ts u) h) (All-tail IsUtf8 t ts u)
appended-texts (t ∷ ts) (suc k) s u h = All-cons IsUtf8 t (appended ts k s) (All-head IsUtf8 t ts u) (appended-texts ts k s (All-tail IsUtf8 t ts u) h)

placed-texts : (ts : List (List ℕ)) (cs : List Char) → All IsUtf8 ts → All IsSpelled cs → All IsUtf8 (placed ts cs)
placed-texts ts [] u h = u
placed-texts ts (c ∷ cs) u h = placed-texts (appended ts c.part (spelled c.class c.code)) cs (appended-texts ts c.part (spelled c.class c.code) u (All-head IsSpelled c cs h)) (All-tail IsSpelled c cs h)

collapsed-texts : (ps : List TextPart) → All IsText ps → All IsUtf8 (collapsed ps)
collapsed-texts ps u = placed-texts (map (λ (p : TextPart). []) ps) (squeezed true (trimmed false (chars_from 0 ps)))
    (All-map IsUtf8 (λ (p : TextPart). []) ps (λ k d h. IsUtf8-nil))
    (squeezed-codes true (trimmed false (chars_from 0 ps)) (trimmed-codes false (chars_from 0 ps) (codes-from 0 ps u)))

-- ---- laws

pub runs-are-collapsed : RunsAreCollapsed
unfolding hyphenated
runs-are-collapsed items = refl

pub runs-are-hyphenated : RunsAreHyphenated
unfolding hyphenated text_of
runs-are-hyphenated points items u = texts-join points (autos_in items) (collapsed (parts_in items)) (collapsed-texts (parts_in items) u)

pub others-stay : OthersStay
unfolding text_of spans_of starts_of
others-stay value items u e =
    let same : printed_in (Some (points_with value)) items ≡ printed_in None items =
    plain-stays value (autos_in items) (collapsed (parts_in items)) e (collapsed-texts (parts_in items) u) ∙ sym (runs-are-collapsed items) in
    record {
      text = ap joined same;
      spans = ap (spans_from 0 (styles_in (marks_in items))) same;
      starts = ap (starts_from 0 (marks_in items)) same;
    }
