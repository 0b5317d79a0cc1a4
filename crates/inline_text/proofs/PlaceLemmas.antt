-- The places of a text: one character more, and that they ascend at characters.
use Rattle.std.proofs.Common.{◌≡◌, ℕ, zero, suc, ◌+◌, ◌<◌, ◌≤◌, Bool, true, false, cond, ◌&&◌, ◌||◌, nat_lt, nat_le, List, [], ◌∷◌, ◌++◌, length, map, drop, refl, sym, ap, subst, arith, length-append, length-drop}
use Rattle.std.specs.Char.{len_utf8, encode_utf8}
use Rattle.std.specs.Prelude.{encode_utf8_all}
use Rattle.std.specs.List.{All, filter, list_any}
use Rattle.std.specs.List.Sorted.{IsStrictlyIncreasing}
use Rattle.std.specs.Str.{chars, IsUtf8, IsCharBoundary}
use Rattle.std.proofs.Math.Utf8.{scalar, scalars}
use Rattle.std.proofs.lemmas.List.Elements.{All-nil, All-cons, All-head, All-tail, All-filter, All-weaker, All-map}
use Rattle.std.proofs.lemmas.List.Kept.{IsStrictlyIncreasing-filter}
use Rattle.std.proofs.lemmas.Str.{len_utf8_bounds, length-encode, length-le-encodes, drop_past_char, IsCharBoundary-from_drop, encodes-chars, scalars-chars}
use Rattle.std.proofs.lemmas.Bool.{and_parts}
use Rattle.bk_num.proofs.ListLemmas.{filter-none}
use Rattle.unicode_segmentation.specs.Grapheme.{graphemes, is_grapheme_break}
use Rattle.unicode_segmentation.specs.Segments.{Rule, cut, prepend, segments, with_offsets}
use Rattle.unicode_segmentation.proofs.SegmentsLemmas.{IsPieceOf, All-IsPieceOf}
use Rattle.boxes.specs.Contents.{AreOffsets}
use Rattle.boxes.specs.declared.leaf.Span.{Span}
use Rattle.boxes.specs.Wraps.{wraps_anywhere}
use Rattle.inline_text.specs.Places.{Joint, joints_after, joints, is_opportunity, opportunities_of, boundaries_of, emergencies_of, ends_in}

-- the places of some characters, the first of which stands at an offset after another character
abbrev pub places_after : List Span → ℕ → ℕ → List ℕ → List ℕ
places_after spans before at cs = map (λ (j : Joint). j.at) (filter (is_opportunity spans) (joints_after before at cs))

pub places_step : (spans : List Span) (before at c : ℕ) (cs : List ℕ) → places_after spans before at (c ∷ cs) ≡ cond (is_opportunity spans (record { before = before; next = c; at = at })) (at ∷ []) [] ++ places_after spans c (at + len_utf8 c) cs
places_step spans before at c cs = by (is_opportunity spans (record { before = before; next = c; at = at }))
  where
    by : (b : Bool) → map (λ (j : Joint). j.at) (cond b (record { before = before; next = c; at = at } ∷ filter (is_opportunity spans) (joints_after c (at + len_utf8 c) cs)) (filter (is_opportunity spans) (joints_after c (at + len_utf8 c) cs))) ≡ cond b (at ∷ []) [] ++ places_after spans c (at + len_utf8 c) cs
    by true = refl
    by false = refl

-- no line ends before the first character
pub places_start : (text : List ℕ) (spans : List Span) → places_after spans 0 0 (chars text) ≡ opportunities_of text spans
unfolding opportunities_of
places_start text spans = by (chars text)
  where
    by : (cs : List ℕ) → places_after spans 0 0 cs ≡ map (λ (j : Joint). j.at) (filter (is_opportunity spans) (joints cs))
    by [] = refl
    by (c ∷ cs) = let e : 0 + len_utf8 c ≡ len_utf8 c = omega arith in ap (λ (n : ℕ). places_after spans c n cs) e

rises-cons : (x : ℕ) (xs : List ℕ) → All (λ k. x < k) xs → IsStrictlyIncreasing xs → IsStrictlyIncreasing (x ∷ xs)
rises-cons x xs above up zero h = above 0 0 (omega (arith, h))
rises-cons x xs above up (suc k) h = let e : suc k + 1 ≡ suc (k + 1) = omega arith in rw e (up k (omega (arith, h)))

-- offsets that ascend from one on
record Rise (at : ℕ) (xs : List ℕ) : Type 0 where
  above : All (λ k. at ≤ k) xs
  up : IsStrictlyIncreasing xs

joints_rise : (p : Joint → Bool) (before at : ℕ) (cs : List ℕ) → Rise at (map (λ (j : Joint). j.at) (filter p (joints_after before at cs)))
joints_rise p before at [] = record { above = All-nil (λ k. at ≤ k); up = λ k h. absurd (omega (arith, h)) }
joints_rise p before at (c ∷ cs) = by (p (record { before = before; next = c; at = at })) (joints_rise p c (at + len_utf8 c) cs)
  where
    more : List Joint
    more = filter p (joints_after c (at + len_utf8 c) cs)

    wide : 1 ≤ len_utf8 c
    wide = (len_utf8_bounds c).0

    by : (b : Bool) → Rise (at + len_utf8 c) (map (λ (j : Joint). j.at) more) → Rise at (map (λ (j : Joint). j.at) (cond b (record { before = before; next = c; at = at } ∷ more) more))
    by true r = record {
      above = All-cons (λ k. at ≤ k) at (map (λ (j : Joint). j.at) more) (omega arith) (All-weaker (λ k. at + len_utf8 c ≤ k) (λ k. at ≤ k) (λ k h. omega (arith, h)) (map (λ (j : Joint). j.at) more) r.above);
      up = rises-cons at (map (λ (j : Joint). j.at) more) (All-weaker (λ k. at + len_utf8 c ≤ k) (λ k. at < k) (λ k h. let w = wide in omega (arith, h, w)) (map (λ (j : Joint). j.at) more) r.above) r.up;
    }
    by false r = record {
      above = All-weaker (λ k. at + len_utf8 c ≤ k) (λ k. at ≤ k) (λ k h. omega (arith, h)) (map (λ (j : Joint). j.at) more) r.above;
      up = r.up;
    }

-- each joint stands where a character begins
joints_stand : (p : Joint → Bool) (text : List ℕ) (before at : ℕ) (cs : List ℕ) → at ≤ length text → drop at text ≡ encode_utf8_all cs → scalars cs ≡ true → All (IsCharBoundary text) (map (λ (j : Joint). j.at) (filter p (joints_after before at cs)))
joints_stand p text before at [] within e s = All-nil (IsCharBoundary text)
joints_stand p text before at (c ∷ cs) within e s = by (p (record { before = before; next = c; at = at })) (joints_stand p text c (at + len_utf8 c) cs inside (drop_past_char text (encode_utf8_all cs) at c e) ((and_parts (scalar c) (scalars cs) s).1))
  where
    inside : at + len_utf8 c ≤ length text
    inside = omega (arith, length-drop at text, ap length e, length-append (encode_utf8 c) (encode_utf8_all cs), length-encode c, within)

    more : List Joint
    more = filter p (joints_after c (at + len_utf8 c) cs)

    by : (b : Bool) → All (IsCharBoundary text) (map (λ (j : Joint). j.at) more) → All (IsCharBoundary text) (map (λ (j : Joint). j.at) (cond b (record { before = before; next = c; at = at } ∷ more) more))
    by true stand = All-cons (IsCharBoundary text) at (map (λ (j : Joint). j.at) more) (IsCharBoundary-from_drop text at within (c ∷ cs, (s, sym e))) stand
    by false stand = stand

pub are_ordinary : (text : List ℕ) (spans : List Span) → IsUtf8 text → AreOffsets text (opportunities_of text spans)
are_ordinary text spans u = record {
  ascend = subst IsStrictlyIncreasing (places_start text spans) (joints_rise (is_opportunity spans) 0 0 (chars text)).up;
  stand = subst (All (IsCharBoundary text)) (places_start text spans) (joints_stand (is_opportunity spans) text 0 0 (chars text) (omega arith) (sym (encodes-chars text u)) (scalars-chars text u));
}

-- graphemes: none is empty, so their beginnings ascend
prepended : (c : ℕ) (pieces : List (List ℕ)) → All (λ (p : List ℕ). 0 < length p) pieces → All (λ (p : List ℕ). 0 < length p) (prepend (c ∷ []) pieces)
prepended c [] some = All-cons (λ (p : List ℕ). 0 < length p) (c ∷ []) [] (omega arith) some
prepended c (p ∷ pieces) some = All-cons (λ (p : List ℕ). 0 < length p) (c ∷ p) pieces (omega arith) (All-tail (λ (p : List ℕ). 0 < length p) p pieces some)

none_empty : (rule : Rule) (before cs after : List ℕ) → All (λ (p : List ℕ). 0 < length p) (cut rule before cs after)
unfolding cut
none_empty rule before [] after = All-nil (λ (p : List ℕ). 0 < length p)
none_empty rule before (c ∷ cs) after = by (rule (c ∷ before) (cs ++ after)) (none_empty rule (c ∷ before) cs after)
  where
    rest : List (List ℕ)
    rest = cut rule (c ∷ before) cs after

    by : (b : Bool) → All (λ (p : List ℕ). 0 < length p) rest → All (λ (p : List ℕ). 0 < length p) (cond b ((c ∷ []) ∷ rest) (prepend (c ∷ []) rest))
    by true some = All-cons (λ (p : List ℕ). 0 < length p) (c ∷ []) rest (omega arith) some
    by false some = prepended c rest some

offsets_rise : (at : ℕ) (pieces : List (List ℕ)) → All (λ (p : List ℕ). 0 < length p) pieces → Rise at (map (λ (x : ℕ × List ℕ). x.0) (with_offsets at (map encode_utf8_all pieces)))
unfolding with_offsets
offsets_rise at [] some = record { above = All-nil (λ k. at ≤ k); up = λ k h. absurd (omega (arith, h)) }
offsets_rise at (p ∷ pieces) some =
    let size : ℕ = length (encode_utf8_all p) in
    let wide : 0 < size = let h = All-head (λ (p : List ℕ). 0 < length p) p pieces some in omega (arith, h, length-le-encodes p) in
    let more : List ℕ = map (λ (x : ℕ × List ℕ). x.0) (with_offsets (at + size) (map encode_utf8_all pieces)) in
    let r : Rise (at + size) more = offsets_rise (at + size) pieces (All-tail (λ (p : List ℕ). 0 < length p) p pieces some) in
    record {
      above = All-cons (λ k. at ≤ k) at more (omega arith) (All-weaker (λ k. at + size ≤ k) (λ k. at ≤ k) (λ k h. omega (arith, h)) more r.above);
      up = rises-cons at more (All-weaker (λ k. at + size ≤ k) (λ k. at < k) (λ k h. omega (arith, h, wide)) more r.above) r.up;
    }

boundaries_rise : (text : List ℕ) → IsStrictlyIncreasing (map (λ (x : ℕ × List ℕ). x.0) (with_offsets 0 (graphemes true text)))
unfolding segments
boundaries_rise text = (offsets_rise 0 (cut (is_grapheme_break true) [] (chars text) []) (none_empty (is_grapheme_break true) [] (chars text) [])).up

boundaries_stand : (text : List ℕ) → IsUtf8 text → All (IsCharBoundary text) (map (λ (x : ℕ × List ℕ). x.0) (with_offsets 0 (graphemes true text)))
boundaries_stand text u = All-map (IsCharBoundary text) (λ (x : ℕ × List ℕ). x.0) (with_offsets 0 (graphemes true text)) (All-weaker (IsPieceOf text) (λ (x : ℕ × List ℕ). IsCharBoundary text x.0) (λ x h. h.start) (with_offsets 0 (graphemes true text)) (All-IsPieceOf (is_grapheme_break true) text u))

pub are_emergencies : (text : List ℕ) (spans : List Span) → IsUtf8 text → AreOffsets text (emergencies_of text spans)
unfolding emergencies_of boundaries_of
are_emergencies text spans u = record {
  ascend = IsStrictlyIncreasing-filter (ends_in wraps_anywhere spans) (map (λ (x : ℕ × List ℕ). x.0) (with_offsets 0 (graphemes true text))) (boundaries_rise text);
  stand = All-filter (ends_in wraps_anywhere spans) (IsCharBoundary text) (map (λ (x : ℕ × List ℕ). x.0) (with_offsets 0 (graphemes true text))) (boundaries_stand text u);
}

pub filter_step : (p : ℕ → Bool) (x : ℕ) (xs : List ℕ) → filter p (x ∷ xs) ≡ cond (p x) (x ∷ []) [] ++ filter p xs
filter_step p x xs = by (p x)
  where
    by : (b : Bool) → cond b (x ∷ filter p xs) (filter p xs) ≡ cond b (x ∷ []) [] ++ filter p xs
    by true = refl
    by false = refl

-- where no span passes a test, no character stands in one that does
ends_nowhere : (p : Span → Bool) (spans : List Span) (at : ℕ) → list_any p spans ≡ false → ends_in p spans at ≡ false
ends_nowhere p [] at none = refl
ends_nowhere p (s ∷ spans) at none = by (p s) (ends_nowhere p spans at) none
  where
    by : (b : Bool) → (list_any p spans ≡ false → ends_in p spans at ≡ false) → (b || list_any p spans) ≡ false → (b && nat_lt s.from at && nat_le at s.to || ends_in p spans at) ≡ false
    by true rest h = absurd (cc)
    by false rest h = rest h

pub no_emergencies : (text : List ℕ) (spans : List Span) → list_any wraps_anywhere spans ≡ false → [] ≡ emergencies_of text spans
unfolding emergencies_of
no_emergencies text spans none = sym (filter-none (ends_in wraps_anywhere spans) (boundaries_of text) (λ at. ends_nowhere wraps_anywhere spans at none))
