-- A walk over the characters of a run: what it knows after one more of them.
use Rattle.std.proofs.Common.{◌≡◌, ◌∙◌, ℕ, ◌+◌, ◌-◌, ◌*◌, ◌<◌, ◌≤◌, Bool, true, false, not, ◌&&◌, ◌||◌, eqb, leb, List, [], ◌∷◌, ◌++◌, length, get_or, take, drop, map, refl, sym, ap, ap₂, subst, arith}
use Rattle.std.specs.Prelude.{Option, Some, option_map, slice_get}
use Rattle.std.specs.Char.{encode_utf8, len_utf8, to_ascii_lowercase}
use Rattle.std.specs.List.{All, slice_range}
use Rattle.std.specs.Str.{chars, IsCharBoundary, IsUtf8}
use Rattle.std.proofs.lemmas.Bool.Decides.{nat_tests}
use Rattle.std.proofs.lemmas.List.{get_or-drop, get_or_past, length-drop, length-map, length_push, map-append, take_more}
use Rattle.std.proofs.lemmas.List.Elements.{All-nil}
use Rattle.std.proofs.lemmas.Option.{get_or_from_slice_get, slice_get-map, slice_get_past, slice_get_within}
use Rattle.std.proofs.lemmas.Str.{chars-nil, IsCharBoundary-start, IsUtf8-between, len_utf8_bounds}
use Rattle.std.proofs.lemmas.Bool.{and_parts}
use Rattle.hyphen.specs.Points.{letters_of, offset_of, places_of, points_of}
use Rattle.hyphen.proofs.PointLemmas.{offset_none}
use Rattle.soft_hyphens.specs.Known.{word_points}
use Rattle.soft_hyphens.specs.Pass.{offsets_before}
use Rattle.soft_hyphens.specs.Walk.{IsIn, IsOver, after_letter, after_other, counts_by, word_text}
use Rattle.soft_hyphens.specs.Words.{Points, are_auto, codes_of, counts, is_of_word, is_put, is_soft, letters_between, points_with}
use Rattle.soft_hyphens.specs.declared.letter.Letter.{Letter}
use Rattle.soft_hyphens.specs.declared.walk.Walk.{Walk}
use Rattle.soft_hyphens.proofs.OffsetLemmas.{offset-next}
use Rattle.soft_hyphens.proofs.PointLemmas.{no-points, some-points, word-goes, word-next}
use Rattle.soft_hyphens.proofs.SliceLemmas.{chars-grow, few-bytes, next-boundary}
use Rattle.soft_hyphens.proofs.WordLemmas.{none-of-word}

-- ---- one more character

-- the characters up to the end of one more
letters-grow : (ls : List Letter) (from p : ℕ) (l : Letter) → from ≤ p → slice_get ls p ≡ Some l → letters_between ls from (p + 1) ≡ letters_between ls from p ++ l ∷ []
letters-grow ls from p l order has =
    let inside : p < length ls = slice_get_within ls p l has in
    let n : (p + 1) - from ≡ (p - from) + 1 = omega arith in
    let at : from + (p - from) ≡ p = omega arith in
    let here : get_or (drop from ls) (p - from) l ≡ l = get_or-drop from ls (p - from) l ∙ ap (λ (k : ℕ). get_or ls k l) at ∙ get_or_from_slice_get ls p l l has in
    ap (λ (k : ℕ). take k (drop from ls)) n ∙ take_more (drop from ls) (p - from) l (omega (arith, length-drop from ls))
    ∙ ap (λ (x : Letter). letters_between ls from p ++ x ∷ []) here

auto-grow : (ls : List Letter) (l : Letter) → are_auto (ls ++ l ∷ []) ≡ (are_auto ls && l.auto)
auto-grow [] l = by l.auto
  where
    by : (b : Bool) → (b && true) ≡ b
    by true = refl
    by false = refl
auto-grow (x ∷ xs) l = ap (λ (b : Bool). x.auto && b) (auto-grow xs l) ∙ by x.auto (are_auto xs) l.auto
  where
    by : (a b d : Bool) → (a && (b && d)) ≡ ((a && b) && d)
    by true b d = refl
    by false b d = refl

no-letters : (ls : List Letter) (p : ℕ) → letters_between ls p p ≡ []
no-letters ls p = let z : p - p ≡ 0 = omega arith in ap (λ (n : ℕ). take n (drop p ls)) z

no-text : (text : List ℕ) (at : ℕ) → chars (slice_range text at at) ≡ []
no-text text at = let z : at - at ≡ 0 = omega arith in ap (λ (n : ℕ). chars (take n (drop at text))) z ∙ chars-nil

-- ---- a character of a word

pub letter-in : (text : List ℕ) (w : Walk) (l : Letter) (rest offsets : List ℕ) → IsUtf8 text → IsIn text w offsets → drop w.at text ≡ encode_utf8 l.code ++ rest → IsIn text (after_letter w l) offsets
letter-in text w l rest offsets u h next =
    let order : w.from ≤ w.at = h.order in
    let more : chars (slice_range text w.from (w.at + len_utf8 l.code)) ≡ chars (slice_range text w.from w.at) ++ l.code ∷ [] = chars-grow text w.from w.at l.code rest u order h.from h.at next in
    let old = h.letters in
    let few = h.few in
    let some = len_utf8_bounds l.code in
    record {
      from = h.from;
      at = next-boundary text w.at l.code rest u h.at next;
      order = omega (arith, order);
      letters = omega (arith, ap (λ (x : List ℕ). length x) more, length_push (chars (slice_range text w.from w.at)) l.code, old);
      few = omega (arith, few, some.0);
      stand = h.stand;
    }

code-is : (ls : List Letter) (i : ℕ) (l : Letter) → slice_get ls i ≡ Some l → get_or (codes_of ls) i 0 ≡ l.code
code-is ls i l h = get_or_from_slice_get (codes_of ls) i l.code 0 (slice_get-map (λ (x : Letter). x.code) ls i ∙ ap (λ (o : Option Letter). option_map (λ (x : Letter). x.code) o) h)

-- where the next character begins
offset-past : (ls : List Letter) (at p : ℕ) (l : Letter) → at ≡ offset_of (codes_of ls) p → slice_get ls p ≡ Some l → at + len_utf8 l.code ≡ offset_of (codes_of ls) (p + 1)
offset-past ls at p l is has =
    let inside : p < length ls = slice_get_within ls p l has in
    sym (offset-next (codes_of ls) p (omega (arith, inside, length-map ls (λ (x : Letter). x.code))) ∙ ap₂ (λ (x y : ℕ). x + y) (sym is) (ap len_utf8 (code-is ls p l has)))

pub letter-over : (points : Points) (ls : List Letter) (text : List ℕ) (w : Walk) (l : Letter) (rest offsets : List ℕ) → IsUtf8 text → IsIn text w offsets → drop w.at text ≡ encode_utf8 l.code ++ rest → is_of_word l.code ≡ true → IsOver points ls text w offsets → slice_get ls w.place ≡ Some l → IsOver points ls text (after_letter w l) offsets
letter-over points ls text w l rest offsets u h next holds o has =
    let p : ℕ = w.place in
    let inside : p < length ls = slice_get_within ls p l has in
    let here : is_of_word ((get_or ls p l).code) ≡ true = ap (λ (x : Letter). is_of_word x.code) (get_or_from_slice_get ls p l l has) ∙ holds in
    let order : w.first ≤ p = o.word.order in
    let grown : letters_between ls w.first (p + 1) ≡ letters_between ls w.first p ++ l ∷ [] = letters-grow ls w.first p l order has in
    record {
      within = omega (arith, inside);
      at = offset-past ls w.at p l o.at has;
      from = o.from;
      word = word-goes ls w.first p l o.word inside here;
      letters = chars-grow text w.from w.at l.code rest u h.order h.from h.at next
          ∙ ap (λ (x : List ℕ). x ++ l.code ∷ []) o.letters
          ∙ sym (ap codes_of grown ∙ map-append (λ (x : Letter). x.code) (letters_between ls w.first p) (l ∷ []));
      auto = ap (λ (b : Bool). b && l.auto) o.auto ∙ sym (ap are_auto grown ∙ auto-grow (letters_between ls w.first p) l);
      before = o.before;
      put = o.put;
    }

-- ---- a character that is none of a word

pub other-in : (text : List ℕ) (w : Walk) (l : Letter) (rest offsets new : List ℕ) → IsUtf8 text → IsIn text w offsets → drop w.at text ≡ encode_utf8 l.code ++ rest → All (IsCharBoundary text) new → IsIn text (after_other w l) new
other-in text w l rest offsets new u h next stand =
    let at : ℕ = w.at + len_utf8 l.code in
    let none : length (chars (slice_range text at at)) ≡ 0 = ap (λ (x : List ℕ). length x) (no-text text at) in
    let to : IsCharBoundary text at = next-boundary text w.at l.code rest u h.at next in
    let few = h.few in
    let some = len_utf8_bounds l.code in
    record {
      from = to;
      at = to;
      order = omega arith;
      letters = omega (arith, none);
      few = omega (arith, few, some.0);
      stand = stand;
    }

-- after such a character no word is begun
pub stops-at : (ls : List Letter) (p : ℕ) (l : Letter) → slice_get ls p ≡ Some l → is_of_word l.code ≡ false → is_of_word (get_or (codes_of ls) p 0) ≡ false
stops-at ls p l has fails = ap is_of_word (code-is ls p l has) ∙ fails

pub other-over : (points : Points) (ls : List Letter) (text : List ℕ) (w : Walk) (l : Letter) (offsets new : List ℕ) → is_of_word l.code ≡ false → new ≡ offsets_before (is_put points ls) (codes_of ls) (w.place + 1) → IsOver points ls text w offsets → slice_get ls w.place ≡ Some l → IsOver points ls text (after_other w l) new
other-over points ls text w l offsets new fails now o has =
    let p : ℕ = w.place in
    let at : ℕ = w.at + len_utf8 l.code in
    let inside : p < length ls = slice_get_within ls p l has in
    let none : letters_between ls (p + 1) (p + 1) ≡ [] = no-letters ls (p + 1) in
    let back : (p + 1) - 1 ≡ p = omega arith in
    let to : at ≡ offset_of (codes_of ls) (p + 1) = offset-past ls w.at p l o.at has in
    record {
      within = omega (arith, inside);
      at = to;
      from = to;
      word = word-next ls p (stops-at ls p l has fails);
      letters = no-text text at ∙ ap codes_of (sym none);
      auto = ap are_auto (sym none);
      before = ap₂ (λ (a : Bool) (n : ℕ). a || not (is_soft (slice_get ls n))) (later p) back
          ∙ ap (λ (x : Option Letter). not (is_soft x)) has;
      put = now;
    }
  where
    later : (n : ℕ) → eqb (n + 1) 0 ≡ false
    later n = grind (arith, nat_tests)

-- ---- the word at its end

-- whether it counts
counts-are : (points : Points) (ls : List Letter) (text : List ℕ) (w : Walk) (soft : Bool) (offsets : List ℕ) → IsOver points ls text w offsets → is_soft (slice_get ls w.place) ≡ soft → counts ls w.first w.place ≡ counts_by w soft
unfolding counts
counts-are points ls text w soft offsets o is = rw (sym o.auto, o.before, is) refl

-- it isn't long
few-letters : (n : ℕ) (a b d : Bool) → (leb 5 n && (((leb n 64 && a) && b) && d)) ≡ true → n ≤ 64
few-letters n a b d h = by (leb n 64) refl ((and_parts (leb 5 n) (((leb n 64 && a) && b) && d) h).1)
  where
    by : (t : Bool) → leb n 64 ≡ t → (((t && a) && b) && d) ≡ true → n ≤ 64
    by true e k = grind (arith, nat_tests)
    by false e k = absurd (no_both k)
      where
        no_both : false ≡ true → ⊥
        no_both e = cc

pub few-word : (text : List ℕ) (w : Walk) (soft : Bool) (offsets : List ℕ) → IsUtf8 text → IsIn text w offsets → (leb 5 (w.place - w.first) && counts_by w soft) ≡ true → length (word_text text w) ≤ 256
few-word text w soft offsets u h may =
    let letters = h.letters in
    let few : w.place - w.first ≤ 64 = few-letters (w.place - w.first) w.auto (not w.after_soft) (not soft) may in
    let bytes : length (word_text text w) ≤ 4 * length (chars (word_text text w)) = few-bytes (word_text text w) (IsUtf8-between text w.from w.at u h.order h.from h.at) in
    omega (arith, letters, few, bytes)

-- a word that may have no point has none
pub ends-without : (value : List ℕ → ℕ → ℕ) (ls : List Letter) (text : List ℕ) (w : Walk) (soft : Bool) (offsets : List ℕ) → (leb 5 (w.place - w.first) && counts_by w soft) ≡ false → IsOver (points_with value) ls text w offsets → is_soft (slice_get ls w.place) ≡ soft → is_of_word (get_or (codes_of ls) w.place 0) ≡ false → offsets ≡ offsets_before (is_put (points_with value) ls) (codes_of ls) (w.place + 1)
ends-without value ls text w soft offsets may o is stop =
    o.put ∙ sym (no-points value ls w.first w.place o.word o.within stop (ap (λ (b : Bool). leb 5 (w.place - w.first) && b) (counts-are (points_with value) ls text w soft offsets o is) ∙ may))

-- a word that may have some has those that its text has
pub ends-with : (value : List ℕ → ℕ → ℕ) (ls : List Letter) (text : List ℕ) (w : Walk) (soft : Bool) (offsets : List ℕ) → (leb 5 (w.place - w.first) && counts_by w soft) ≡ true → IsOver (points_with value) ls text w offsets → is_soft (slice_get ls w.place) ≡ soft → is_of_word (get_or (codes_of ls) w.place 0) ≡ false → offsets ++ map (λ (p : ℕ). w.from + p) (word_points value (word_text text w)) ≡ offsets_before (is_put (points_with value) ls) (codes_of ls) (w.place + 1)
unfolding points_of letters_of
ends-with value ls text w soft offsets may o is stop =
    let counted : counts ls w.first w.place ≡ true = counts-are (points_with value) ls text w soft offsets o is ∙ (and_parts (leb 5 (w.place - w.first)) (counts_by w soft) may).1 in
    ap₂ (λ (x cs : List ℕ). x ++ map (λ (p : ℕ). w.from + p) (map (offset_of (map to_ascii_lowercase cs)) (places_of value (map to_ascii_lowercase cs) 2 3))) o.put o.letters
    ∙ sym (some-points value ls w.first w.place o.word o.within stop w.from o.from counted)

-- ---- a walk that ends

-- no soft hyphen stands after the last character, and no letter
pub no-soft-after : (ls : List Letter) (n : ℕ) → n ≡ length ls → is_soft (slice_get ls n) ≡ false
no-soft-after ls n e = ap is_soft (slice_get_past ls n (omega (arith, e)))

pub stops-at-end : (ls : List Letter) (n : ℕ) → n ≡ length ls → is_of_word (get_or (codes_of ls) n 0) ≡ false
stops-at-end ls n e = ap is_of_word (get_or_past (codes_of ls) n 0 (omega (arith, e, length-map ls (λ (l : Letter). l.code)))) ∙ none-of-word

-- ---- a walk that begins

abbrev pub first_walk : Walk
first_walk = record { at = 0; place = 0; from = 0; first = 0; auto = true; after_soft = false }

pub begin-over : (points : Points) (ls : List Letter) (text offsets : List ℕ) → offsets ≡ [] → IsOver points ls text first_walk offsets
begin-over points ls text offsets is = record {
  within = omega arith;
  at = sym (offset_none (codes_of ls));
  from = sym (offset_none (codes_of ls));
  word = record { order = omega arith; all = λ i low high. absurd (omega arith); before = λ i e. absurd (omega (arith, e)) };
  letters = no-text text 0 ∙ sym (ap codes_of (no-letters ls 0));
  auto = sym (ap are_auto (no-letters ls 0));
  before = refl;
  put = is;
}

pub begin-in : (text offsets : List ℕ) → offsets ≡ [] → IsUtf8 text → IsIn text first_walk offsets
begin-in text offsets is u = record {
  from = IsCharBoundary-start text u;
  at = IsCharBoundary-start text u;
  order = omega arith;
  letters = omega (arith, ap (λ (x : List ℕ). length x) (no-text text 0));
  few = omega arith;
  stand = subst (All (IsCharBoundary text)) (sym is) (All-nil (IsCharBoundary text));
}
