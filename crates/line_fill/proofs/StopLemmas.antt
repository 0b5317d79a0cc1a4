-- The widths of what is left of a paragraph, up to each of its stops.
use Rattle.std.proofs.Common.{◌≡◌, ◌≢◌, ℕ, zero, suc, ◌+◌, ◌-◌, ◌*◌, ◌<◌, ◌≤◌, ◌^◌, ℤ, pos, ◌+ℤ◌, ◌-ℤ◌, ◌≤ℤ◌, ⊎_elim, Bool, true, false, cond, ◌&&◌, List, length, get_or, max, Option, None, Some, refl, sym, subst, arith}
use Rattle.std.proofs.lemmas.Bool.{cases_lt}
use Rattle.std.proofs.lemmas.Int.{ints}
use Rattle.metrics.specs.Face.{FontFace}
use Rattle.metrics.specs.Pen.{PenView}
use Rattle.metrics.specs.Widths.{begun_at, byte_width, char_after, char_at, has_width, is_lead, last_from, sum_from, width_after}
use Rattle.boxes.specs.declared.leaf.Leaf.{Leaf}
use Rattle.boxes.specs.declared.leaf.Span.{Span}
use Rattle.bk_num.specs.Numbers.{IsWithin}
use Rattle.total_fit.specs.Lines.{IsGoodStop}
use Rattle.line_fill.specs.Breaks.{shown_len, stop_of}
use Rattle.line_fill.specs.Fill.{AreWidths, passed_to}
use Rattle.line_fill.specs.Paragraphs.{IsPassed}
use Rattle.line_fill.specs.Stops.{first_wide, next_of}
use Rattle.line_fill.specs.Widths.{pen_of, span_at, unit_at, width_in}
use Rattle.line_fill.specs.declared.line_width.LineWidth.{LineWidth}
use Rattle.line_fill.proofs.EndLemmas.{stop_within}
use Rattle.line_fill.proofs.FillLemmas.{shown_run}
use Rattle.line_fill.proofs.LaterLemmas.{stop-most, stop-same}
use Rattle.line_fill.proofs.LineLemmas.{shown-le, stop-newline, sum_from-le}
use Rattle.line_fill.proofs.WidthLemmas.{IsShown, goes_on}

-- a byte of a paragraph before its last one is no newline
pub no-newline : (text : List ℕ) (from k : ℕ) → from ≤ k → k + 1 < stop_of text from → get_or text k 0 ≢ 10
no-newline text from k low high e =
    let s = stop-same text from k low (omega arith) in
    let n = stop-newline text k (stop-most text from k low (omega arith)) e in
    omega (arith, s, n)

-- a stretch in one span is passed
pub passed-on : (faces : List FontFace) (leaf : Leaf) (span : Span) (from at to : ℕ) (r r' : LineWidth) →
    ((k : ℕ) → span.from ≤ k → k < span.to → span_at leaf.spans k ≡ Some span) → span.from ≤ at → at < to → to ≤ span.to →
    to ≤ stop_of leaf.text from → IsPassed faces leaf from at r →
    ((k : ℕ) → at ≤ k → k + 1 < to → get_or leaf.text k 0 ≢ 10) →
    r' ≡ passed_to (byte_width (pen_of faces span) leaf.text (max from span.from)) leaf.text at (to - at) r →
    r'.total ≤ℤ pos (2 ^ 27 * to) → IsPassed faces leaf from to r'
passed-on faces leaf span from at to r r' here low less high stop is quiet r_is most =
    let begun = is.low in
    let run : IsShown (unit_at faces leaf from) leaf.text from to r' = shown_run faces leaf span from at to r r' here low less high begun (is.widths (omega arith)) quiet r_is in
    let back : suc (to - 1) ≡ to = omega arith in
    record {
      low = omega arith;
      within = stop;
      total = run.total;
      shown = run.shown;
      widths = λ h. subst (λ z. AreWidths (unit_at faces leaf from) leaf.text from z r') back
          (goes_on (unit_at faces leaf from) leaf.text from (to - 1) r' (omega arith)
          (no-newline leaf.text from (to - 1) (omega arith) (omega arith))
          (subst (λ z. IsShown (unit_at faces leaf from) leaf.text from z r') (sym back) run));
      small = most;
    }

-- what is shown is no wider than all
pub shown-small : (faces : List FontFace) (leaf : Leaf) (from at : ℕ) (r : LineWidth) → IsPassed faces leaf from at r → (pos 0 ≤ℤ r.shown) × (r.shown ≤ℤ r.total)
shown-small faces leaf from at r is =
    let t = is.total in
    let s = is.shown in
    let l : shown_len leaf.text from (at - from) ≤ at - from = shown-le leaf.text from (at - from) in
    let d : shown_len leaf.text from (at - from) + ((at - from) - shown_len leaf.text from (at - from)) ≡ at - from = omega arith in
    let w : sum_from (unit_at faces leaf from) from (shown_len leaf.text from (at - from)) ≤ sum_from (unit_at faces leaf from) from (at - from) =
    rw d at (sum_from-le (unit_at faces leaf from) from (shown_len leaf.text from (at - from)) ((at - from) - shown_len leaf.text from (at - from))) in
    (omega (arith, ints), omega (arith, ints))

-- a byte that begins no character with a width adds nothing
thin-byte : (p : PenView) (text : List ℕ) (begin k : ℕ) → (is_lead (get_or text k 0) && has_width (char_at text k)) ≡ false → byte_width p text begin k ≡ 0
unfolding byte_width begun_at char_after
thin-byte p text begin k h = by (is_lead (get_or text k 0)) (has_width (char_at text k)) refl refl h
  where
    by : (a b : Bool) → is_lead (get_or text k 0) ≡ a → has_width (char_at text k) ≡ b → (a && b) ≡ false →
        width_after p (last_from text begin (k - begin)) (cond a (Some (char_at text k)) None) ≡ 0
    by false b ea eb h = refl
    by true false ea eb h = rw eb refl
    by true true ea eb h = absurd cc

pub thin : (faces : List FontFace) (leaf : Leaf) (from k : ℕ) → (is_lead (get_or leaf.text k 0) && has_width (char_at leaf.text k)) ≡ false → unit_at faces leaf from k ≡ 0
unfolding unit_at
thin faces leaf from k h = by (span_at leaf.spans k)
  where
    by : (o : Option Span) → width_in faces leaf.text from k o ≡ 0
    by None = refl
    by (Some s) = thin-byte (pen_of faces s) leaf.text (max from s.from) k h

-- what is known of the first character with a width
pub record IsFirstWide (text : List ℕ) (a n k : ℕ) : Type 0 where
  pub low : a ≤ k
  pub high : k < a + n
  pub thin : (j : ℕ) → a ≤ j → j < k → (is_lead (get_or text j 0) && has_width (char_at text j)) ≡ false

pub first-wide : (text : List ℕ) (a n k : ℕ) → first_wide text a n ≡ Some k → IsFirstWide text a n k
first-wide text a zero k e = absurd cc
first-wide text a (suc n) k e = by (is_lead (get_or text a 0) && has_width (char_at text a)) refl e (λ h. first-wide text (suc a) n k h)
  where
    by : (b : Bool) → (is_lead (get_or text a 0) && has_width (char_at text a)) ≡ b → cond b (Some a) (first_wide text (suc a) n) ≡ Some k →
        (first_wide text (suc a) n ≡ Some k → IsFirstWide text (suc a) n k) → IsFirstWide text a (suc n) k
    by true t e more = let s : a ≡ k = cc in record { low = omega arith; high = omega arith; thin = λ j g h. absurd (omega arith) }
    by false t e more =
        let m = more e in
        let l = m.low in
        let h = m.high in
        record {
          low = omega arith;
          high = omega arith;
          thin = λ j g h. ⊎_elim (λ (z : a < j). m.thin j z h) (λ (z : j ≤ a). let s : j ≡ a = omega arith in subst (λ (i : ℕ). (is_lead (get_or text i 0) && has_width (char_at text i)) ≡ false) (sym s) t) (cases_lt a j);
        }

sum-thin : (unit : ℕ → ℕ) (a m n : ℕ) → ((j : ℕ) → a + m ≤ j → j < a + m + n → unit j ≡ 0) → sum_from unit a (m + n) ≡ sum_from unit a m
sum-thin unit a m zero h = let e : m + 0 ≡ m = omega arith in rw e refl
sum-thin unit a m (suc n) h =
    let e : m + suc n ≡ suc (m + n) = omega arith in
    let s = sum-thin unit a m n (λ j g l. h j g (omega arith)) in
    let z = h (a + (m + n)) (omega arith) (omega arith) in
    rw e (omega (arith, s, z))

-- where the line begins that begins at a place
pub next-some : (faces : List FontFace) (leaf : Leaf) (from to n k : ℕ) → from ≤ to → first_wide leaf.text to n ≡ Some k →
    (pos (sum_from (unit_at faces leaf from) from (to - from)) +ℤ pos (unit_at faces leaf from k)) -ℤ pos (unit_at faces leaf k k)
    ≡ next_of faces leaf from to (first_wide leaf.text to n)
next-some faces leaf from to n k low e =
    let is = first-wide leaf.text to n k e in
    let l = is.low in
    let i : (to - from) + (k - to) ≡ k - from = omega arith in
    let j : from + (to - from) ≡ to = omega arith in
    let s : sum_from (unit_at faces leaf from) from ((to - from) + (k - to)) ≡ sum_from (unit_at faces leaf from) from (to - from) =
    sum-thin (unit_at faces leaf from) from (to - from) (k - to) (λ q g h. thin faces leaf from q (is.thin q (omega arith) (omega arith))) in
    let s' : sum_from (unit_at faces leaf from) from (k - from) ≡ sum_from (unit_at faces leaf from) from (to - from) = rw i at s in
    let t : suc k - from ≡ suc (k - from) = omega arith in
    let u : from + (k - from) ≡ k = omega arith in
    rw (e, t, u, s') refl

-- the widths are small
pub passed-small : (faces : List FontFace) (leaf : Leaf) (from at : ℕ) (r : LineWidth) → from < length leaf.text → length leaf.text < 2 ^ 32 →
    IsPassed faces leaf from at r → r.total ≤ℤ pos (2 ^ 59)
passed-small faces leaf from at r inside few is =
    let s = stop_within leaf.text from (omega arith) in
    let w = is.within in
    let m = is.small in
    omega (arith, ints, s)

pub good-stop : (faces : List FontFace) (leaf : Leaf) (from at : ℕ) (r : LineWidth) (hyphen next : ℤ) (n : ℕ) → from < length leaf.text →
    length leaf.text < 2 ^ 32 → IsPassed faces leaf from at r → hyphen ≡ pos n → n ≤ 2 ^ 27 → IsWithin (2 ^ 60) next →
    IsGoodStop (record { seen = r.shown; hyphen = hyphen; next = next })
good-stop faces leaf from at r hyphen next n inside few is e most within =
    let t = passed-small faces leaf from at r inside few is in
    let s = shown-small faces leaf from at r is in
    let low = s.0 in
    let high = s.1 in
    record {
      seen = omega (arith, ints);
      hyphen = omega (arith, ints);
      next = within;
    }
