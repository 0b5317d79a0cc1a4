-- Widths of a part of a text, and of the part that begins at a later place of it.
use Rattle.std.proofs.Common.{◌≡◌, ◌≢◌, ℕ, zero, suc, ◌+◌, ◌-◌, ◌<◌, ◌≤◌, max, Bool, true, false, cond, eqb, inl, inr, ◌⊎◌, List, get_or, Option, None, Some, refl, sym, ◌∙◌, ap, subst, arith}
use Rattle.std.proofs.lemmas.Bool.{cases_lt}
use Rattle.std.proofs.lemmas.Bool.Decides.{nat_tests}
use Rattle.metrics.specs.Face.{FontFace}
use Rattle.metrics.specs.Pen.{PenView}
use Rattle.metrics.specs.Widths.{begun_at, byte_width, is_paired, last_from, last_with, sum_from, width_after}
use Rattle.boxes.specs.declared.leaf.Leaf.{Leaf}
use Rattle.boxes.specs.declared.leaf.Span.{Span}
use Rattle.line_fill.specs.Breaks.{shown_len, spaceless_len}
use Rattle.line_fill.specs.Widths.{pen_of, span_at, unit_at, width_in}

same-last : (b : Bool) (x y d n : ℕ) → x ≡ d + y → cond b x (suc (d + n)) ≡ d + cond b y (suc n)
same-last true x y d n e = e
same-last false x y d n e = omega arith

same-both : (b : Bool) (x y x' y' d : ℕ) → x ≡ d + x' → y ≡ d + y' → cond b x y ≡ d + cond b x' y'
same-both true x y x' y' d e f = e
same-both false x y x' y' d e f = f

least-both : (b : Bool) (x y : ℕ) → 1 ≤ x → 1 ≤ y → 1 ≤ cond b x y
least-both true x y e f = e
least-both false x y e f = f

-- what is shown of a text, and of its part from a byte on that is neither a space nor a newline
module _ (text : List ℕ) (from d : ℕ) (space : get_or text (from + d) 0 ≢ 32) (newline : get_or text (from + d) 0 ≢ 10) where
  no-space : eqb (get_or text (from + d) 0) 32 ≡ false
  no-space = grind (arith, nat_tests)

  no-newline : eqb (get_or text (from + d) 0) 10 ≡ false
  no-newline = grind (arith, nat_tests)

  spaceless-later : (n : ℕ) → spaceless_len text from (d + suc n) ≡ d + spaceless_len text (from + d) (suc n)
  spaceless-later zero =
      let i : d + 1 ≡ suc d = omega arith in
      let z : from + d + 0 ≡ from + d = omega arith in
      rw (i, z, no-space) (omega arith)
  spaceless-later (suc n) =
      let i : d + suc (suc n) ≡ suc (d + suc n) = omega arith in
      let z : from + d + suc n ≡ from + (d + suc n) = omega arith in
      rw (i, z) (same-last (eqb (get_or text (from + (d + suc n)) 0) 32) (spaceless_len text from (d + suc n)) (spaceless_len text (from + d) (suc n)) d (suc n) (spaceless-later n))

  pub shown-later : (n : ℕ) → shown_len text from (d + suc n) ≡ d + shown_len text (from + d) (suc n)
  shown-later zero =
      let i : d + 1 ≡ suc d = omega arith in
      let z : from + d + 0 ≡ from + d = omega arith in
      rw (i, z, no-newline, no-space) (omega arith)
  shown-later (suc n) =
      let i : d + suc (suc n) ≡ suc (d + suc n) = omega arith in
      let z : from + d + suc n ≡ from + (d + suc n) = omega arith in
      let l : spaceless_len text from (suc (d + suc n)) ≡ d + spaceless_len text (from + d) (suc (suc n)) =
      subst (λ (k : ℕ). spaceless_len text from k ≡ d + spaceless_len text (from + d) (suc (suc n))) i (spaceless-later (suc n)) in
      rw (i, z) (same-both (eqb (get_or text (from + (d + suc n)) 0) 10) _ _ _ _ d (spaceless-later n) (rw z at l))

  spaceless-some : (n : ℕ) → 1 ≤ spaceless_len text (from + d) (suc n)
  spaceless-some zero = let z : from + d + 0 ≡ from + d = omega arith in rw (z, no-space) (omega arith)
  spaceless-some (suc n) =
      least-both (eqb (get_or text (from + d + suc n) 0) 32) (spaceless_len text (from + d) (suc n)) (suc (suc n)) (spaceless-some n) (omega arith)

  pub shown-some : (n : ℕ) → 1 ≤ shown_len text (from + d) (suc n)
  shown-some zero = let z : from + d + 0 ≡ from + d = omega arith in rw (z, no-newline, no-space) (omega arith)
  shown-some (suc n) =
      least-both (eqb (get_or text (from + d + suc n) 0) 10) (spaceless_len text (from + d) (suc n)) (spaceless_len text (from + d) (suc (suc n))) (spaceless-some n) (spaceless-some (suc n))

-- sums that differ at the later place and before it alone
module _ (u v : ℕ → ℕ) (from d : ℕ) (same : (k : ℕ) → from + d < k → u k ≡ v k) where
  pub sum-later : (n : ℕ) → sum_from u from (d + suc n) + v (from + d) ≡ sum_from v (from + d) (suc n) + (sum_from u from d + u (from + d))
  sum-later zero =
      let i : d + 1 ≡ suc d = omega arith in
      let z : from + d + 0 ≡ from + d = omega arith in
      rw (i, z) (omega arith)
  sum-later (suc n) =
      let i : d + suc (suc n) ≡ suc (d + suc n) = omega arith in
      let z : from + d + suc n ≡ from + (d + suc n) = omega arith in
      let e = sum-later n in
      let s = same (from + (d + suc n)) (omega arith) in
      rw (i, z) (omega arith)

-- the last character that may stand first in a pair, where one begins at a later place
pub last-later : (text : List ℕ) (from d c : ℕ) → begun_at text (from + d) ≡ Some c → is_paired c ≡ true → (n : ℕ) →
    last_from text from (d + suc n) ≡ last_from text (from + d) (suc n)
last-later text from d c here paired zero =
    let i : d + 1 ≡ suc d = omega arith in
    let z : from + d + 0 ≡ from + d = omega arith in
    rw (i, z, here, paired) refl
last-later text from d c here paired (suc n) =
    let i : d + suc (suc n) ≡ suc (d + suc n) = omega arith in
    let z : from + d + suc n ≡ from + (d + suc n) = omega arith in
    rw (i, z) (ap (λ (o : Option ℕ). last_with o (begun_at text (from + (d + suc n)))) (last-later text from d c here paired n))

pub byte-later : (p : PenView) (text : List ℕ) (from to k c : ℕ) → begun_at text to ≡ Some c → is_paired c ≡ true → from ≤ to → to < k →
    byte_width p text from k ≡ byte_width p text to k
unfolding byte_width
byte-later p text from to k c here paired low high =
    let d : from + (to - from) ≡ to = omega arith in
    let i : (to - from) + suc (k - suc to) ≡ k - from = omega arith in
    let j : suc (k - suc to) ≡ k - to = omega arith in
    let h : begun_at text (from + (to - from)) ≡ Some c = rw d here in
    let l : last_from text from (k - from) ≡ last_from text to (k - to) =
    ap (last_from text from) (sym i) ∙ last-later text from (to - from) c h paired (k - suc to)
    ∙ ap (λ (a : ℕ). last_from text a (suc (k - suc to))) d ∙ ap (last_from text to) j in
    ap (λ (o : Option ℕ). width_after p o (begun_at text k)) l

-- what a byte after the later place adds doesn't depend on which of the two the part begins at
pub unit-later : (faces : List FontFace) (leaf : Leaf) (from to k c : ℕ) → begun_at leaf.text to ≡ Some c → is_paired c ≡ true → from ≤ to → to < k →
    unit_at faces leaf from k ≡ unit_at faces leaf to k
unfolding unit_at
unit-later faces leaf from to k c here paired low high = by (span_at leaf.spans k)
  where
    in_span : (s : Span) → (s.from < to) ⊎ (to ≤ s.from) → byte_width (pen_of faces s) leaf.text (max from s.from) k ≡ byte_width (pen_of faces s) leaf.text (max to s.from) k
    in_span s (inl l) =
        let e : max to s.from ≡ to = omega arith in
        rw e (byte-later (pen_of faces s) leaf.text (max from s.from) to k c here paired (omega arith) high)
    in_span s (inr l) =
        let e : max to s.from ≡ max from s.from = omega arith in
        rw e refl

    by : (o : Option Span) → width_in faces leaf.text from k o ≡ width_in faces leaf.text to k o
    by None = refl
    by (Some s) = in_span s (cases_lt s.from to)
