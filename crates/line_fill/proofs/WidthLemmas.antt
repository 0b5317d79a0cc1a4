-- Widths that bytes are added to.
use Rattle.std.proofs.Common.{◌≡◌, ◌≢◌, ℕ, zero, suc, ◌+◌, ◌-◌, ◌<◌, ◌≤◌, ℤ, pos, ◌+ℤ◌, cond, ◌||◌, eqb, List, length, get_or, refl, ◌∙◌, arith, add-zero}
use Rattle.metrics.specs.Widths.{sum_from}
use Rattle.line_fill.specs.declared.line_width.LineWidth.{LineWidth}
use Rattle.line_fill.specs.Fill.{passed, passed_to, AreWidths}
use Rattle.line_fill.specs.LineEnd.{shown_len, stop_of}
use Rattle.line_fill.proofs.LineLemmas.{next_total, next_shown, shown-other, stop-step}

pub passed_to-step : (unit : ℕ → ℕ) (text : List ℕ) (at k : ℕ) (r : LineWidth) → at ≤ k → passed_to unit text at (k + 1 - at) r ≡ passed (get_or text k 0) (unit k) (passed_to unit text at (k - at) r)
passed_to-step unit text at k r h =
    let e : k + 1 - at ≡ suc (k - at) = omega arith in
    let f : at + (k - at) ≡ k = omega arith in
    rw (e, f) refl

-- one more byte, and a whole run
module _ (unit : ℕ → ℕ) (text : List ℕ) (from : ℕ) where
  pub record IsShown (at : ℕ) (r : LineWidth) : Type 0 where
    pub total : r.total ≡ pos (sum_from unit from (at - from))
    pub shown : r.shown ≡ pos (sum_from unit from (shown_len text from (at - from)))

  pub more_widths : (at : ℕ) (r : LineWidth) → from ≤ at → AreWidths unit text from at r → IsShown (suc at) (passed (get_or text at 0) (unit at) r)
  unfolding passed
  more_widths at r low is = record {
    total = next_total unit text from at low r.total r.shown (r.total +ℤ pos (unit at)) (cond (eqb (get_or text at 0) 32 || eqb (get_or text at 0) 10) r.shown (r.total +ℤ pos (unit at))) (get_or text at 0) refl is.total is.shown refl refl;
    shown = next_shown unit text from at low r.total r.shown (r.total +ℤ pos (unit at)) (cond (eqb (get_or text at 0) 32 || eqb (get_or text at 0) 10) r.shown (r.total +ℤ pos (unit at))) (get_or text at 0) refl is.total is.shown refl refl;
  }

  pub goes_on : (at : ℕ) (r : LineWidth) → from ≤ at → get_or text at 0 ≢ 10 → IsShown (suc at) r → AreWidths unit text from (suc at) r
  goes_on at r low n is = record { total = is.total; shown = rw (← shown-other text from at low n) is.shown }

  -- n bytes and one more, where the n are no newlines
  pub run_shown : (at n : ℕ) (r : LineWidth) → from ≤ at → AreWidths unit text from at r → ((k : ℕ) → at ≤ k → k < at + n → get_or text k 0 ≢ 10) → IsShown (suc (at + n)) (passed_to unit text at (suc n) r)
  run_shown at zero r low is quiet = rw add-zero (more_widths at r low is)
  run_shown at (suc n) r low is quiet =
      let before : IsShown (suc (at + n)) (passed_to unit text at (suc n) r) = run_shown at n r low is (λ k h l. quiet k h (omega arith)) in
      let e : at + suc n ≡ suc (at + n) = omega arith in
      let other : get_or text (at + n) 0 ≢ 10 = quiet (at + n) (omega arith) (omega arith) in
      rw e (more_widths (suc (at + n)) (passed_to unit text at (suc n) r) (omega arith) (goes_on (at + n) (passed_to unit text at (suc n) r) (omega arith) other before))

-- where the segment stops, past bytes that are no newlines
pub stop_quiet : (text : List ℕ) (at n : ℕ) → at + n ≤ length text → ((k : ℕ) → at ≤ k → k < at + n → get_or text k 0 ≢ 10) → stop_of text at ≡ stop_of text (at + n)
stop_quiet text at zero h quiet = rw add-zero refl
stop_quiet text at (suc n) h quiet =
    let e : at + suc n ≡ suc (at + n) = omega arith in
    stop_quiet text at n (omega arith) (λ k a b. quiet k a (omega arith)) ∙ rw e (stop-step text (at + n) (omega arith) (quiet (at + n) (omega arith) (omega arith)))
