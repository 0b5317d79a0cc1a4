use Rattle.std.proofs.Common.{◌≡◌, ◌≤◌, ℕ, Bool, true, false, cond, length, sym, ap, ◌∙◌, arith}
use Rattle.page_seq.specs.Places.{has_solid}
use Rattle.page_seq.proofs.PlaceLemmas.{last_page_more}
use Rattle.page_seq.proofs.places.last_page.Goals as goal

-- one of two numbers within a bound is within it
within : (b : Bool) (m n k : ℕ) → m ≤ k → n ≤ k → cond b m n ≤ k
within true m n k h l = h
within false m n k h l = l

pub loop-number-preserved : goal.loop-number-preserved
loop-number-preserved c =
    let more = last_page_more c.args.pages.now c.loop-number.number c.index-pages-number.result c.loop-number-test.true c.index-pages-number.is in
    let chosen : c.last_or-last.result ≡ cond (has_solid c.index-pages-number.result) c.loop-number.number c.loop-number.last = c.last_or-last.ensures ∙ ap (λ b. cond b c.loop-number.number c.loop-number.last) c.has_solid.ensures in (
      chosen ∙ (ap (λ n. cond (has_solid c.index-pages-number.result) c.loop-number.number n) c.loop-number.invariant.0 ∙ sym more),
      rw chosen (within (has_solid c.index-pages-number.result) c.loop-number.number c.loop-number.last (length c.args.pages.now) (omega arith) c.loop-number.invariant.1),
    )
