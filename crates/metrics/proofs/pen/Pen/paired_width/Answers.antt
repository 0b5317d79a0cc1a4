use Rattle.std.proofs.Common.{◌≡◌, ◌-◌, ◌<◌, suc, ℕ, List, length, Some, get_or, sym, ap, ap₂, ◌∙◌, arith}
use Rattle.metrics.specs.Widths.{last_from, last_with, width_after}
use Rattle.metrics.proofs.LastLemmas.{ascii_paired, last_here, last_step}
use Rattle.metrics.proofs.WidthLemmas.{begun_ascii}
use Rattle.metrics.proofs.pen.Pen.paired_width.Goals as goal

-- behind an ASCII character
behind : (text : List ℕ) (begin at : ℕ) → begin < at → at - 1 < length text → get_or text (at - 1) 0 < 128 → last_from text begin (at - begin) ≡ Some (get_or text (at - 1) 0)
behind text begin at h within low =
    let some : suc (at - 1) ≡ at = omega arith in
    ap (λ (n : ℕ). last_from text begin (n - begin)) (sym some) ∙ last_step text begin (at - 1) (omega arith)
    ∙ ap (last_with (last_from text begin (at - 1 - begin))) (begun_ascii text (at - 1) within low)
    ∙ last_here (last_from text begin (at - 1 - begin)) (get_or text (at - 1) 0) (ascii_paired (get_or text (at - 1) 0) low)

pub returns-then-byte-lt128-clause-value : goal.returns-then-byte-lt128-clause-value
returns-then-byte-lt128-clause-value c =
    let within = c.requires in
    let before = behind c.args.text.now c.args.begin c.args.at c.if-begin-at.true (omega arith) (rw c.as_bytes-bytes.ensures.value at c.if-first-lt128.true) in
    let here = begun_ascii c.args.text.now c.args.at within (rw c.as_bytes-bytes.ensures.value at c.if-byte-lt128.true) in
    c.ascii_paired_width.ensures.value ∙ rw c.as_bytes-bytes.ensures.value (sym (ap₂ (width_after c.args.self.now) before here))
