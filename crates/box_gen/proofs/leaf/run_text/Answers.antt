use Rattle.std.proofs.Common.{◌≡◌, ◌∙◌, ℕ, List, Option, length, option_map, ap, sym, subst, arith}
use Rattle.std.specs.List.{All}
use Rattle.std.specs.Str.{IsCharBoundary}
use Rattle.boxes.specs.Contents.{IsGoodSpan}
use Rattle.inline_text.specs.Joined.{Laid, ends_from, joined}
use Rattle.soft_hyphens.specs.Words.{Points, points_in}
use Rattle.soft_hyphens.proofs.TextLemmas.{ends-length}
use Rattle.box_gen.specs.declared.inline.ItemMark.{ItemMark}
use Rattle.box_gen.specs.Runs.{marks_in, printed_in, spans_from, styles_in}
use Rattle.box_gen.proofs.TextLemmas.{printed-length}
use Rattle.box_gen.proofs.LeafLemmas.{good_run, spans_good}
use Rattle.box_gen.proofs.leaf.run_text.Goals as goal

pub marked_run-requires-clause-each : goal.marked_run-requires-clause-each
marked_run-requires-clause-each c =
    let items = c.args.items.now in
    let points : Option Points = points_in (option_map (λ h. h.now) c.args.hyphenator) in
    let marks : c.deref.result.now ≡ marks_in items = c.deref.ensures.value ∙ c.in-Ok.ensures.marks in
    ap (λ (j : Laid). length j.ends) c.in-Ok.ensures.texts ∙ ends-length 0 (printed_in points items) ∙ printed-length points items ∙ sym (ap (λ (l : List ItemMark). length (styles_in l)) marks)

pub returns-in-Ok-marked_run-clause-good : goal.returns-in-Ok-marked_run-clause-good
returns-in-Ok-marked_run-clause-good c =
    let items = c.args.items.now in
    let points : Option Points = points_in (option_map (λ h. h.now) c.args.hyphenator) in
    let run = c.in-Ok-marked_run.run' in
    let marks : c.deref.result.now ≡ marks_in items = c.deref.ensures.value ∙ c.in-Ok.ensures.marks in
    let text : run.text ≡ joined (printed_in points items) = c.in-Ok-marked_run.ensures.text ∙ ap (λ (j : Laid). j.bytes) c.in-Ok.ensures.texts in
    let spans : run.spans ≡ spans_from 0 (styles_in (marks_in items)) (printed_in points items) = c.in-Ok-marked_run.ensures.spans (printed_in points items) c.in-Ok.ensures.texts ∙ ap (λ (l : List ItemMark). spans_from 0 (styles_in l) (printed_in points items)) marks in
    let stand : All (IsCharBoundary run.text) (ends_from 0 (printed_in points items)) =
    subst (λ (t : List ℕ). All (IsCharBoundary t) (ends_from 0 (printed_in points items))) (sym c.in-Ok-marked_run.ensures.text)
    (subst (λ (es : List ℕ). All (IsCharBoundary c.in-Ok.said.0.bytes) es) (ap (λ (j : Laid). j.ends) c.in-Ok.ensures.texts) c.in-Ok-marked_run.ensures.stand) in
    let fit = c.if-len-most.false in
    let most = c.requires in
    let a = c.len.ensures.value in
    let b = ap (λ (l : List ℕ). length l) c.in-Ok-marked_run.ensures.text in
    good_run points items run text spans stand (omega (arith, fit, most, a, b))

pub returns-in-Ok-marked_run-clause-sizes : goal.returns-in-Ok-marked_run-clause-sizes
returns-in-Ok-marked_run-clause-sizes c = λ good.
    let items = c.args.items.now in
    let points : Option Points = points_in (option_map (λ h. h.now) c.args.hyphenator) in
    let marks : c.deref.result.now ≡ marks_in items = c.deref.ensures.value ∙ c.in-Ok.ensures.marks in
    subst (All IsGoodSpan) (sym (c.in-Ok-marked_run.ensures.spans (printed_in points items) c.in-Ok.ensures.texts ∙ ap (λ (l : List ItemMark). spans_from 0 (styles_in l) (printed_in points items)) marks)) (spans_good 0 (styles_in (marks_in items)) (printed_in points items) good)
