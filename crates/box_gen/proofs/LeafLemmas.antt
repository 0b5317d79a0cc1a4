-- The spans of a run cover its text, and are as good as its texts.
use Rattle.std.proofs.Common.{◌≡◌, ◌∙◌, ℕ, ◌+◌, ◌<◌, ◌≤◌, Bool, true, false, cond, ltb, List, [], ◌∷◌, ◌++◌, length, refl, sym, ap, subst, arith, length-append, append_assoc, append-nil, Option}
use Rattle.std.specs.List.{All}
use Rattle.std.specs.Str.{IsCharBoundary}
use Rattle.std.proofs.lemmas.List.Elements.{All-nil, All-cons, All-head, All-tail}
use Rattle.std.proofs.lemmas.Bool.Decides.{nat_tests}
use Rattle.bk_num.specs.Limits.{most_text_bytes}
use Rattle.boxes.specs.Contents.{AreSpans, IsGoodSpan}
use Rattle.boxes.specs.declared.leaf.Span.{Span}
use Rattle.inline_text.specs.Joined.{ends_from, joined}
use Rattle.soft_hyphens.specs.Words.{Points}
use Rattle.box_gen.specs.declared.text_style.TextStyle.{TextStyle}
use Rattle.box_gen.specs.TextStyles.{IsGoodTextStyle, span_by}
use Rattle.box_gen.specs.Items.{InlineItem}
use Rattle.box_gen.specs.declared.leaf.RunText.{RunText}
use Rattle.box_gen.specs.Leaves.{IsGoodRun}
use Rattle.box_gen.specs.Runs.{marks_in, printed_in, spans_from, styles_in}
use Rattle.box_gen.proofs.TextLemmas.{printed-length}

pub spans_cover : (whole before : List ℕ) (ss : List TextStyle) (ts : List (List ℕ)) → length ts ≡ length ss → whole ≡ before ++ joined ts → All (IsCharBoundary whole) (ends_from (length before) ts) → AreSpans whole (length before) (spans_from (length before) ss ts)
spans_cover whole before [] [] n e u = sym (ap (λ (l : List ℕ). length l) (e ∙ append-nil before))
spans_cover whole before [] (t ∷ ts) n e u = absurd (omega arith)
spans_cover whole before (s ∷ ss) [] n e u = absurd (omega arith)
spans_cover whole before (s ∷ ss) (t ∷ ts) n e u = by (subst (λ (k : ℕ). AreSpans whole k (spans_from k ss ts)) (length-append before t) (spans_cover whole (before ++ t) ss ts (omega arith) (e ∙ sym (append_assoc before t (joined ts))) (subst (λ (n : ℕ). All (IsCharBoundary whole) (ends_from n ts)) (sym (length-append before t)) (All-tail (IsCharBoundary whole) (length before + length t) (ends_from (length before + length t) ts) u)))) (ltb (length before) (length before + length t)) refl
  where
    by : AreSpans whole (length before + length t) (spans_from (length before + length t) ss ts) → (b : Bool) → ltb (length before) (length before + length t) ≡ b → AreSpans whole (length before) (cond b (span_by s (length before) (length before + length t) ∷ []) [] ++ spans_from (length before + length t) ss ts)
    by rest true h = (refl, omega arith, All-head (IsCharBoundary whole) (length before + length t) (ends_from (length before + length t) ts) u, rest)
    by rest false h = let same : length before + length t ≡ length before = grind (arith, nat_tests) in subst (λ (k : ℕ). AreSpans whole k (spans_from (length before + length t) ss ts)) same rest

pub spans_few : (at : ℕ) (ss : List TextStyle) (ts : List (List ℕ)) → length (spans_from at ss ts) ≤ length (joined ts)
spans_few at [] ts = omega arith
spans_few at (s ∷ ss) [] = omega arith
spans_few at (s ∷ ss) (t ∷ ts) = by (ltb at (at + length t)) refl (spans_few (at + length t) ss ts)
  where
    by : (b : Bool) → ltb at (at + length t) ≡ b → length (spans_from (at + length t) ss ts) ≤ length (joined ts) → length (cond b (span_by s at (at + length t) ∷ []) [] ++ spans_from (at + length t) ss ts) ≤ length (t ++ joined ts)
    by true h l = let n = length-append t (joined ts) in let some : 0 < length t = grind (arith, nat_tests) in omega arith
    by false h l = let n = length-append t (joined ts) in omega arith

pub spans_good : (at : ℕ) (ss : List TextStyle) (ts : List (List ℕ)) → All IsGoodTextStyle ss → All IsGoodSpan (spans_from at ss ts)
spans_good at [] ts a = All-nil IsGoodSpan
spans_good at (s ∷ ss) [] a = All-nil IsGoodSpan
spans_good at (s ∷ ss) (t ∷ ts) a = by (ltb at (at + length t)) (All-head IsGoodTextStyle s ss a) (spans_good (at + length t) ss ts (All-tail IsGoodTextStyle s ss a))
  where
    by : (b : Bool) → IsGoodTextStyle s → All IsGoodSpan (spans_from (at + length t) ss ts) → All IsGoodSpan (cond b (span_by s at (at + length t) ∷ []) [] ++ spans_from (at + length t) ss ts)
    by true g more = All-cons IsGoodSpan (span_by s at (at + length t)) (spans_from (at + length t) ss ts) (record { size = g.size; line_height = g.line_height }) more
    by false g more = more

-- a run whose text and spans are these is good
pub good_run : (points : Option Points) (items : List InlineItem) (r : RunText) → r.text ≡ joined (printed_in points items) → r.spans ≡ spans_from 0 (styles_in (marks_in items)) (printed_in points items) → All (IsCharBoundary r.text) (ends_from 0 (printed_in points items)) → length r.text ≤ most_text_bytes → IsGoodRun r
good_run points items r text spans u short =
    let ss : List TextStyle = styles_in (marks_in items) in
    let ts : List (List ℕ) = printed_in points items in
    record {
      spans = subst (AreSpans r.text 0) (sym spans) (spans_cover r.text [] ss ts (printed-length points items) text u);
      few = (let n = spans_few 0 ss ts in let a = ap (λ (l : List ℕ). length l) text in let b = ap (λ (l : List Span). length l) spans in omega (arith, n, a, b));
      short = short;
    }
