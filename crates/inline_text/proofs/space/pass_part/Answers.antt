use Rattle.std.proofs.Common.{◌≡◌, ◌∙◌, ◌+◌, ◌++◌, ◌<◌, ◌≤◌, List, ℕ, true, false, get_or, length, drop, ap, ap₂, sym, subst, arith}
use Rattle.std.specs.List.{slice_range}
use Rattle.std.specs.Str.{chars, IsCharBoundary}
use Rattle.std.proofs.lemmas.List.{drop_all}
use Rattle.std.proofs.lemmas.Str.{IsCharBoundary-start, chars-nil}
use Rattle.bk_num.specs.declared.values.WhiteSpace.{WhiteSpace}
use Rattle.inline_text.specs.Joined.{Laid, laid_on}
use Rattle.inline_text.specs.Space.{Char, class_of, marked}
use Rattle.inline_text.specs.Gaps.{is_white, laid, left_from, next_gap, put_of, settled, stops}
use Rattle.inline_text.specs.declared.space.CharClass.{CharClass}
use Rattle.inline_text.specs.declared.space.Gap.{Gap}
use Rattle.inline_text.specs.declared.space.Gap.TheVariants.{Open}
use Rattle.inline_text.proofs.WordLemmas.{white_goes, past_white, word_boundary, word_goes}
use Rattle.inline_text.proofs.space.pass_part.Goals as goal

pub loop-at-init : goal.loop-at-init
loop-at-init c = record {
  boundary = IsCharBoundary-start c.text-text.result.now c.text-text.utf8;
  goes = λ rest. sym (ap₂ (λ (t : List ℕ) (w : WhiteSpace). laid c.args.joined.now (left_from c.args.gap (marked w c.args.index (chars t) ++ rest))) c.text-text.ensures c.space-space.ensures);
}

pub loop-at-preserved-then-at-to : goal.loop-at-preserved-then-at-to
loop-at-preserved-then-at-to c =
    let inv = c.loop-at.invariant in
    let text : List ℕ = c.text-text.result.now in
    let same : c.as_bytes-bytes.result.now ≡ text = c.as_bytes-bytes.ensures.value in
    let at : ℕ = c.loop-at.at in
    let to : ℕ = c.word_end-to.result in
    let s = c.space-space.result in
    let k : ℕ = c.args.index in
    let plain : (j : ℕ) → at ≤ j → j < to → stops text at j ≡ false = subst (λ (l : List ℕ). (j : ℕ) → at ≤ j → j < to → stops l at j ≡ false) same c.word_end-to.ensures.word in
    let inside : to ≤ length text = subst (λ (l : List ℕ). to ≤ length l) same c.word_end-to.ensures.end in
    let stop : to < length text → is_white (get_or text to 0) ≡ true = subst (λ (l : List ℕ). to < length l → is_white (get_or l to 0) ≡ true) same c.word_end-to.ensures.white in
    let boundary : IsCharBoundary text to = word_boundary text to inside stop in
    let puts : c.put_word.new.joined ≡ laid_on (settled c.loop-at.joined c.loop-at.gap) k (slice_range text at to) = c.in_ok-put_word.ensures ∙ ap (λ (w : List ℕ). laid_on (settled c.loop-at.joined c.loop-at.gap) k w) c.range.ensures.value in
    record {
      boundary = boundary;
      goes = λ rest.
          inv.goes rest
          ∙ word_goes c.loop-at.joined c.loop-at.gap s k text at to rest c.text-text.utf8 inv.boundary boundary c.if-at-to.true plain stop
          ∙ ap (λ (t : Laid). laid t (left_from Open (marked s k (chars (drop to text)) ++ rest))) (sym puts);
    }

pub loop-at-preserved : goal.loop-at-preserved
loop-at-preserved c =
    let inv = c.loop-at.invariant in
    let text : List ℕ = c.text-text.result.now in
    let same : c.as_bytes-bytes.result.now ≡ text = c.as_bytes-bytes.ensures.value in
    let at : ℕ = c.loop-at.at in
    let s = c.space-space.result in
    let k : ℕ = c.args.index in
    let x : ℕ = get_or text at 0 in
    let inside : at < length text = subst (λ (l : List ℕ). at < length l) same c.loop-at-test.true in
    let start = c.word_end-to.ensures.start in
    let here : c.word_end-to.result ≡ at = omega (arith, start, c.if-at-to.false) in
    let stop : at < length c.as_bytes-bytes.result.now → is_white (get_or c.as_bytes-bytes.result.now at 0) ≡ true = subst (λ (n : ℕ). n < length c.as_bytes-bytes.result.now → is_white (get_or c.as_bytes-bytes.result.now n 0) ≡ true) here c.word_end-to.ensures.white in
    let white : is_white x ≡ true = subst (λ (l : List ℕ). is_white (get_or l at 0) ≡ true) same (stop c.loop-at-test.true) in
    let byte : get_or c.as_bytes-bytes.result.now at 0 ≡ x = ap (λ (l : List ℕ). get_or l at 0) same in
    let class : c.class_of-class.result ≡ class_of x s = c.class_of-class.ensures ∙ ap (λ (b : ℕ). class_of b s) byte in
    let puts : c.put.new.joined ≡ put_of c.loop-at.joined c.loop-at.gap (class_of x s) x k = c.in_ok-put.ensures ∙ ap₂ (λ (q : CharClass) (b : ℕ). put_of c.loop-at.joined c.loop-at.gap q b k) class byte in
    let gaps : c.next_gap-gap.result ≡ next_gap c.loop-at.gap (class_of x s) k = c.next_gap-gap.ensures ∙ ap (λ (q : CharClass). next_gap c.loop-at.gap q k) class in
    record {
      boundary = past_white text at c.text-text.utf8 inside white;
      goes = λ rest.
          let cs : List Char = marked s k (chars (drop (at + 1) text)) ++ rest in
          inv.goes rest ∙ white_goes c.loop-at.joined c.loop-at.gap s k text at rest c.text-text.utf8 inv.boundary inside white
          ∙ ap₂ (λ (t : Laid) (g : Gap). laid t (left_from g cs)) (sym puts) (sym gaps);
    }

pub returns : goal.returns
returns c = λ rest.
    c.loop-at.invariant.goes rest ∙ ap (λ (l : List ℕ). laid c.loop-at.joined (left_from c.loop-at.gap (marked c.space-space.result c.args.index l ++ rest)))
    (ap chars (drop_all c.loop-at.at c.text-text.result.now (omega (arith, c.loop-at-test.false, c.as_bytes-bytes.ensures.len))) ∙ chars-nil)
