use Rattle.std.proofs.Common.{◌≡◌, ◌∙◌, ◌+◌, ◌++◌, ◌∷◌, [], ℕ, List, drop, get_or, ap, sym, subst, arith, append_assoc, append-nil}
use Rattle.std.specs.List.{All}
use Rattle.std.specs.Str.{IsCharBoundary}
use Rattle.std.proofs.lemmas.List.{drop_all, drop_more}
use Rattle.std.proofs.lemmas.Str.{IsCharBoundary-start}
use Rattle.inline_text.specs.declared.space.TextPart.{TextPart}
use Rattle.inline_text.specs.Joined.{Laid, ends_from, joined, laid_texts}
use Rattle.inline_text.specs.Space.{collapsed}
use Rattle.inline_text.proofs.EndLemmas.{NextText, next-text, next-range, after-range}
use Rattle.inline_text.proofs.space.collapse.Goals as goal

pub loop-to-init : goal.loop-to-init
loop-to-init c =
    let all : c.in_ok-joined.joined ≡ laid_texts (collapsed c.args.parts.now) = c.in_ok-joined.ensures ∙ ap (λ (ps : List TextPart). laid_texts (collapsed ps)) (c.deref.ensures.value ∙ c.in_ok-borrowed.ensures) in
    record {
      stand = IsCharBoundary-start c.text-text.result.now c.text-text.utf8;
      ends = c.ends-to-items.ensures.value ∙ ap (λ (j : Laid). j.ends) all;
      rest = c.text-text.ensures ∙ ap (λ (j : Laid). j.bytes) all;
      names = ap (λ (l : List (List ℕ)). l ++ collapsed c.args.parts.now) c.new-names.ensures;
    }

pub range-requires-clause-start_le_end : goal.range-requires-clause-start_le_end
range-requires-clause-start_le_end c =
    let ts : List (List ℕ) = collapsed c.args.parts.now in
    let i : ℕ = c.loop-to.to-index in
    let es : List ℕ = c.ends-to-items.result.now in
    let n : NextText ts i c.loop-to.from (get_or es i 0) (drop (i + 1) es) = next-text ts i c.loop-to.from (get_or es i 0) (drop (i + 1) es) (sym (drop_more es i 0 c.loop-to-test.true) ∙ c.loop-to.invariant.ends) in
    let end = n.end in
    omega (arith, end)

pub loop-to-preserved : goal.loop-to-preserved
loop-to-preserved c =
    let inv = c.loop-to.invariant in
    let ts : List (List ℕ) = collapsed c.args.parts.now in
    let i : ℕ = c.loop-to.to-index in
    let from : ℕ = c.loop-to.from in
    let text : List ℕ = c.text-text.result.now in
    let es : List ℕ = c.ends-to-items.result.now in
    let e : ℕ = get_or es i 0 in
    let n : NextText ts i from e (drop (i + 1) es) = next-text ts i from e (drop (i + 1) es) (sym (drop_more es i 0 c.loop-to-test.true) ∙ inv.ends) in
    let after : List ℕ = joined (drop (i + 1) ts) in
    let rest : drop from text ≡ n.text ++ after = inv.rest ∙ ap joined n.is in
    let stand : All (IsCharBoundary text) es = subst (λ (t : List ℕ). All (IsCharBoundary t) es) (sym c.text-text.ensures) (subst (All (IsCharBoundary c.in_ok-joined.joined.bytes)) (sym c.ends-to-items.ensures.value) c.ends-to-items.ensures.stand) in
    let name : c.in_ok-new.field-0 ≡ n.text = c.in_ok-new.ensures ∙ c.range.ensures.value ∙ next-range text n.text after from e rest n.end in
    record {
      stand = stand i 0 c.loop-to-test.true;
      ends = n.rest;
      rest = after-range text n.text after from e rest n.end;
      names = ap (λ (l : List (List ℕ)). l ++ drop (i + 1) ts) c.in_ok-push.ensures.ok ∙ append_assoc c.loop-to.names (c.in_ok-new.field-0 ∷ []) (drop (i + 1) ts)
          ∙ ap (λ (t : List ℕ). c.loop-to.names ++ t ∷ drop (i + 1) ts) name ∙ ap (λ (l : List (List ℕ)). c.loop-to.names ++ l) (sym n.is) ∙ inv.names;
    }

none-left : (ts : List (List ℕ)) (i from : ℕ) → [] ≡ ends_from from (drop i ts) → drop i ts ≡ []
none-left ts i from h = by (drop i ts) h
  where
    by : (l : List (List ℕ)) → [] ≡ ends_from from l → l ≡ []
    by [] k = cc
    by (t ∷ l) k = absurd (cc)

pub returns : goal.returns
returns c =
    let ts : List (List ℕ) = collapsed c.args.parts.now in
    let i : ℕ = c.loop-to.to-index in
    let es : List ℕ = c.ends-to-items.result.now in
    let none : drop i ts ≡ [] = none-left ts i c.loop-to.from (sym (drop_all i es (omega (arith, c.loop-to-test.false))) ∙ c.loop-to.invariant.ends) in
    sym (append-nil c.loop-to.names) ∙ ap (λ (l : List (List ℕ)). c.loop-to.names ++ l) (sym none) ∙ c.loop-to.invariant.names
