-- The spans and the starts of a run, by where its texts end.
use Rattle.std.proofs.Common.{◌≡◌, ◌∙◌, ℕ, ◌+◌, ◌<◌, ◌≤◌, List, [], ◌∷◌, ◌++◌, length, drop, get_or, sym, ap, ap₂, subst, arith, append_assoc}
use Rattle.bk_num.specs.Limits.{most_text_bytes}
use Rattle.bk_num.specs.declared.ids.NodeId.{NodeId}
use Rattle.boxes.specs.declared.leaf.Span.{Span}
use Rattle.inline_text.specs.Joined.{ends_from}
use Rattle.inline_text.proofs.EndLemmas.{NextText}
use Rattle.box_gen.specs.declared.inline.InlineStart.{InlineStart}
use Rattle.box_gen.specs.declared.inline.ItemMark.{ItemMark}
use Rattle.box_gen.specs.declared.inline.ItemMark.TheVariants.{Text, Start}
use Rattle.box_gen.specs.declared.text_style.TextStyle.{TextStyle}
use Rattle.box_gen.specs.Runs.{span_between, spans_from, starts_from, styles_in}
use Rattle.box_gen.proofs.TextLemmas.{ends-step}

-- what the loop over the marks of a run keeps, after so many marks and texts
pub record IsFilled (marks : List ItemMark) (ends : List ℕ) (spans₀ : List Span) (starts₀ : List InlineStart) (i next at : ℕ) (spans : List Span) (starts : List InlineStart) : Type 0 where
  pub each : next + length (styles_in (drop i marks)) ≡ length ends
  pub short : at ≤ most_text_bytes
  pub stops : (texts : List (List ℕ)) → ends ≡ ends_from 0 texts → drop next ends ≡ ends_from at (drop next texts)
  pub filled : (texts : List (List ℕ)) → ends ≡ ends_from 0 texts → spans ++ spans_from at (styles_in (drop i marks)) (drop next texts) ≡ spans₀ ++ spans_from 0 (styles_in marks) texts
  pub noted : (texts : List (List ℕ)) → ends ≡ ends_from 0 texts → starts ++ starts_from at (drop i marks) (drop next texts) ≡ starts₀ ++ starts_from 0 marks texts

pub filled-as : (marks : List ItemMark) (ends : List ℕ) (spans₀ : List Span) (starts₀ : List InlineStart) (i next at : ℕ) (spans : List Span) (starts : List InlineStart) (m b : ℕ) (ps : List Span) (ss : List InlineStart) →
    m ≡ next → b ≡ at → ps ≡ spans → ss ≡ starts → IsFilled marks ends spans₀ starts₀ i next at spans starts → IsFilled marks ends spans₀ starts₀ i m b ps ss
filled-as marks ends spans₀ starts₀ i next at spans starts m b ps ss n a p s f =
    subst (λ (x : ℕ). IsFilled marks ends spans₀ starts₀ i x b ps ss) (sym n)
    (subst (λ (x : ℕ). IsFilled marks ends spans₀ starts₀ i next x ps ss) (sym a)
    (subst (λ (x : List Span). IsFilled marks ends spans₀ starts₀ i next at x ss) (sym p)
    (subst (λ (x : List InlineStart). IsFilled marks ends spans₀ starts₀ i next at spans x) (sym s) f)))

pub fill-text : (marks : List ItemMark) (ends : List ℕ) (spans₀ : List Span) (starts₀ : List InlineStart) (i next at : ℕ) (spans : List Span) (starts : List InlineStart) (style : TextStyle) →
    IsFilled marks ends spans₀ starts₀ i next at spans starts → drop i marks ≡ Text style ∷ drop (i + 1) marks → next < length ends → get_or ends next 0 ≤ most_text_bytes →
    IsFilled marks ends spans₀ starts₀ (i + 1) (next + 1) (get_or ends next 0) (spans ++ span_between style at (get_or ends next 0)) starts
fill-text marks ends spans₀ starts₀ i next at spans starts style f mark l few =
    let to : ℕ = get_or ends next 0 in
    let rest : List ItemMark = drop (i + 1) marks in
    let size = ap (λ (m : List ItemMark). length (styles_in m)) mark in
    let each = f.each in
    record {
      each = omega (arith, each, size);
      short = few;
      stops = λ texts e. (ends-step texts ends next at l (f.stops texts e)).rest;
      filled = λ texts e.
          let n : NextText texts next at to (drop (next + 1) ends) = ends-step texts ends next at l (f.stops texts e) in
          let after : List (List ℕ) = drop (next + 1) texts in
          append_assoc spans (span_between style at to) (spans_from to (styles_in rest) after)
          ∙ ap (λ (k : ℕ). spans ++ (span_between style at k ++ spans_from k (styles_in rest) after)) n.end
          ∙ sym (ap₂ (λ (m : List ItemMark) (ts : List (List ℕ)). spans ++ spans_from at (styles_in m) ts) mark n.is)
          ∙ f.filled texts e;
      noted = λ texts e.
          let n : NextText texts next at to (drop (next + 1) ends) = ends-step texts ends next at l (f.stops texts e) in
          ap (λ (k : ℕ). starts ++ starts_from k rest (drop (next + 1) texts)) n.end
          ∙ sym (ap₂ (λ (m : List ItemMark) (ts : List (List ℕ)). starts ++ starts_from at m ts) mark n.is)
          ∙ f.noted texts e;
    }

pub fill-start : (marks : List ItemMark) (ends : List ℕ) (spans₀ : List Span) (starts₀ : List InlineStart) (i next at : ℕ) (spans : List Span) (starts : List InlineStart) (node : NodeId) →
    IsFilled marks ends spans₀ starts₀ i next at spans starts → drop i marks ≡ Start node ∷ drop (i + 1) marks →
    IsFilled marks ends spans₀ starts₀ (i + 1) next at spans (starts ++ record { node = node; offset = at } ∷ [])
fill-start marks ends spans₀ starts₀ i next at spans starts node f mark =
    let rest : List ItemMark = drop (i + 1) marks in
    let size = ap (λ (m : List ItemMark). length (styles_in m)) mark in
    let each = f.each in
    record {
      each = omega (arith, each, size);
      short = f.short;
      stops = f.stops;
      filled = λ texts e. sym (ap (λ (m : List ItemMark). spans ++ spans_from at (styles_in m) (drop next texts)) mark) ∙ f.filled texts e;
      noted = λ texts e.
          append_assoc starts (record { node = node; offset = at } ∷ []) (starts_from at rest (drop next texts))
          ∙ sym (ap (λ (m : List ItemMark). starts ++ starts_from at m (drop next texts)) mark)
          ∙ f.noted texts e;
    }
