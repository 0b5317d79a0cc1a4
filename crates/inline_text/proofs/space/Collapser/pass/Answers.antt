use Rattle.std.proofs.Common.{◌∙◌, ◌+◌, ◌++◌, ◌∷◌, [], List, ℕ, length, sym, ap, arith, length-append}
use Rattle.inline_text.specs.declared.space.Gap.TheVariants.{Spaced}
use Rattle.inline_text.specs.Joined.{laid_texts}
use Rattle.inline_text.specs.Space.{Char, chars_of_part}
use Rattle.inline_text.specs.Gaps.{laid, left_from}
use Rattle.inline_text.proofs.GrowLemmas.{chars-more}
use Rattle.inline_text.proofs.space.Collapser.pass.Goals as goal

pub returns : goal.returns
returns c = λ parts h.
    let self = c.args.self.now in
    let p = c.args.part.now in
    let next = c.in-Some.ensures.1 in
    let count = h.count in
    let size = length-append parts (p ∷ []) in
    record {
      count = omega (arith, next, count, size);
      goes = λ rest.
          ap (λ (l : List Char). laid (laid_texts []) (left_from Spaced l)) (chars-more parts p rest)
          ∙ h.goes (chars_of_part (length parts) p ++ rest)
          ∙ ap (λ (n : ℕ). laid self.joined (left_from self.gap (chars_of_part n p ++ rest))) (sym h.count)
          ∙ c.in_ok-self.ensures rest;
    }
