use Rattle.std.proofs.Common.{◌≡◌, ◌∙◌, ◌+◌, ℕ, Bool, List, length, ap, sym}
use Rattle.std.proofs.lemmas.List.{length-map}
use Rattle.hyphen.specs.Meaning.{value_in}
use Rattle.soft_hyphens.specs.Pass.{offsets_before}
use Rattle.soft_hyphens.specs.Words.{codes_of, is_put, letters_in, points_with}
use Rattle.soft_hyphens.specs.declared.letter.Letter.{Letter}
use Rattle.soft_hyphens.proofs.WalkLemmas.{no-soft-after, stops-at-end}
use Rattle.soft_hyphens.proofs.walk.offsets_of.Goals as goal

pub returns-clause-offsets : goal.returns-clause-offsets
returns-clause-offsets c = λ ts t e.
    let ls : List Letter = letters_in c.args.autos.now ts in
    let here : ℕ → Bool = is_put (points_with (value_in c.args.hyphenator.now)) ls in
    let over = c.in_ok-walk.ensures.over ts t e in
    let place : ℕ = c.in_ok-walk.walk.place in
    let end : place ≡ length (codes_of ls) = over.1 ∙ sym (length-map ls (λ (l : Letter). l.code)) in
    c.in_ok-end_word.ensures.offsets ls over.0 (no-soft-after ls place over.1) (stops-at-end ls place over.1)
    ∙ ap (λ (n : ℕ). offsets_before here (codes_of ls) (n + 1)) end
