use Rattle.std.proofs.Common.{◌≡◌, ◌∙◌, ℕ, Bool, List, length, ap, sym}
use Rattle.hyphen.specs.Meaning.{value_in}
use Rattle.inline_text.specs.Joined.{Laid, ends_from, joined}
use Rattle.soft_hyphens.specs.Hyphenated.{hyphenated}
use Rattle.soft_hyphens.specs.Pass.{chars_in, offsets_in}
use Rattle.soft_hyphens.specs.Words.{is_put, letters_in, points_with}
use Rattle.soft_hyphens.proofs.PointLemmas.{none-at-start}
use Rattle.soft_hyphens.proofs.TextLemmas.{codes-are, ends-length}
use Rattle.soft_hyphens.proofs.hyphenate.hyphenate.Goals as goal

pub returns : goal.returns
unfolding hyphenated
returns c = λ ts laid.
    let value : List ℕ → ℕ → ℕ = value_in c.args.hyphenator.now in
    let autos : List Bool = c.args.autos.now in
    let here : ℕ → Bool = is_put (points_with value) (letters_in autos ts) in
    let text : c.args.texts.bytes ≡ joined ts = ap (λ (l : Laid). l.bytes) laid in
    let ends : c.args.texts.ends ≡ ends_from 0 ts = ap (λ (l : Laid). l.ends) laid in
    let size : length ts ≡ length autos = sym (ends-length 0 ts) ∙ ap (λ (x : List ℕ). length x) (sym ends) ∙ c.requires in
    let offsets : c.deref.result.now ≡ offsets_in here (chars_in ts) =
    c.deref.ensures.value ∙ c.in_ok-offsets.ensures.offsets ts (c.text.ensures ∙ text) (c.ends.ensures.value ∙ ends) ∙ ap (offsets_in here) (codes-are autos ts size) in
    c.put_texts.ensures here ts (c.text-2.ensures ∙ text) (c.ends-2.ensures.value ∙ ends) (none-at-start value (letters_in autos ts)) offsets
