use Rattle.std.proofs.Common.{◌∙◌, [], List, ℕ, sym, ap, ap₂, append-nil}
use Rattle.inline_text.specs.declared.space.Gap.TheVariants.{Spaced}
use Rattle.inline_text.specs.Joined.{Laid, laid_texts, reached}
use Rattle.inline_text.specs.Space.{Char, chars_from}
use Rattle.inline_text.specs.Gaps.{laid, left_from}
use Rattle.inline_text.proofs.GapLemmas.{ends}
use Rattle.inline_text.proofs.JoinedLemmas.{laid-collapsed}
use Rattle.inline_text.proofs.space.Collapser.finish.Goals as goal

pub returns : goal.returns
returns c = λ parts h.
    let self = c.args.self in
    c.in_ok-reach.ensures
    ∙ ap₂ (λ (l : Laid) (n : ℕ). reached l n) (c.in_ok-settle.ensures ∙ sym (ends self.joined self.gap) ∙ sym (h.goes []) ∙ ap (λ (l : List Char). laid (laid_texts []) (left_from Spaced l)) (append-nil (chars_from 0 parts))) h.count
    ∙ laid-collapsed parts
