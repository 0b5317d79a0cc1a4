use Rattle.std.proofs.Common.{◌≡◌, ◌∙◌, Bool, false, List, ap, string_bytes, sym}
use Rattle.std.specs.List.{list_any}
use Rattle.std.proofs.lemmas.Str.{IsUtf8-string_bytes}
use Rattle.hyphen.specs.Meaning.{value_in}
use Rattle.inline_text.specs.Joined.{laid_texts}
use Rattle.soft_hyphens.proofs.PlainLemmas.{plain-stays}
use Rattle.box_gen.specs.Runs.{autos_by, styles_in}
use Rattle.box_gen.proofs.HyphenLemmas.{texts-utf8}
use Rattle.box_gen.proofs.hyphens.hyphenated_by.Goals as goal

pub returns-then-not-any_auto : goal.returns-then-not-any_auto
returns-then-not-any_auto c = λ ts e.
    let autos : List Bool = autos_by (styles_in c.args.marks.now) in
    let none : list_any (λ auto. auto) autos ≡ false = ap (list_any (λ auto. auto)) (sym (c.deref.ensures.value ∙ c.in_ok-autos.ensures)) ∙ sym c.any_auto.ensures ∙ c.if-not-any_auto.true in
    e ∙ ap laid_texts (sym (plain-stays (value_in c.args.hyphenator.now) autos ts none (texts-utf8 (record { bytes = string_bytes c.texts.inside.text; ends = c.texts.inside.ends.items }) ts (c.texts.view_is ∙ e) (IsUtf8-string_bytes c.texts.inside.text) c.texts.invariant)))
