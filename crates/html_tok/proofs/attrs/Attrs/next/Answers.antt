use Rattle.std.proofs.Common.{◌≡◌, sym, ◌∙◌, ap, not}
use Rattle.html_tok.specs.Classes.{is_between, from_first}
use Rattle.html_tok.specs.Tags.{attributes_after}
use Rattle.html_tok.proofs.TagLemmas.{listed-between, listed-end, listed-step, begun}
use Rattle.html_tok.proofs.attrs.Attrs.next.Goals as goal

pub returns-then-is_at_end-clause-none : goal.returns-then-is_at_end-clause-none
returns-then-is_at_end-clause-none c =
    let is : c.skip_to-rest.result.now ≡ from_first (λ b. not (is_between b)) c.self.inside.rest.now = c.skip_to-rest.ensures in
    let end = listed-end c.skip_to-rest.result.now (rw is (begun c.self.inside.rest.now)) (sym c.is_at_end.ensures ∙ c.if-is_at_end.true) in
    let none = sym c.self.view_is ∙ listed-between c.self.inside.rest.now ∙ rw is at end in
    (none, none)

pub returns-clause-some : goal.returns-clause-some
returns-clause-some c =
    let is : c.skip_to-rest.result.now ≡ from_first (λ b. not (is_between b)) c.self.inside.rest.now = c.skip_to-rest.ensures in
    let step = listed-step c.skip_to-rest.result.now (rw is (begun c.self.inside.rest.now)) (sym c.is_at_end.ensures ∙ c.if-is_at_end.false) in
    rw (c.attribute-attribute.ensures.name, c.attribute-attribute.ensures.value, c.attribute-attribute.ensures.rest) (sym c.self.view_is ∙ listed-between c.self.inside.rest.now ∙ ap (attributes_after 0) (sym is) ∙ step)
