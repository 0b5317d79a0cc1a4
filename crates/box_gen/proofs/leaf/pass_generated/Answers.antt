use Rattle.std.proofs.Common.{◌≡◌, ◌∙◌, ◌∷◌, ◌++◌, [], List, ℕ, ap, subst}
use Rattle.inline_text.specs.declared.space.TextPart.{TextPart}
use Rattle.box_gen.specs.Items as item
use Rattle.box_gen.specs.Items.{generated_part}
use Rattle.box_gen.specs.Leaves.{HasRun}
use Rattle.box_gen.proofs.leaf.pass_generated.Goals as goal

pub returns : goal.returns
returns c = λ items h.
    let made = c.args.made.now in
    let is : c.new-part.result ≡ generated_part made = c.new-part.ensures ∙ ap (λ (t : List ℕ). record { text = t; space = made.space }) (c.as_str.ensures ∙ c.in_ok-text.ensures) in
    subst (λ (p : TextPart). HasRun c.pass_part.new.pass (items ++ item.Text (record { part = p; style = made.style }) ∷ [])) is (c.in_ok-pass_part.ensures items h)
