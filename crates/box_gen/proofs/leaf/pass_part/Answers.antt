use Rattle.std.proofs.Common.{◌∙◌, ◌∷◌, ◌++◌, [], List, ap}
use Rattle.box_gen.specs.declared.inline.ItemMark.{ItemMark}
use Rattle.box_gen.specs.declared.inline.ItemMark.TheVariants.{Text}
use Rattle.box_gen.specs.Items as item
use Rattle.box_gen.specs.Runs.{parts_in}
use Rattle.box_gen.proofs.ItemLemmas.{run-more}
use Rattle.box_gen.proofs.leaf.pass_part.Goals as goal

pub returns : goal.returns
returns c = λ items h.
    run-more _ items (item.Text (record { part = c.args.part.now; style = c.args.style })) (c.in_ok-pass.ensures (parts_in items) h.parts)
    (c.in_ok-push.ensures.items ∙ ap (λ (l : List ItemMark). l ++ Text c.args.style ∷ []) h.marks)
