use Rattle.std.proofs.Common.{◌∙◌, ◌∷◌, ◌++◌, [], List, ap, append-nil, subst, sym}
use Rattle.inline_text.specs.Passed.{HasPassed}
use Rattle.box_gen.specs.declared.inline.ItemMark.{ItemMark}
use Rattle.box_gen.specs.declared.inline.ItemMark.TheVariants.{Start}
use Rattle.box_gen.specs.Items as item
use Rattle.box_gen.specs.Runs.{parts_in}
use Rattle.box_gen.proofs.ItemLemmas.{run-more}
use Rattle.box_gen.proofs.leaf.pass_start.Goals as goal

pub returns : goal.returns
returns c = λ items h.
    run-more _ items (item.Start c.args.node) (subst (HasPassed c.args.pass.now.collapser) (sym (append-nil (parts_in items))) h.parts)
    (c.in_ok-push.ensures.items ∙ ap (λ (l : List ItemMark). l ++ Start c.args.node ∷ []) h.marks)
