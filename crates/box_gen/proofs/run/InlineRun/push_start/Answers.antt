use Rattle.std.proofs.Common.{◌∙◌, ◌∷◌, ◌++◌, [], List, ap, map}
use Rattle.box_gen.specs.declared.inline.StyledText.{StyledText}
use Rattle.box_gen.specs.declared.run.RunEntry.TheVariants.{Start}
use Rattle.box_gen.specs.Items as item
use Rattle.box_gen.specs.Items.{InlineItem, items_in, text_in}
use Rattle.box_gen.proofs.ItemLemmas.{entries-append}
use Rattle.box_gen.proofs.run.InlineRun.push_start.Goals as goal

pub returns : goal.returns
returns c =
    let texts : List StyledText = map text_in c.self.inside.texts.items in
    ap (items_in texts) c.in_ok-push.ensures.items ∙ entries-append texts c.self.inside.entries.items (Start c.args.node ∷ [])
    ∙ ap (λ (l : List InlineItem). l ++ item.Start c.args.node ∷ []) c.self.view_is
