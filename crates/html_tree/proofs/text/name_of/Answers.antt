use Rattle.std.proofs.Common.{sym, ◌∙◌, ap}
use Rattle.std.specs.List.{list_all}
use Rattle.html_tree.specs.Words.{stays}
use Rattle.html_tree.proofs.TextLemmas.{name-same}
use Rattle.html_tree.proofs.text.name_of.Goals as goal

pub returns-then-stays : goal.returns-then-stays
returns-then-stays c = name-same c.args.name.now (ap (list_all stays) (sym c.as_bytes.ensures.value) ∙ sym c.stays.ensures ∙ c.if-stays.true)
