use Rattle.std.proofs.Common.{sym, ◌∙◌}
use Rattle.html_tree.proofs.OpenedLemmas.{any-texts}
use Rattle.html_tree.proofs.rules.has.Goals as goal

pub returns : goal.returns
returns c = c.is_among.ensures ∙ sym (any-texts c.args.names.now c.args.name.now)
