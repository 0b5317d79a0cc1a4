use Rattle.std.proofs.Common.{◌∙◌, sym}
use Rattle.bk_num.proofs.ListLemmas.{any-map}
use Rattle.named_lists.proofs.names.has_name.Goals as goal

pub returns : goal.returns
returns c = c.contains.ensures ∙ sym (any-map c.args.name.now c.args.names.now.keys)
