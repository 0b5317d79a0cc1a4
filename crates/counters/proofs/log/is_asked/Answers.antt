use Rattle.std.proofs.Common.{◌∙◌, sym}
use Rattle.bk_num.proofs.ListLemmas.{any-map}
use Rattle.counters.proofs.log.is_asked.Goals as goal

pub returns-in-Some : goal.returns-in-Some
returns-in-Some c = c.in-Some.ensures.found ∙ sym (any-map c.args.name.now c.args.asked.now.keys)

pub returns-in-None : goal.returns-in-None
returns-in-None c = c.in-None.ensures.found ∙ sym (any-map c.args.name.now c.args.asked.now.keys)
