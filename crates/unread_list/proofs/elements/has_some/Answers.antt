use Rattle.std.specs.Prelude.{Some, None}
use Rattle.unread_list.proofs.IdLemmas.{there_is}
use Rattle.unread_list.proofs.elements.has_some.Goals as goal

pub returns-in-Some : goal.returns-in-Some
returns-in-Some c = there_is c.args.dom.now c.args.id.now (Some c.in-Some.field-0.0) c.in-Some.ensures

pub returns-in-None : goal.returns-in-None
returns-in-None c = there_is c.args.dom.now c.args.id.now None c.in-None.ensures
