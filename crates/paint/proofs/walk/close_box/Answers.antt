use Rattle.std.proofs.Common.{sym, subst}
use Rattle.paint.specs.Opens.{AreBoxesWithin}
use Rattle.paint.proofs.OpenLemmas.{bounded_take}
use Rattle.paint.proofs.walk.close_box.Goals as goal

pub returns-clause-bounded : goal.returns-clause-bounded
returns-clause-bounded c = subst AreBoxesWithin (sym c.pop.ensures.rest) (bounded_take c.args.opens.now.items _ c.requires)
