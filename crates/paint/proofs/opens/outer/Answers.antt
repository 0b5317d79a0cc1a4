use Rattle.paint.proofs.OpenLemmas.{bounded_take}
use Rattle.paint.proofs.opens.outer.Goals as goal

pub innermost-requires-2-clause-bounded : goal.innermost-requires-2-clause-bounded
innermost-requires-2-clause-bounded c = bounded_take c.args.opens.now _ c.requires.bounded
