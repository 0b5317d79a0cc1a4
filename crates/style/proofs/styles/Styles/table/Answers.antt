use Rattle.style.proofs.NodeLemmas.{numbered-by}
use Rattle.style.proofs.styles.Styles.table.Goals as goal

pub returns : goal.returns
returns c = rw (← c.self.view_is, c.deref.ensures.value, c.deref-2.ensures.value) (numbered-by c.self.inside.styles.items c.self.inside.rows.items c.self.invariant)
