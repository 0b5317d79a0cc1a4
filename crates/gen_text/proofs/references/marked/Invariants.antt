use Rattle.gen_text.proofs.MarkLemmas.{ListedBelow}
use Rattle.gen_text.proofs.references.marked.Given as goal

abbrev pub invariant-loop-index : goal.invariant-loop-index
invariant-loop-index l = ListedBelow l.marks l.index l.list.items
