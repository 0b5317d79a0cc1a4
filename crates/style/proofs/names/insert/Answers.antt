use Rattle.style.proofs.NameLemmas.{place-named}
use Rattle.style.proofs.names.insert.Goals.{in-Ok, in-Err}
use Rattle.style.proofs.names.insert.Goals as goal

pub returns-clause-at : goal.returns-clause-at
returns-clause-at c = elim c.match-insert_full.branch [
  | in-Ok w ↦ rw (w.result-is) (place-named c.insert_full.new.self.keys w.in-Ok.index w.in-Ok.ensures.stored.0 c.args.text w.in-Ok.ensures.stored.1 w.in-Ok.ensures.stored.2)
  | in-Err w ↦ rw (w.result-is) tt
]
