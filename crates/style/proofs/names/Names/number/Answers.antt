use Rattle.std.proofs.Common.{sym, ◌∙◌, length}
use Rattle.style.proofs.NameLemmas.{inserted, positive}
use Rattle.style.proofs.names.Names.number.Goals.{in-Ok-insert, in-Err}
use Rattle.style.proofs.names.Names.number.Goals as goal

pub returns-clause-ok : goal.returns-clause-ok
returns-clause-ok c = elim c.match-insert.branch [
  | in-Ok-insert w ↦ rw (w.result-is, ← c.self.view_is) (inserted c.self.inside.names.keys c.insert.new.names.keys c.in-Ok.text c.args.name.now c.in-Ok.ensures.ok (positive (length c.args.name.now) (sym c.is_empty.ensures ∙ c.if-is_empty.false)) w.in-Ok-insert.ensures.keys)
  | in-Err w ↦ rw (w.result-is) tt
]
