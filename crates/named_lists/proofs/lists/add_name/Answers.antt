use Rattle.named_lists.proofs.ListLemmas.{named-key, longer-key}
use Rattle.named_lists.proofs.lists.add_name.Goals.{in-Ok, in-Err}
use Rattle.named_lists.proofs.lists.add_name.Goals as goal

pub returns-clause-names : goal.returns-clause-names
returns-clause-names c = elim c.match-insert_full.branch [
  | in-Ok w ↦ rw (w.result-is) (named-key c.args.names.now.keys c.insert_full.new.self.keys c.in_ok-text.text c.args.name.now c.in_ok-text.ensures.ok w.in-Ok.ensures.keys)
  | in-Err w ↦ rw (w.result-is) tt
]

pub returns-clause-len : goal.returns-clause-len
returns-clause-len c = elim c.match-insert_full.branch [
  | in-Ok w ↦ rw (w.result-is) (longer-key c.args.names.now.keys c.insert_full.new.self.keys c.in_ok-text.text c.args.name.now c.in_ok-text.ensures.ok w.in-Ok.ensures.keys c.requires)
  | in-Err w ↦ rw (w.result-is) tt
]
