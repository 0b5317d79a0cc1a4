use Rattle.computed.proofs.AlikeLemmas.{adds-like, adds-new, notes-like, notes-new}
use Rattle.computed.proofs.walk.add_next.Goals as goal

pub returns-in-Some-clause-adds : goal.returns-in-Some-clause-adds
returns-in-Some-clause-adds c = adds-like c.note_like.result _ _ _ _ _ _ _ _ _ c.in-Some.ensures.like c.in_ok-add_like.ensures.ok c.note_like.ensures.firsts

pub returns-clause-adds : goal.returns-clause-adds
returns-clause-adds c = adds-new c.note.result _ _ _ _ _ c.of.result.now _ _ _ _ c.requires.rows c.of.ensures c.in_ok-add_node.ensures.adds c.note.ensures.firsts

pub returns-in-Some-clause-notes : goal.returns-in-Some-clause-notes
returns-in-Some-clause-notes c = notes-like c.note_like.result _ _ _ _ _ _ c.in-Some.ensures.found c.note_like.ensures.firsts c.note_like.ensures.known

pub returns-clause-notes : goal.returns-clause-notes
returns-clause-notes c = notes-new c.note.result _ _ _ _ _ c.in_default.ensures.found c.note.ensures.firsts c.note.ensures.known
