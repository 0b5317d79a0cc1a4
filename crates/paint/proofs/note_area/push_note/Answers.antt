use Rattle.paint.proofs.note_area.push_note.Goals as goal

pub push_tree-requires-clause-tree : goal.push_tree-requires-clause-tree
push_tree-requires-clause-tree c = c.requires.bodies _ c.note_at-note.result.now c.note_at-note.ensures

pub push_tree-requires-clause-solids : goal.push_tree-requires-clause-solids
push_tree-requires-clause-solids c = rw c.deref.ensures.value c.requires.solids.near

pub push_tree-requires-clause-order : goal.push_tree-requires-clause-order
push_tree-requires-clause-order c = rw c.deref.ensures.value (c.requires.solids.order c.note_at-note.result.now c.note_at-note.ensures)
