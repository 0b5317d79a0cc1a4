use Rattle.std.proofs.Common.{◌<◌, ℕ, arith}
use Rattle.paint.specs.Views.{items_in}
use Rattle.paint.proofs.NoteLemmas.{painted_to}
use Rattle.paint.proofs.note_area.turn_to.Goals as goal

pub returns-clause-items : goal.returns-clause-items
returns-clause-items c =
    let number : ℕ = c.args.group.now.number in
    let less : number < c.args.next = (let e = c.if-next-group.false in let l = c.requires.later in omega arith) in
    painted_to c.args.faces.now c.args.notes.now c.args.origin number c.args.next (items_in c.args.faces.now c.args.out.now.items) (items_in c.args.faces.now c.push_note.new.out.items) c.args.group.now.solids.items c.clear.new.self.items less
    c.in_ok-push_note.ensures.items c.clear.ensures.items
