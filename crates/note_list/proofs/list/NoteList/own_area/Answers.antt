use Rattle.std.proofs.Common.{◌∙◌, arith}
use Rattle.std.proofs.lemmas.Int.{ints, to_z-of_z}
use mir.Val.{SFits}
use mir.Syntax.{w64}
use Rattle.note_list.proofs.ReadLemmas.{own_small, own_told}
use Rattle.note_list.proofs.list.NoteList.own_area.Goals as goal

pub returns-clause-area : goal.returns-clause-area
returns-clause-area c = λ height list of.
    let small = own_small c.args.self.now c.requires.ready in
    let low = small.0 in
    let high = small.1 in
    let fits : SFits w64 c.args.self.now.own_area = omega (arith, ints) in
    to_z-of_z w64 _ fits ∙ own_told c.args.self.now c.requires.ready height list of

pub returns-clause-small : goal.returns-clause-small
returns-clause-small c =
    let small = own_small c.args.self.now c.requires.ready in
    let low = small.0 in
    let high = small.1 in
    let fits : SFits w64 c.args.self.now.own_area = omega (arith, ints) in
    rw (to_z-of_z w64 _ fits) (record { low = low; high = high })
