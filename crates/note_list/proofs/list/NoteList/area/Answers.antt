use Rattle.std.proofs.Common.{◌<◌, ◌∙◌, length, arith}
use Rattle.std.proofs.lemmas.Bool.Decides.{nat_tests}
use Rattle.std.proofs.lemmas.Int.{ints, to_z-of_z}
use mir.Val.{SFits}
use mir.Syntax.{w64}
use Rattle.note_list.proofs.ReadLemmas.{area_all, ready_reach}
use Rattle.note_list.proofs.list.NoteList.area.Goals as goal

pub area-requires-clause-low : goal.area-requires-clause-low
area-requires-clause-low c = (ready_reach c.args.self.now c.requires.ready).least

pub area-requires-clause-high : goal.area-requires-clause-high
area-requires-clause-high c =
    let most = (ready_reach c.args.self.now c.requires.ready).most in
    let few = c.requires.ready.few in
    omega (arith, ints)

pub returns-else-is_empty-clause-area : goal.returns-else-is_empty-clause-area
returns-else-is_empty-clause-area c =
    let low = c.area.ensures.low in
    let high = c.area.ensures.high in
    let fits : SFits w64 c.area.result = omega (arith, ints) in
    let some : 0 < length c.args.self.now.solids.items = let e = c.if-is_empty.false in let v = c.is_empty.ensures in grind (arith, nat_tests) in
    to_z-of_z w64 _ fits ∙ c.area.ensures.area ∙ area_all c.args.self.now c.requires.ready some
