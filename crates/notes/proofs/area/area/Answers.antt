use Rattle.std.proofs.Common.{◌≡◌, ◌<◌, ◌∙◌, ℤ, pos, ◌+ℤ◌, List, ap, sym, arith, FitsSigned}
use mir.Syntax.{w64}
use Rattle.std.proofs.lemmas.Int.{ints, to_z-of_z}
use Rattle.notes.specs.declared.solid.NoteSolid.{NoteSolid}
use Rattle.notes.specs.Notes.{note_extent}
use Rattle.notes.proofs.NoteLemmas.{area_some, reach_step}
use Rattle.notes.proofs.area.area.Goals as goal

pub loop-at-preserved : goal.loop-at-preserved
loop-at-preserved c = reach_step c.args.list.now c.loop-at.at c.solid_at.result c.loop-at.reach.bottom c.loop-at.reach.extent c.place_note.new.self.bottom c.place_note.new.self.extent c.loop-at.invariant c.solid_at.ensures.solid c.solid_at.ensures.small c.place_note.ensures.bottom c.place_note.ensures.extent

pub returns-else-n-eq0-clause-area : goal.returns-else-n-eq0-clause-area
returns-else-n-eq0-clause-area c =
    let list : List NoteSolid = c.args.list.now in
    let low = c.area.ensures.low in
    let high = c.area.ensures.high in
    let fits : FitsSigned w64 c.area.result = omega (arith, ints) in
    let all : c.loop-at.at ≡ c.args.n = let end = c.loop-at.auto.at-end in let last = c.loop-at-test.false in omega arith in
    let some : 0 < c.args.n = let none = c.if-n-eq0.false in omega arith in
    to_z-of_z w64 _ fits ∙ c.area.ensures.area ∙ ap (λ (z : ℤ). pos 512 +ℤ z) (c.loop-at.invariant.extent_is ∙ ap (note_extent list) all) ∙ sym (area_some list c.args.n some)
