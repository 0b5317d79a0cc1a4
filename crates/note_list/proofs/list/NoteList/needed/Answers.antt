use Rattle.std.proofs.Common.{◌∙◌, ◌<ℤ◌, inl, inr, sym, subst, arith}
use Rattle.std.proofs.lemmas.Int.{ints, to_z-of_z}
use mir.Val.{SFits}
use mir.Syntax.{w64}
use Rattle.note_list.proofs.ReadLemmas.{needed_past, needed_small, needed_told}
use Rattle.note_list.proofs.list.NoteList.needed.Goals as goal

pub returns-then-self-clause-told : goal.returns-then-self-clause-told
returns-then-self-clause-told c = λ height list of.
    let past = needed_past c.args.self.now c.requires.ready height list of c.if-self.true in
    let low = c.area.ensures.small.low in
    let high = c.area.ensures.small.high in
    let fits : SFits w64 c.area.result = omega (arith, ints) in
    inr (subst (λ z. height <ℤ z) (sym (to_z-of_z w64 _ fits ∙ c.area.ensures.area)) past.0, past.1)

pub returns-else-self-clause-told : goal.returns-else-self-clause-told
returns-else-self-clause-told c = λ height list of.
    let small = needed_small c.args.self.now c.requires.ready in
    let low = small.0 in
    let high = small.1 in
    let fits : SFits w64 c.args.self.now.needed = omega (arith, ints) in
    inl (to_z-of_z w64 _ fits ∙ needed_told c.args.self.now c.requires.ready height list of c.if-self.false)

pub returns-else-self-clause-small : goal.returns-else-self-clause-small
returns-else-self-clause-small c =
    let small = needed_small c.args.self.now c.requires.ready in
    let low = small.0 in
    let high = small.1 in
    let fits : SFits w64 c.args.self.now.needed = omega (arith, ints) in
    rw (to_z-of_z w64 _ fits) (record { low = low; high = high })
