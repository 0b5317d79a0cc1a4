use Rattle.std.proofs.Common.{◌≡◌, length, arith}
use Rattle.cascade.proofs.TableLemmas.{sound-push, view-push, view-err}
use Rattle.cascade.proofs.table.WinnerTable.push.Goals as goal

pub invariant_of-self-2 : goal.invariant_of-self-2
invariant_of-self-2 c =
    let first : c.in-Ok.node ≡ length c.self.inside.numbers.items = omega (arith, c.in-Ok.ensures, c.len.ensures) in
    sound-push c.push_number.result c.self.inside.shared.items c.push_shared.new.all.items _ c.self.inside.numbers.items c.push_number.new.numbers.items c.in_ok-number.number c.in_ok-number.ensures.ok c.in_ok-number.ensures.number first c.self.invariant c.push_number.ensures.ok c.push_number.ensures.err

pub returns-clause-ok : goal.returns-clause-ok
returns-clause-ok c =
    let first : c.in-Ok.node ≡ length c.self.inside.numbers.items = omega (arith, c.in-Ok.ensures, c.len.ensures) in
    rw (← c.self.view_is) (view-push c.push_number.result c.self.inside.shared.items c.push_shared.new.all.items _ c.self.inside.numbers.items c.push_number.new.numbers.items c.in_ok-number.number c.in_ok-number.ensures.ok c.in_ok-number.ensures.number first c.self.invariant c.push_number.ensures.ok)

pub returns-clause-err : goal.returns-clause-err
returns-clause-err c = rw (← c.self.view_is) (view-err c.push_number.result c.self.inside.shared.items c.push_shared.new.all.items _ c.self.inside.numbers.items c.push_number.new.numbers.items c.in_ok-number.ensures.ok c.self.invariant c.push_number.ensures.err)
