use Rattle.std.proofs.Common.{◌<◌, ◌+◌, length, arith}
use Rattle.style.proofs.NodeLemmas.{sound-add, view-ok, view-err, own-row}
use Rattle.style.proofs.styles.Styles.add_element.Goals as goal

pub invariant_of-self : goal.invariant_of-self
invariant_of-self c = rw (c.in_err-number.ensures.err) c.self.invariant

pub invariant_of-self-2 : goal.invariant_of-self-2
invariant_of-self-2 c =
    let n = c.in_ok-number.ensures.number in
    let below : c.in_ok-number.number < length c.self.inside.styles.items + 1 = omega arith in
    sound-add c.push_row.result c.self.inside.styles.items c.push_style.new.styles.items c.args.style c.self.inside.rows.items c.push_row.new.rows.items _ c.in_ok-number.ensures.ok c.push_row.ensures.ok c.push_row.ensures.err c.self.invariant (record { own = below; before = tt; after = tt; call = tt; marker = tt })

pub returns-clause-ok : goal.returns-clause-ok
returns-clause-ok c = rw (← c.self.view_is) (view-ok c.push_row.result c.self.inside.styles.items c.push_style.new.styles.items c.args.style c.self.inside.rows.items c.push_row.new.rows.items _ _ c.in_ok-number.ensures.ok c.push_row.ensures.ok c.self.invariant (own-row c.self.inside.styles.items c.args.style c.in_ok-number.number c.args.shown c.args.note c.args.in_note c.in_ok-number.ensures.number))

pub returns-clause-err : goal.returns-clause-err
returns-clause-err c = rw (← c.self.view_is) (view-err c.push_row.result c.self.inside.styles.items c.push_style.new.styles.items c.args.style c.self.inside.rows.items c.push_row.new.rows.items c.in_ok-number.ensures.ok c.push_row.ensures.err c.self.invariant)
