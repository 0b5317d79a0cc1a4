use Rattle.std.proofs.Common.{length, arith}
use Rattle.style.proofs.NodeLemmas.{sound-put, sound-more, view-put, one-more}
use Rattle.style.proofs.styles.Styles.put.Goals as goal

pub invariant_of-self : goal.invariant_of-self
invariant_of-self c = rw (c.in_err-number.ensures.err) c.self.invariant

pub invariant_of-self-2 : goal.invariant_of-self-2
invariant_of-self-2 c =
    let n = c.in_ok-number.ensures.number in
    let l = one-more c.self.inside.styles.items c.push_style.new.styles.items c.args.style c.in_ok-number.ensures.ok in
    rw (c.put_last.ensures) (sound-put (length c.push_style.new.styles.items) c.in_ok-number.number c.args.pseudo c.self.inside.rows.items (omega arith) (sound-more c.self.inside.styles.items c.push_style.new.styles.items c.args.style c.self.inside.rows.items c.in_ok-number.ensures.ok c.self.invariant))

pub returns-clause-ok : goal.returns-clause-ok
returns-clause-ok c = rw (← c.self.view_is, c.put_last.ensures, c.in_ok-number.ensures.number) (view-put c.self.inside.styles.items c.push_style.new.styles.items c.args.style c.args.pseudo c.self.inside.rows.items c.in_ok-number.ensures.ok c.self.invariant)
