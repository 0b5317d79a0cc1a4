use Rattle.cascade.proofs.TableLemmas.{number-at, sound-like, view-like}
use Rattle.cascade.proofs.table.WinnerTable.push_like.Goals as goal

pub invariant_of-self : goal.invariant_of-self
invariant_of-self c =
    let at = number-at c.self.inside.shared.items c.self.inside.numbers.items c.args.self.now c.args.node.0 c.index-number.result.now c.self.view_is c.requires c.index-number.ensures in
    sound-like c.push_number.result c.self.inside.shared.items c.self.inside.numbers.items c.push_number.new.numbers.items c.args.node.0 c.index-number.result.now at c.self.invariant c.push_number.ensures.ok c.push_number.ensures.err

pub returns-clause-ok : goal.returns-clause-ok
returns-clause-ok c =
    let at = number-at c.self.inside.shared.items c.self.inside.numbers.items c.args.self.now c.args.node.0 c.index-number.result.now c.self.view_is c.requires c.index-number.ensures in
    rw (← c.self.view_is) (view-like c.push_number.result c.self.inside.shared.items c.self.inside.numbers.items c.push_number.new.numbers.items c.args.node.0 c.index-number.result.now at c.push_number.ensures.ok)
