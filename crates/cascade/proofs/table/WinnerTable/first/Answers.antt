use Rattle.std.proofs.Common.{arith}
use Rattle.cascade.specs.TableFields.{first_in}
use Rattle.cascade.proofs.TableLemmas.{below, number-at, entry-at, first-same, seen-at}
use Rattle.cascade.proofs.table.WinnerTable.first.Goals as goal

pub index-requires : goal.index-requires
index-requires c =
    let at = number-at c.self.inside.shared.items c.self.inside.numbers.items c.args.self.now c.args.node.0 c.index-number.result.now c.self.view_is c.requires c.index-number.ensures in
    let low = below c.self.inside.shared.items c.self.inside.numbers.items c.index-number.result.now (c.self.invariant c.args.node.0 c.index-number.result.now at) in omega arith

pub returns : goal.returns
returns c =
    let at = number-at c.self.inside.shared.items c.self.inside.numbers.items c.args.self.now c.args.node.0 c.index-number.result.now c.self.view_is c.requires c.index-number.ensures in
    let there = entry-at c.self.inside.shared.items c.self.inside.numbers.items c.index-number.result.now c.index.result.now (c.self.invariant c.args.node.0 c.index-number.result.now at) c.index.ensures in
    record {
      first = rw (← c.self.view_is) (seen-at first_in c.self.inside.shared.items c.self.inside.numbers.items c.args.node.0 c.index-number.result.now c.index.result.now at there);
      same = rw (← c.self.view_is) (first-same c.self.inside.shared.items c.self.inside.numbers.items c.args.node.0 c.index-number.result.now c.index.result.now c.self.invariant at there);
    }
