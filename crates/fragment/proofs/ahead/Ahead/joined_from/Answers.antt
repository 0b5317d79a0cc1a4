use Rattle.std.proofs.Common.{drop, arith}
use Rattle.fragment.proofs.AheadLemmas.{joined_none, joined_rest}
use Rattle.fragment.proofs.ahead.Ahead.joined_from.Goals as goal

pub returns-then-self-count : goal.returns-then-self-count
returns-then-self-count c = joined_none (drop c.args.self.now.first c.args.self.now.rows.items) c.args.count

pub returns : goal.returns
returns c =
    let from = c.saturating_sub.ensures in
    joined_rest c.args.self.now.joined c.args.self.now.rows.items c.args.self.now.first c.args.count c.saturating_sub.result c.requires.joined c.if-self-count.false (omega (arith, from))
