use Rattle.std.proofs.Common.{◌≡◌, ◌∙◌, ◌+◌, ◌*◌, ◌<◌, arith, rules, length, sym}
use Rattle.std.proofs.lemmas.Bool.Decides.{nat_tests}
use Rattle.metrics.proofs.PairLemmas.{plain_number, table_small}
use Rattle.metrics.proofs.face.Face.paired.Goals as goal

pub returns-then-not-has_pairs-clause-value : goal.returns-then-not-has_pairs-clause-value
returns-then-not-has_pairs-clause-value c =
    let e = c.has_pairs.ensures.value in
    let t = c.if-not-has_pairs.true in
    let none : length c.args.self.now.pairs ≡ 0 = grind (arith, nat_tests) in
    c.number.ensures.value ∙ sym (plain_number c.args.self.now c.args.first c.args.c none)

pub returns-then-code-lt-ASCII-clause-most : goal.returns-then-code-lt-ASCII-clause-most
returns-then-code-lt-ASCII-clause-most c =
    let l : c.args.first * 128 + c.args.c < length c.self.inside.pairs.items = search rules in
    rw c.index.ensures (table_small c.self.inside.lines c.self.inside.pairs.items (c.args.first * 128 + c.args.c) c.index.result.now c.self.invariant.0 c.self.invariant.2 l)
