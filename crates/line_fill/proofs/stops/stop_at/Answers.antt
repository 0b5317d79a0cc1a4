use Rattle.std.proofs.Common.{arith, rules, FitsSigned, w64}
use Rattle.std.proofs.lemmas.Int.{to_z-of_z}
use Rattle.line_fill.proofs.EndLemmas.{stop_within}
use Rattle.line_fill.proofs.StopLemmas.{good-stop, passed-small}
use Rattle.line_fill.proofs.stops.stop_at.Goals as goal

pub next_at-next-requires-clause-within : goal.next_at-next-requires-clause-within
next_at-next-requires-clause-within c =
    let f = c.requires.from in
    let s = stop_within c.args.leaf.now.text c.args.from (omega arith) in
    let e = c.requires.end in
    omega (arith, s)

pub next_at-next-requires-clause-small : goal.next_at-next-requires-clause-small
next_at-next-requires-clause-small c =
    let fits : FitsSigned w64 c.args.line_width.total = search rules in
    rw (to_z-of_z w64 c.args.line_width.total fits) (passed-small c.args.faces.now c.args.leaf.now c.args.from c.args.to c.args.line_width c.requires.from c.requires.can.few c.requires.passed)

pub returns-clause-good : goal.returns-clause-good
returns-clause-good c =
    let shown : FitsSigned w64 c.args.line_width.shown = search rules in
    let hyphen : FitsSigned w64 c.from-hyphen.result = search rules in
    let next : FitsSigned w64 c.next_at-next.result = search rules in
    rw (to_z-of_z w64 c.args.line_width.shown shown, to_z-of_z w64 c.from-hyphen.result hyphen, to_z-of_z w64 c.next_at-next.result next)
    (good-stop c.args.faces.now c.args.leaf.now c.args.from c.args.to c.args.line_width c.from-hyphen.result c.next_at-next.result c.hyphen_at.result
    c.requires.from c.requires.can.few c.requires.passed c.from-hyphen.ensures c.hyphen_at.ensures.most c.next_at-next.ensures.good)
