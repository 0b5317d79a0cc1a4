use Rattle.std.proofs.Common.{ℕ, ℤ, pos, ◌+ℤ◌, ◌-ℤ◌, ◌-◌, sym, ap, arith, ◌∙◌, FitsSigned, w64, rules}
use Rattle.std.proofs.lemmas.Int.{to_z-of_z}
use Rattle.metrics.specs.Widths.{sum_from}
use Rattle.line_fill.specs.Widths.{unit_at}
use Rattle.line_fill.proofs.StopLemmas.{first-wide, next-some}
use Rattle.line_fill.proofs.stops.next_at.Goals as goal

pub unit_at-paired-requires-clause-at : goal.unit_at-paired-requires-clause-at
unit_at-paired-requires-clause-at c =
    let f = first-wide c.args.leaf.now.text c.args.to (c.args.end - c.args.to) c.in-Some.at (sym (rw c.as_str.ensures at c.in-Some.ensures)) in
    let l = f.low in
    let h = f.high in
    let w = c.requires.within in
    omega arith

pub unit_at-own-requires-clause-at : goal.unit_at-own-requires-clause-at
unit_at-own-requires-clause-at c =
    let f = first-wide c.args.leaf.now.text c.args.to (c.args.end - c.args.to) c.in-Some.at (sym (rw c.as_str.ensures at c.in-Some.ensures)) in
    let l = f.low in
    let h = f.high in
    let w = c.requires.within in
    omega arith

pub returns-clause-value : goal.returns-clause-value
returns-clause-value c =
    let fits : FitsSigned w64 c.args.total = c.ranges.total in
    let e = rw (to_z-of_z w64 c.args.total fits, c.requires.total) at c.with_own.ensures.value in
    let width : ℤ = pos (sum_from (unit_at c.args.faces.now c.args.leaf.now c.args.from) c.args.from (c.args.to - c.args.from)) in
    let own = c.unit_at-own.result in
    let paired : ℕ = unit_at c.args.faces.now c.args.leaf.now c.args.from c.in-Some.at in
    let made : FitsSigned w64 c.with_own.result = search rules in
    to_z-of_z w64 c.with_own.result made ∙ e ∙ ap (λ (n : ℕ). (width +ℤ pos n) -ℤ pos own) c.unit_at-paired.ensures.value
    ∙ ap (λ (n : ℕ). (width +ℤ pos paired) -ℤ pos n) c.unit_at-own.ensures.value
    ∙ next-some c.args.faces.now c.args.leaf.now c.args.from c.args.to (c.args.end - c.args.to) c.in-Some.at c.requires.order (sym (rw c.as_str.ensures at c.in-Some.ensures))
