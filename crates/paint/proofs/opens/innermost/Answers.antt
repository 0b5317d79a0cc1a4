use Rattle.std.proofs.Common.{◌≡◌, sym, arith, to_z, of_z}
use Rattle.std.proofs.lemmas.Int.{ints}
use mir.Syntax.{w64}
use Rattle.paint.proofs.OpenLemmas.{bounded_near, bounded_wide, innermost_is, last_bounded, none_open}
use Rattle.paint.proofs.opens.innermost.Goals as goal

pub returns-in-None-clause-value : goal.returns-in-None-clause-value
returns-in-None-clause-value c = λ t boxes same.
    let exact : to_z w64 (of_z w64 c.args.origin.now.width) ≡ c.args.origin.now.width = omega (arith, ints) in
    let frame = none_open t c.args.origin.now.width c.args.opens.now boxes same (sym c.in-None.ensures.value) in
    cc

pub returns-in-Some-clause-value : goal.returns-in-Some-clause-value
returns-in-Some-clause-value c = λ t boxes same.
    innermost_is t c.args.origin.now.width c.args.opens.now boxes c.in-Some.open.now same (sym c.in-Some.ensures.value)

pub returns-in-Some-clause-bounded : goal.returns-in-Some-clause-bounded
returns-in-Some-clause-bounded c = last_bounded c.args.opens.now c.in-Some.open.now c.requires.bounded (sym c.in-Some.ensures.value)

pub returns-in-Some-clause-wide : goal.returns-in-Some-clause-wide
returns-in-Some-clause-wide c = bounded_wide _ c.in-Some.open.now.content c.requires.bounded.few (last_bounded c.args.opens.now c.in-Some.open.now c.requires.bounded (sym c.in-Some.ensures.value))

pub returns-in-Some-clause-near : goal.returns-in-Some-clause-near
returns-in-Some-clause-near c = bounded_near _ c.in-Some.open.now.content c.requires.bounded.few (last_bounded c.args.opens.now c.in-Some.open.now c.requires.bounded (sym c.in-Some.ensures.value))
