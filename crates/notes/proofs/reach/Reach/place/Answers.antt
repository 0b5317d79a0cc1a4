use Rattle.std.proofs.Common.{◌+ℤ◌, arith, FitsSigned, refl}
use mir.Syntax.{w64}
use Rattle.std.proofs.lemmas.Int.{ints, to_z-of_z}
use Rattle.notes.proofs.reach.Reach.place.Goals as goal

pub returns-clause-bottom : goal.returns-clause-bottom
returns-clause-bottom c =
    let gap = c.requires.gap in
    let height = c.requires.height in
    let from = c.requires.bottom in
    let a : FitsSigned w64 c.args.self.now.bottom = omega (arith, ints) in
    let b : FitsSigned w64 c.args.gap = omega (arith, ints) in
    let d : FitsSigned w64 c.args.height = omega (arith, ints) in
    let e : FitsSigned w64 (c.args.self.now.bottom +ℤ c.args.gap) = omega (arith, ints) in
    let f : FitsSigned w64 ((c.args.self.now.bottom +ℤ c.args.gap) +ℤ c.args.height) = omega (arith, ints) in
    rw (to_z-of_z w64 _ a, to_z-of_z w64 _ b, to_z-of_z w64 _ d, to_z-of_z w64 _ e, to_z-of_z w64 _ f) refl
