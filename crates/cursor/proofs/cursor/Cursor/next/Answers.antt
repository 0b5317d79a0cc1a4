use Rattle.std.proofs.Common.{◌≡◌, ℤ, subst, sym, FitsSigned, arith}
use Rattle.std.specs.Int.{w64}
use Rattle.std.proofs.lemmas.Int.{ints, to_z-of_z}
use Rattle.cursor.specs.Conditions.{IsGreedy}
use Rattle.cursor.specs.Cursors.{CursorView}
use Rattle.cursor.specs.Fields.{solid_view}
use Rattle.cursor.specs.Remainder.{IsSolid}
use Rattle.seams.specs.Widths.{widths_at}
use Rattle.cursor.proofs.cursor.Cursor.next.Goals as goal

pub next_solid-requires-clause-greedy : goal.next_solid-requires-clause-greedy
next_solid-requires-clause-greedy g c = subst (λ (v : CursorView). IsGreedy v.tree) (sym c.self.view_is) c.requires.greedy

pub returns-in-Some-clause-solid : goal.returns-in-Some-clause-solid
returns-in-Some-clause-solid g c =
    let low = c.self.invariant.goes.low in
    let high = c.self.invariant.goes.high in
    let wide : FitsSigned w64 c.self.inside.width = omega (arith, ints, low, high) in
    subst (λ (v : CursorView). IsSolid v.faces v.tree v.width v.at (solid_view c.in-Some.solid)) c.self.view_is
    (subst (λ (w : ℤ). IsSolid c.self.inside.faces.now c.self.inside.tree.now w c.self.inside.at (solid_view c.in-Some.solid)) (to_z-of_z w64 c.self.inside.width wide) c.in-Some.ensures.solid)

pub invariant_of-self-in-Some : goal.invariant_of-self-in-Some
invariant_of-self-in-Some g c =
    let low = c.self.invariant.goes.low in
    let high = c.self.invariant.goes.high in
    let wide : FitsSigned w64 c.self.inside.width = omega (arith, ints, low, high) in
    record {
      goes = record { can = c.self.invariant.goes.can; holds = c.in-Some.ensures.holds; low = low; high = high };
      along = subst (λ (w : ℤ). c.next_solid.new.widths ≡ widths_at c.self.inside.tree.now w c.in-Some.solid.end) (to_z-of_z w64 c.self.inside.width wide) c.in-Some.ensures.widths;
    }
