use Rattle.std.proofs.Common.{◌≡◌, ℤ, subst, sym, FitsSigned, arith}
use Rattle.std.specs.Int.{w64}
use Rattle.std.proofs.lemmas.Int.{ints, to_z-of_z}
use Rattle.cursor.specs.Cursors.{CursorView}
use Rattle.cursor.specs.Fields.{solid_view}
use Rattle.cursor.specs.Remainder.{IsSolid}
use Rattle.cursor.specs.KeptLines.{AreLinesOf, StayPlaced}
use Rattle.line_fill.specs.Kept.{AreKept}
use Rattle.seams.specs.Widths.{widths_at}
use Rattle.cursor.proofs.cursor.Cursor.next_kept.Goals as goal

pub returns-in-Ok-Some-clause-solid : goal.returns-in-Ok-Some-clause-solid
returns-in-Ok-Some-clause-solid g c =
    let low = c.self.invariant.goes.low in
    let high = c.self.invariant.goes.high in
    let wide : FitsSigned w64 c.self.inside.width = omega (arith, ints, low, high) in
    let is = rw c.in-Ok-Some.field-0-is at c.in-Ok-Some.ensures.solid in
    subst (λ (v : CursorView). IsSolid v.faces v.tree v.width v.at (solid_view c.in-Ok-Some.solid)) c.self.view_is
    (subst (λ (w : ℤ). IsSolid c.self.inside.faces.now c.self.inside.tree.now w c.self.inside.at (solid_view c.in-Ok-Some.solid)) (to_z-of_z w64 c.self.inside.width wide) is)

pub next_solid_kept-requires-clause-lines : goal.next_solid_kept-requires-clause-lines
next_solid_kept-requires-clause-lines g c = subst (λ (v : CursorView). AreLinesOf v.faces c.args.number v.tree c.args.lines.now) (sym c.self.view_is) c.requires

pub invariant_of-self-in-Ok-Some : goal.invariant_of-self-in-Ok-Some
invariant_of-self-in-Ok-Some g c =
    let low = c.self.invariant.goes.low in
    let high = c.self.invariant.goes.high in
    let wide : FitsSigned w64 c.self.inside.width = omega (arith, ints, low, high) in
    let holds = rw c.in-Ok-Some.field-0-is at c.in-Ok-Some.ensures.holds in
    let widths = rw c.in-Ok-Some.field-0-is at c.in-Ok-Some.ensures.widths in
    record {
      goes = record { can = c.self.invariant.goes.can; holds = holds; low = low; high = high };
      along = subst (λ (w : ℤ). c.next_solid_kept.new.widths ≡ widths_at c.self.inside.tree.now w c.in-Ok-Some.solid.end) (to_z-of_z w64 c.self.inside.width wide) widths;
    }

pub returns-in-Ok-None-clause-kept : goal.returns-in-Ok-None-clause-kept
returns-in-Ok-None-clause-kept g c = subst (λ (v : CursorView). AreKept v.faces c.next_solid_kept.new.lines.kept) c.self.view_is c.in-Ok-None.ensures.kept

pub returns-in-Ok-Some-clause-kept : goal.returns-in-Ok-Some-clause-kept
returns-in-Ok-Some-clause-kept g c = subst (λ (v : CursorView). AreKept v.faces c.next_solid_kept.new.lines.kept) c.self.view_is c.in-Ok-Some.ensures.kept

pub returns-in-Ok-Some-clause-places : goal.returns-in-Ok-Some-clause-places
returns-in-Ok-Some-clause-places g c = subst (λ (v : CursorView). StayPlaced c.args.number v.tree c.args.lines.now c.next_solid_kept.new.lines) c.self.view_is c.in-Ok-Some.ensures.places

pub returns-in-Err-clause-kept : goal.returns-in-Err-clause-kept
returns-in-Err-clause-kept g c = subst (λ (v : CursorView). AreKept v.faces c.next_solid_kept.new.lines.kept) c.self.view_is c.in-Err.ensures.kept
