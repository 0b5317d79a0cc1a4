-- A walk stays in its tree.
use Rattle.std.proofs.Common.{◌≡◌, Option, Some, None, MatchOption, ap}
use Rattle.cursor.specs.Cursors.{CursorView}
use Rattle.cursor.specs.declared.solid.Solid.{Solid}

pub same_tree : (next : Option Solid) (old new : CursorView) → MatchOption next (new ≡ old) (λ s. new ≡ record old { at = s.end }) →
    new.tree ≡ old.tree
same_tree None old new goes = ap (λ (c : CursorView). c.tree) goes
same_tree (Some s) old new goes = ap (λ (c : CursorView). c.tree) goes
