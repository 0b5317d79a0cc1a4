-- What the fields of a walk stand for.
use Rattle.std.specs.Prelude.{◌≡◌}
use Rattle.seams.specs.Widths.{widths_at}
use Rattle.cursor.specs.Cursors.{CanGoOn, CursorView}
use Rattle.cursor.specs.declared.cursor.Cursor.TheInside.{Inside}

-- a walk as contracts see it
abbrev pub cursor_of : Inside → CursorView
cursor_of c = record { tree = c.tree.now; faces = c.faces.now; width = c.width; at = c.at }

-- it can go on, and keeps the widths of the boxes that are open where it stands
pub record IsSound (c : Inside) : Type 0 where
  pub goes : CanGoOn (cursor_of c)
  pub along : c.widths ≡ widths_at c.tree.now c.width c.at
