-- How far the solids reach that stand on a page.
use Rattle.std.specs.Prelude.{ℤ, ◌+ℤ◌, List, [], ◌∷◌}
use Rattle.std.specs.Int.{int_max}
use Rattle.boxes.specs.declared.page.Placed.{Placed}

-- the greatest bottom of some solids, at least a given one
abbrev pub foot_from : ℤ → List Placed → ℤ
foot_from least [] = least
foot_from least (p ∷ solids) = foot_from (int_max least (p.top +ℤ p.height)) solids
