-- How far a way along marks can go.
use Rattle.std.specs.Prelude.{ℕ, suc, Option, None, Some}

-- how many marks may stand on the way from one
abbrev pub height : Option ℕ → ℕ
height None = 0
height (Some i) = suc i
