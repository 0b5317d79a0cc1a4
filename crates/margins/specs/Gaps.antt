-- What adjoining margins come to (CSS 2.1, 8.3.1).
use Rattle.std.specs.Prelude.{ℤ, pos, ◌+ℤ◌, List, fold}
use Rattle.std.specs.Int.{int_max, int_min}

-- the greatest positive margin, or 0
abbrev pub highest : List ℤ → ℤ
highest margins = fold int_max (pos 0) margins

-- the most negative margin, or 0
abbrev pub lowest : List ℤ → ℤ
lowest margins = fold int_min (pos 0) margins

-- the gap that margins make: the greatest positive one plus the most negative one
abbrev pub gap_of : List ℤ → ℤ
gap_of margins = highest margins +ℤ lowest margins
