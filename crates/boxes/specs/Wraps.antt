-- Where lines may end in a span.
use Rattle.std.specs.Prelude.{Bool, ◌&&◌}
use Rattle.boxes.specs.declared.leaf.Span.{Span}

-- whether lines may end between any two graphemes of a span (CSS Text 3, `overflow-wrap`)
abbrev pub wraps_anywhere : Span → Bool
wraps_anywhere s = s.wrap && s.anywhere
