-- Colours that more than one rule names.
use Rattle.bk_num.specs.declared.values.Color.{Color}

-- black
abbrev pub black : Color
black = record { red = 0; green = 0; blue = 0 }
