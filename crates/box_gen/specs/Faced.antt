-- Styles with the faces that they choose (CSS 2.1, 15.2).
use Rattle.std.specs.Prelude.{List, map}
use Rattle.metrics.specs.Face.{FontFace}
use Rattle.style.specs.declared.style.Style.{Style}

-- a style, and the faces among which it chooses one
pub record StyleIn : Type 0 where
  pub style : Style
  pub faces : List FontFace

-- styles that choose among the same faces
abbrev pub styles_in : List FontFace → List Style → List StyleIn
styles_in faces styles = map (λ s. record { style = s; faces = faces }) styles
