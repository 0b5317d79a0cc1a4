-- What a style with its face keeps.
use Rattle.std.specs.Prelude.{◌≡◌, ◌<◌, length}
use Rattle.metrics.specs.Choice.{Chooses}
use Rattle.box_gen.specs.declared.faced.FacedStyle.TheInside.{Inside}
use Rattle.box_gen.specs.Faced.{StyleIn}
use Rattle.box_gen.specs.Faces.{face_of}

-- the style, and the faces among which it chooses
abbrev pub style_in : Inside → StyleIn
style_in a = record { style = a.style.now; faces = a.faces.now }

-- the face is the one that the style chooses, and is there
pub record HasItsFace (a : Inside) : Type 0 where
  pub face : a.face ≡ face_of a.faces.now a.style.now
  pub within : a.face.0 < length a.faces.now
  pub chosen : Chooses a.faces.now a.style.now.font_family a.style.now.font_style a.style.now.font_weight a.face
