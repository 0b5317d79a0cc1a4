-- What is known of the faces of a document's styles.
use Rattle.std.specs.Prelude.{◌≡◌, List}
use Rattle.metrics.specs.Face.{FontFace}
use Rattle.style.specs.Nodes.{AreNumberedBy, NodeStyles}
use Rattle.box_gen.specs.declared.style_faces.StyleFaces.{StyleFaces}
use Rattle.box_gen.specs.Faced.{styles_in}

-- nodes have the styles of their numbers, and each of these styles is there with its face among some faces
pub record KnowsFaces (nodes : List NodeStyles) (faces : List FontFace) (known : StyleFaces) : Type 0 where
  pub numbers : AreNumberedBy known.table nodes
  pub faced : known.styles.items ≡ styles_in faces known.table.styles
