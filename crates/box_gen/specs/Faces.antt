-- The face that sets the texts of a style (CSS 2.1, 15.2).
use Rattle.std.specs.Prelude.{◌≡◌, ◌<◌, ℕ, List, Some, length, slice_get}
use Rattle.std.specs.List.{All}
use Rattle.bk_num.specs.declared.ids.FaceId.{FaceId}
use Rattle.boxes.specs.declared.leaf.Leaf.{Leaf}
use Rattle.metrics.specs.Chosen.{face_by}
use Rattle.line_place.specs.Conditions.{HasFaces}
use Rattle.metrics.specs.Face.{FontFace}
use Rattle.style.specs.declared.style.Style.{Style}

-- the face of the texts of a style: the one that its families, its font style and its weight choose
abbrev pub face_of : List FontFace → Style → FaceId
face_of faces s = face_by faces s.font_family s.font_style s.font_weight

-- the faces of leaves and of their markers are there
abbrev pub AreFaced : List FontFace → List Leaf → Type 0
AreFaced faces leaves = (l : ℕ) (leaf : Leaf) → slice_get leaves l ≡ Some leaf →
    HasFaces faces leaf × All (λ lead. lead.span.face.0 < length faces) leaf.leads
