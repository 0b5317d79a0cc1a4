-- How a listing names a face.
use Rattle.std.specs.Prelude.{List, ℕ, pos, ◌++◌, codes, if◌then◌else◌}
use Rattle.std.specs.Fmt.{signed_decimal}
use Rattle.bk_num.specs.declared.ids.FaceId.{FaceId}
use Rattle.metrics.specs.Face.{FontFace, face_at}

-- `name/style/weight`
unfoldable pub face_text : List FontFace → FaceId → List ℕ
face_text faces id = (face_at faces id).name ++ (if (face_at faces id).italic then codes "/italic/"
    else codes "/normal/") ++ signed_decimal (pos (face_at faces id).weight)
