-- The face that families, a style and a weight choose, as one value (CSS 2.1, 15.5).
use Rattle.std.specs.Prelude.{◌≡◌, ℕ, Bool, not, ◌&&◌, ◌||◌, ◌==◌, List, nat_lt, nat_le, if◌then◌else◌, unwrap_or}
use Rattle.std.specs.Bool.{beq}
use Rattle.std.specs.List.{list_any, position}
use Rattle.bk_num.specs.declared.ids.FaceId.{FaceId}
use Rattle.metrics.specs.Face.{FontFace}
use Rattle.metrics.specs.Choice.{Chooses, apart, is_named, name_of}
use Rattle.metrics.specs.Text.{AreFaces}

-- whether a weight is nearer to the asked one than another, or as near and no greater
abbrev pub is_nearer : ℕ → ℕ → ℕ → Bool
is_nearer asked m n = nat_lt (apart m asked) (apart n asked) || ((apart m asked == apart n asked) && nat_le m n)

-- whether a face goes before another: it alone has the asked style, or its weight is nearer
abbrev pub goes_before : Bool → ℕ → FontFace → FontFace → Bool
goes_before italic weight f g =
    if beq f.italic g.italic then is_nearer weight f.weight g.weight else beq f.italic italic

-- whether a face has a name, and goes before all faces of it
abbrev pub is_first : List FontFace → List ℕ → Bool → ℕ → FontFace → Bool
is_first faces name italic weight f =
    is_named name f && not (list_any (λ g. is_named name g && not (goes_before italic weight f g)) faces)

-- the face of the first family that names one, and there the one that goes before the others
unfoldable pub face_by : List FontFace → List (List ℕ) → Bool → ℕ → FaceId
face_by faces families italic weight =
    record { 0 = unwrap_or (position (is_first faces (name_of faces families) italic weight) faces) 0 }

-- ---- law

-- it is the face that families, a style and a weight choose
abbrev pub FaceIsChosen : Type 0
FaceIsChosen = (faces : List FontFace) (families : List (List ℕ)) (italic : Bool) (weight : ℕ) (f : FaceId) →
    AreFaces faces → Chooses faces families italic weight f → f ≡ face_by faces families italic weight
