-- The faces that margin boxes choose (CSS 2.1, 15.5), kept for the pages of a name that have one cell.
use Rattle.std.specs.Prelude.{◌≡◌, ◌<◌, ◌==◌, ◌&&◌, ℕ, Bool, List, Option, Some, length, slice_get}
use Rattle.std.specs.List.{All}
use Rattle.std.specs.Option.{option_and_then}
use Rattle.bk_num.specs.declared.ids.FaceId.{FaceId}
use Rattle.metrics.specs.Face.{FontFace}
use Rattle.metrics.specs.Chosen.{face_by}
use Rattle.boxes.specs.Table.{row_of}
use Rattle.css_rules.specs.MarginBoxes.{margin_box_count}
use Rattle.page_ctx.specs.Margins.{MarginStyleOf, style_at}
use Rattle.margin_box.specs.declared.keys.PageKey.{PageKey}

-- a face is the one that the families, the style and the weight of a box choose, and there
pub record IsFaceOf (faces : List FontFace) (s : MarginStyleOf) (f : FaceId) : Type 0 where
  pub chosen : f ≡ face_by faces s.families s.italic s.weight
  pub there : f.0 < length faces

-- the faces of the boxes below a number are those that their styles choose; without content a box may have any
abbrev pub AreFacesBelow : ℕ → List FontFace → (ℕ → Option MarginStyleOf) → List FaceId → Type 0
AreFacesBelow n faces style chosen =
    (place : ℕ) (s : MarginStyleOf) (f : FaceId) →
    place < n →
    style place ≡ Some s →
    slice_get chosen place ≡ Some f →
    IsFaceOf faces s f

-- so of all boxes
abbrev pub AreFacesOf : List FontFace → (ℕ → Option MarginStyleOf) → List FaceId → Type 0
AreFacesOf = AreFacesBelow margin_box_count

-- whether two keys are the same
abbrev pub is_same : PageKey → PageKey → Bool
is_same k q = k.name == q.name && k.cell == q.cell

-- the style of the box of a number on the pages of a key
abbrev pub style_with : List (List (List (ℕ × MarginStyleOf))) → PageKey → ℕ → Option MarginStyleOf
style_with rows k place =
    option_and_then (style_at place)
    (option_and_then (λ row. slice_get row k.cell) (row_of rows (record { 0 = k.name })))

-- the faces that are kept for a key are those of the boxes on its pages
abbrev pub IsChosen : List FontFace → List (List (List (ℕ × MarginStyleOf))) → PageKey × List FaceId → Type 0
IsChosen faces rows e = AreFacesOf faces (style_with rows e.0) e.1

-- so of each key
abbrev pub AreChosen : List FontFace → List (List (List (ℕ × MarginStyleOf))) → List (PageKey × List FaceId) → Type 0
AreChosen faces rows kept = All (IsChosen faces rows) kept
