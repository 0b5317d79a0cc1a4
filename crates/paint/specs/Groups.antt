-- The notes of a page that were painted.
use Rattle.std.specs.Prelude.{◌≡◌, ◌<◌, ◌++◌, ℕ, List, []}
use Rattle.std.specs.List.{flat_map, range_with_len}
use Rattle.metrics.specs.Face.{FontFace}
use Rattle.boxes.specs.declared.flow.Note.{Note}
use Rattle.boxes.specs.declared.item.Item.{Item}
use Rattle.boxes.specs.declared.page.Placed.{Placed}
use Rattle.paint.specs.Pages.{note_items, solids_of}
use Rattle.paint.specs.declared.item.SolidOrigin.{SolidOrigin}

-- of some solids those of the notes below a number were painted, those of that note are known, and there are none of
-- later ones
pub record IsPainted (faces : List FontFace) (all : List Note) (o : SolidOrigin) (old : List Item)
    (placed : List (ℕ × Placed)) (new : List Item) (number : ℕ) (solids : List Placed) : Type 0 where
  pub items : new ≡ old ++ flat_map (note_items faces all o placed) (range_with_len 0 number)
  pub solids_are : solids ≡ solids_of number placed
  pub none_later : (n : ℕ) → number < n → solids_of n placed ≡ []

-- whatever was painted before, a step leads from a note to another
abbrev pub GoesOn : List FontFace → List Note → SolidOrigin → List Item → ℕ → List Placed → List Item → ℕ →
    List Placed → Type 0
GoesOn faces all o items number solids new next kept = (old : List Item) (placed : List (ℕ × Placed)) →
    IsPainted faces all o old placed items number solids → IsPainted faces all o old placed new next kept
