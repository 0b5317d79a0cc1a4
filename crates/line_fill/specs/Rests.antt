-- What is left of a plan after one of its lines.
use Rattle.std.specs.Prelude.{◌≡◌, ◌==◌, ◌&&◌, ◌||◌, ◌+◌, ◌-◌, not, ℕ, ℤ, Bool, true, List, ◌∷◌, drop, slice_index}
use Rattle.std.specs.Str.{IsUtf8}
use Rattle.metrics.specs.Face.{FontFace}
use Rattle.boxes.specs.Contents.{IsGoodLeaf}
use Rattle.boxes.specs.declared.leaf.Leaf.{Leaf}
use Rattle.line_fill.specs.Stops.{measures_of, offsets_of, stops_of}
use Rattle.total_fit.specs.Plans.{IsBest}
use Rattle.total_fit.specs.Rests.{ends_after}

-- whether the character that begins at a place of a text is none of a space, a newline, a soft hyphen (two bytes of
-- UTF-8) and a zero width space (three bytes): a line that begins there is as wide as it is in the line before it
unfoldable pub begins_plain : List ℕ → ℕ → Bool
begins_plain text at =
    not (slice_index text at == 32 || slice_index text at == 10
    || (slice_index text at == 194 && slice_index text (at + 1) == 173)
    || (slice_index text at == 226 && slice_index text (at + 1) == 128 && slice_index text (at + 2) == 139))

-- of a plan from a place on, the ends after its end number `last`, which is the place `at`, are the best plan from
-- there on, whose stops are the later ones
pub record IsRestOfPlan (faces : List FontFace) (leaf : Leaf) (from : ℕ) (measure : ℤ) (last at : ℕ) (ends : List ℕ) :
    Type 0 where
  pub best : IsBest (stops_of faces leaf at) (measures_of leaf at measure) (ends_after last ends)
  pub offsets : offsets_of leaf at ≡ drop last (offsets_of leaf from)

-- past a line of a plan, where the next line begins plain, what is left of the plan is the best plan of what is left
abbrev pub RestOfPlanIsPlan : Type 0
RestOfPlanIsPlan =
    (faces : List FontFace) (leaf : Leaf) (from : ℕ) (measure : ℤ) (last at e next : ℕ) (ends : List ℕ) →
    IsGoodLeaf leaf → IsUtf8 leaf.text → IsRestOfPlan faces leaf from measure last at (e ∷ next ∷ ends) →
    begins_plain leaf.text (slice_index (offsets_of leaf from) (e - 1)) ≡ true →
    IsRestOfPlan faces leaf from measure e (slice_index (offsets_of leaf from) (e - 1)) (next ∷ ends)
