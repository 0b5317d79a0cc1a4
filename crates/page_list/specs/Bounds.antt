-- How many pages a flow has at most.
use Rattle.std.specs.Prelude.{◌≡◌, ℕ, suc, ◌+◌, ◌*◌, pos, List, [], ◌∷◌, Option, None, Some, Bool, false, not, ◌&&◌, length, max, slice_get, if◌then◌else◌}
use Rattle.std.specs.Fmt.{char_count}
use Rattle.std.specs.List.{All, sum_by}
use Rattle.std.specs.Str.{IsUtf8}
use Rattle.boxes.specs.Tree.{Tree}
use Rattle.boxes.specs.declared.flow.Flow.{Flow}
use Rattle.boxes.specs.declared.leaf.Leaf.{Leaf as LeafData}
use Rattle.boxes.specs.declared.frames.Demand.{Demand}
use Rattle.boxes.specs.declared.place.Event.{Event}
use Rattle.boxes.specs.declared.place.Event.TheVariants.{Opens, Closes, Leaf}
use Rattle.seams.specs.Runs.{is_solid}
use Rattle.seams.specs.Seams.{seam_of}
use Rattle.page_list.specs.Parted.{edges_among}

-- whether a seam has a demand that isn't free: not each page meets it
abbrev pub is_sided : (Demand → Bool) → Option Demand → Bool
is_sided free None = false
is_sided free (Some d) = not (free d)

-- how many of some events, numbered from k on, are solids after a seam whose demand isn't free
abbrev pub sided_among : (Demand → Bool) → Tree → ℕ → List Event → ℕ
sided_among free t k [] = 0
sided_among free t k (e ∷ es) =
    (if is_solid t.boxes e && is_sided free (seam_of t (record { event = k; offset = 0 }) (pos 0)).forced
    then 1 else 0) +
    sided_among free t (suc k) es

-- the forced seams of a tree whose demand isn't free, the start among them where it asks a side
abbrev pub sided_in : (Demand → Bool) → Tree → ℕ
sided_in free t = sided_among free t 0 t.events

-- how many characters a leaf has
abbrev pub chars_by : Option LeafData → ℕ
chars_by None = 0
chars_by (Some leaf) = char_count leaf.text

-- the characters of the leaves among events
abbrev pub chars_among : List LeafData → List Event → ℕ
chars_among leaves [] = 0
chars_among leaves (Opens b ∷ es) = chars_among leaves es
chars_among leaves (Closes b ∷ es) = chars_among leaves es
chars_among leaves (Leaf l ∷ es) = chars_by (slice_get leaves l) + chars_among leaves es

-- the edges that a tree has, and the characters of its text
abbrev pub parts_in : Tree → ℕ
parts_in t = chars_among t.leaves t.events + length (edges_among t.boxes t.events)

-- as many pages as parts of the main tree, at least one, and as parts of the bodies of the notes; and before each side
-- that is asked as many blank ones as frames need at most
abbrev pub most_pages_of : (Demand → Bool) → ℕ → Flow → ℕ
most_pages_of free bound flow =
    (max 1 (parts_in flow.main) + sum_by (λ n. parts_in n.body) flow.notes) + sided_in free flow.main * bound

-- what stands in the leaf of an event is a text
abbrev pub HasText : Tree → ℕ → Type 0
HasText t event = (l : ℕ) (leaf : LeafData) → slice_get t.events event ≡ Some (Leaf l) →
    slice_get t.leaves l ≡ Some leaf → IsUtf8 leaf.text

-- what stands in each leaf is a text
abbrev pub HaveTexts : Tree → Type 0
HaveTexts t = (event : ℕ) → HasText t event

-- and in each leaf of a flow and of its notes
pub record HasTexts (flow : Flow) : Type 0 where
  pub main : HaveTexts flow.main
  pub notes : All (λ n. HaveTexts n.body) flow.notes
