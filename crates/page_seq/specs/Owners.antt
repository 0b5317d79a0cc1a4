-- To which solid what stands at a place belongs: the one that holds the place, else the next one, else the last one.
use Rattle.std.specs.Prelude.{◌≡◌, ◌<◌, not, ◌&&◌, Bool, true, false, List, [], ◌∷◌, ◌++◌, Some, length, slice_get}
use Rattle.std.specs.List.{All, flat_map}
use Rattle.boxes.specs.Tree.{Tree}
use Rattle.boxes.specs.declared.page.Page.{Page}
use Rattle.boxes.specs.declared.page.Placed.{Placed}
use Rattle.boxes.specs.declared.place.Position.{Position}
use Rattle.page_seq.specs.Places.{anchor_of, is_before, page_of, solid_at}

-- the solids of a page list, in order
abbrev pub solids_of : List Page → List Placed
solids_of pages = flat_map (λ p. p.solids) pages

-- solids that ascend from a place on: each ends after it begins, and begins no earlier than the one before it ends
abbrev pub Ascend : Position → List Placed → Type 0
Ascend from [] = Unit {0}
Ascend from (s ∷ solids) = (is_before s.at from ≡ false) × (is_before s.at s.end ≡ true) × Ascend s.end solids

-- whether a solid holds a place: it begins no later, and ends after it
abbrev pub holds : Position → Placed → Bool
holds at s = not (is_before at s.at) && is_before at s.end

-- whether a solid stands after a place
abbrev pub is_after : Position → Placed → Bool
is_after at s = is_before at s.at

-- the solid to which what stands at a place belongs, between those before it and those after it
pub data IsOwner (at : Position) (front : List Placed) (s : Placed) (back : List Placed) : Type 0 where
  of_place : holds at s ≡ true → IsOwner at front s back
  of_next : All (λ u. holds at u ≡ false) (front ++ s ∷ back) → is_after at s ≡ true →
      All (λ u. is_after at u ≡ false) front → IsOwner at front s back
  of_last : All (λ u. holds at u ≡ false) (front ++ s ∷ back) → All (λ u. is_after at u ≡ false) (front ++ s ∷ back) →
      back ≡ [] → IsOwner at front s back

-- on a page list whose solids ascend, the page of a place has the solid to which what stands there belongs
abbrev pub HaveOwners : Type 0
HaveOwners = (t : Tree) (pages : List Page) (start at : Position) → Ascend start (solids_of pages) →
    0 < length (solids_of pages) →
    (page : Page) × (s : Placed) × (front : List Placed) × (back : List Placed) ×
    (slice_get pages (page_of t pages at) ≡ Some page) ×
    (slice_get page.solids (solid_at page (anchor_of t at)) ≡ Some s)
    × (solids_of pages ≡ front ++ s ∷ back) × IsOwner (anchor_of t at) front s back
