-- Which page of a page list what stands at a place of the main tree belongs to: that of the line that holds the place,
-- else of the next solid, else of the last one.
use Rattle.std.specs.Prelude.{◌≡◌, ℕ, suc, ◌-◌, ◌==◌, ◌&&◌, ◌||◌, not, nat_lt, nat_le, Bool, false, List, [], ◌∷◌, Option, None, Some, option_map, unwrap_or, length, slice_get, if◌then◌else◌}
use Rattle.std.specs.List.{list_any}
use Rattle.boxes.specs.Tree.{Tree}
use Rattle.boxes.specs.declared.leaf.Leaf.{Leaf as LeafData}
use Rattle.boxes.specs.declared.page.Page.{Page}
use Rattle.boxes.specs.declared.page.Placed.{Placed}
use Rattle.boxes.specs.declared.place.Event.{Event}
use Rattle.boxes.specs.declared.place.Event.TheVariants.{Opens, Closes, Leaf}
use Rattle.boxes.specs.declared.place.Position.{Position}

-- places are ordered by their events, and then by their offsets
abbrev pub is_before : Position → Position → Bool
is_before a b = nat_lt a.event b.event || (a.event == b.event && nat_lt a.offset b.offset)

-- places that never fall along a list
abbrev pub NeverFall : List Position → Type 0
NeverFall places = (k : ℕ) (a b : Position) → slice_get places k ≡ Some a → slice_get places (suc k) ≡ Some b →
    is_before b a ≡ false

-- how long the text of the leaf at an event is
abbrev pub text_length : List LeafData → Option Event → Option ℕ
text_length leaves None = None
text_length leaves (Some (Opens b)) = None
text_length leaves (Some (Closes b)) = None
text_length leaves (Some (Leaf l)) = option_map (λ leaf. length leaf.text) (slice_get leaves l)

-- a place, or the next event where it is the end of a text of some length
abbrev pub past_text : Position → Option ℕ → Position
past_text at None = at
past_text at (Some size) = if nat_le size at.offset then record { event = suc at.event; offset = 0 } else at

-- no line holds the end of a leaf's text: what stands there is taken as standing at the next event
abbrev pub anchor_of : Tree → Position → Position
anchor_of t at = past_text at (text_length t.leaves (slice_get t.events at.event))

-- a solid that holds a place or stands after it: it ends after the place
abbrev pub ends_after : Position → Placed → Bool
ends_after at solid = is_before at solid.end

-- whether a solid of a page holds a place or stands after it
abbrev pub has_end_after : Position → Page → Bool
has_end_after at page = list_any (ends_after at) page.solids

-- whether a page holds a solid
abbrev pub has_solid : Page → Bool
has_solid page = not (length page.solids == 0)

-- the place of the first element that passes
abbrev pub first_place : {X : Type 0} → (X → Bool) → List X → Option ℕ
first_place p [] = None
first_place p (x ∷ xs) = if p x then Some 0 else option_map suc (first_place p xs)

-- the last of some places, where a later one may be found and this one is one or not
abbrev pub last_or_here : Bool → Option ℕ → Option ℕ
last_or_here here (Some k) = Some (suc k)
last_or_here here None = if here then Some 0 else None

-- the place of the last element that passes
abbrev pub last_place : {X : Type 0} → (X → Bool) → List X → Option ℕ
last_place p [] = None
last_place p (x ∷ xs) = last_or_here (p x) (last_place p xs)

-- the last page that holds a solid, by its place in the list; the first page where none holds any
abbrev pub last_page : List Page → ℕ
last_page pages = unwrap_or (last_place has_solid pages) 0

-- the first page with a solid that holds the place or stands after it; where no page has one, the last page that holds
-- a solid; where none holds any, the first page
abbrev pub page_at : List Page → Position → ℕ
page_at pages at = unwrap_or (first_place (has_end_after at) pages) (last_page pages)

-- the page that what stands at a place of a tree belongs to, by its place in the list, from 0 (css-gcpm-3, 1.1;
-- css-page-3)
abbrev pub page_of : Tree → List Page → Position → ℕ
page_of t pages at = page_at pages (anchor_of t at)

-- of the solids of that page, the one that it belongs to, by its place in their list
abbrev pub solid_at : Page → Position → ℕ
solid_at page at = unwrap_or (first_place (ends_after at) page.solids) (length page.solids - 1)
