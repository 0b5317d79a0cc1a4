-- The notes of a page: how many of their solids stand on it (css-gcpm-3, 2: footnotes).
use Rattle.std.specs.Prelude.{◌≡◌, ℕ, suc, ℤ, pos, ◌^◌, ◌<◌, ◌≤◌, ◌≤ℤ◌, ◌+ℤ◌, List, [], ◌∷◌, ◌++◌, Option, Some, None, ◌==◌, length, slice_get, max, FitsSigned, if◌then◌else◌}
use Rattle.std.specs.Int.{w64}
use Rattle.bk_num.specs.Limits.{separator}
use Rattle.bk_num.specs.Numbers.{IsWithin}
use Rattle.boxes.specs.declared.page.Placed.{Placed}
use Rattle.notes.specs.declared.solid.NoteSolid.{NoteSolid}
use Rattle.notes.specs.Stacked.{bottom_of, extent_of, greatest_of}

-- gaps and heights keep their bounds, and no height is negative
pub record IsSmallNote (s : NoteSolid) : Type 0 where
  pub gap : IsWithin (2 ^ 32) s.gap
  pub height : IsWithin (2 ^ 32) s.height
  pub some : pos 0 ≤ℤ s.height

-- the gap above a solid, 0 where none is
abbrev pub note_gap : Option NoteSolid → ℤ
note_gap None = pos 0
note_gap (Some s) = s.gap

-- the height of a solid, 0 where none is
abbrev pub note_height : Option NoteSolid → ℤ
note_height None = pos 0
note_height (Some s) = s.height

-- the bottom of the nth solid of a list
abbrev pub note_bottom : List NoteSolid → ℕ → ℤ
note_bottom list n = bottom_of (λ k. note_gap (slice_get list k)) (λ k. note_height (slice_get list k)) n

-- the greatest bottom, at least 0, of the first n solids of a list
abbrev pub note_extent : List NoteSolid → ℕ → ℤ
note_extent list n = extent_of (λ k. note_gap (slice_get list k)) (λ k. note_height (slice_get list k)) n

-- the height of a note area by the bottoms of its n solids, from its top: it begins with the separator's room, and
-- reaches to the greatest bottom
abbrev pub area_height : (ℕ → ℤ) → ℕ → ℤ
area_height bottom n = greatest_of separator bottom n

-- the room that the first n solids of a list take: none without solids, else the area in which they stand below the
-- separator's room
abbrev pub area_of : List NoteSolid → ℕ → ℤ
area_of list n = if n == 0 then pos 0 else area_height (λ k. separator +ℤ note_bottom list (suc k)) n

-- the bottom of a solid that is placed in a note area, from its top; 0 where none is
abbrev pub placed_bottom : Option (ℕ × Placed) → ℤ
placed_bottom None = pos 0
placed_bottom (Some n) = n.1.top +ℤ n.1.height

-- the height of the note area in which some solids are placed
abbrev pub placed_height : List (ℕ × Placed) → ℤ
placed_height notes = area_height (λ k. placed_bottom (slice_get notes k)) (length notes)

-- the bottoms of some placed solids are within 64 bits
abbrev pub HaveBottoms : List (ℕ × Placed) → Type 0
HaveBottoms notes = (k : ℕ) → k < length notes → FitsSigned w64 (placed_bottom (slice_get notes k))

-- how many of the carried solids a page of this height places at least: 0 where nothing is carried, else the greatest
-- number whose area is at most half the height, at least 1
pub record IsCarryCount (list : List NoteSolid) (carried : ℕ) (height : ℤ) (c : ℕ) : Type 0 where
  pub none : carried ≡ 0 → c ≡ 0
  pub some : 0 < carried → 0 < c
  pub within : c ≤ carried
  pub half : 1 < c → (area_of list c +ℤ area_of list c) ≤ℤ height
  pub greatest : (k : ℕ) → k ≤ carried → (area_of list k +ℤ area_of list k) ≤ℤ height → k ≤ c

-- the place, from 1, of the last solid with which a note that is called here begins; n solids stand before the list
abbrev pub last_begin : ℕ → List NoteSolid → ℕ
last_begin n [] = 0
last_begin n (s ∷ list) = max (if s.begins then suc n else 0) (last_begin (suc n) list)

-- how many solids have to stand on the page: c, and up to the first solid of the last note that is called on it
abbrev pub must_of : List NoteSolid → ℕ → ℕ
must_of list c = max c (last_begin 0 list)

-- the greatest number from `least` on whose area is within the room, else `least`
pub record IsPlaced (list : List NoteSolid) (least : ℕ) (room : ℤ) (n : ℕ) : Type 0 where
  pub low : least ≤ n
  pub within : n ≤ length list
  pub fits : least < n → area_of list n ≤ℤ room
  pub greatest : (k : ℕ) → least ≤ k → k ≤ length list → area_of list k ≤ℤ room → k ≤ n

-- the area never falls where more solids are placed
abbrev pub AreaNeverFalls : Type 0
AreaNeverFalls = (list : List NoteSolid) (m n : ℕ) → m ≤ n → area_of list m ≤ℤ area_of list n

-- the number of solids that have to stand on a page never falls where the list gets longer
abbrev pub MustNeverFalls : Type 0
MustNeverFalls = (list more : List NoteSolid) (c : ℕ) → must_of list c ≤ must_of (list ++ more) c

-- so what has to stand on a page takes no less room where more notes are called on it
abbrev pub NeedNeverFalls : Type 0
NeedNeverFalls = (list more : List NoteSolid) (c : ℕ) → c ≤ length list →
    area_of list (must_of list c) ≤ℤ area_of (list ++ more) (must_of (list ++ more) c)
