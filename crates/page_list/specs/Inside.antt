-- That what a page places stands inside its frame (css-break-3, 4.4: a page ends where what precedes the break fits).
use Rattle.std.specs.Prelude.{ℕ, ℤ, ◌≤◌, ◌≤ℤ◌, ◌+ℤ◌, List}
use Rattle.std.specs.List.{All}
use Rattle.boxes.specs.declared.page.Page.{Page}
use Rattle.boxes.specs.declared.page.Placed.{Placed}

-- a solid's bottom is at most a height
abbrev pub EndsBy : ℤ → Placed → Type 0
EndsBy height p = (p.top +ℤ p.height) ≤ℤ height

-- a solid ends above the note area, which stands at the foot of the frame and reaches to the greatest bottom of its
-- solids
abbrev pub EndsAbove : ℤ → List (ℕ × Placed) → Placed → Type 0
EndsAbove height notes p = All (λ n. ((p.top +ℤ p.height) +ℤ (n.1.top +ℤ n.1.height)) ≤ℤ height) notes

-- the solids of a page end inside a frame of a height, above the notes on the page
abbrev pub AreInside : ℤ → List (ℕ × Placed) → List Placed → Type 0
AreInside height notes solids = All (λ p. EndsBy height p × EndsAbove height notes p) solids

-- at levels 0 to 2 the solids of each page end inside its frame and above its notes. At level 4 nothing fits, and a
-- page overflows; at level 3 its notes may
abbrev pub EndInside : List Page → Type 0
EndInside pages = All (λ p. p.level ≤ 2 → AreInside p.frame.height p.notes p.solids) pages
