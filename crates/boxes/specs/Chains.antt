-- First-child and last-child chains of boxes (css-break-3, 3.1).
use Rattle.std.specs.Prelude.{ℕ, zero, suc, List, [], ◌∷◌, ◌++◌, Option, Some, None, drop, slice_get}
use Rattle.boxes.specs.declared.place.Event.{Event}
use Rattle.boxes.specs.declared.place.Event.TheVariants.{Opens, Closes, Leaf}
use Rattle.boxes.specs.Tree.{first_of}

-- the boxes of a first-child chain, outer before inner: the Opens with which the events begin
abbrev pub opens_from : List Event → List ℕ
opens_from [] = []
opens_from (Opens b ∷ es) = b ∷ opens_from es
opens_from (Closes b ∷ es) = []
opens_from (Leaf l ∷ es) = []

-- the boxes of a last-child chain after one more event
abbrev pub closed_with : List ℕ → Option Event → List ℕ
closed_with chain None = []
closed_with chain (Some (Opens b)) = []
closed_with chain (Some (Closes b)) = chain ++ b ∷ []
closed_with chain (Some (Leaf l)) = []

-- the boxes of a last-child chain, inner before outer: the Closes with which the first k events end
abbrev pub closes_to : List Event → ℕ → List ℕ
closes_to es zero = []
closes_to es (suc k) = closed_with (closes_to es k) (slice_get es k)

-- the last of a list, or what came before it
abbrev pub last_from : Option ℕ → List ℕ → Option ℕ
last_from last [] = last
last_from last (b ∷ bs) = last_from (Some b) bs

-- the end of the first-child chain of the box that opens at an event: the innermost box of the chain
abbrev pub first_child_end : List Event → ℕ → Option ℕ
first_child_end es k = last_from None (opens_from (drop k es))

-- the end of the last-child chain of the box that closes at an event: the innermost box of the chain
abbrev pub last_child_end : List Event → ℕ → Option ℕ
last_child_end es k = first_of (closes_to es (suc k))
