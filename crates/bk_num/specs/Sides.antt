-- The four sides of a box, in the order top, right, bottom, left (CSS 2.1, 8.1 and 8.3).
use Rattle.std.specs.Prelude.{ℕ, List, [], ◌∷◌, Option, slice_get}
use Rattle.bk_num.specs.declared.sides.BoxSide.{BoxSide}
use Rattle.bk_num.specs.declared.sides.BoxSide.TheVariants as side
use Rattle.bk_num.specs.declared.sides.Sides.{Sides}

-- the place of a side in that order, from 0
abbrev pub place_of : BoxSide → ℕ
place_of side.Top = 0
place_of side.Right = 1
place_of side.Bottom = 2
place_of side.Left = 3

-- the value of a side, where values stand in that order
abbrev pub at_side : {A : Type 0} → List A → BoxSide → Option A
at_side values side = slice_get values (place_of side)

-- what a rule gives for each side
abbrev pub each : {A : Type 0} → (BoxSide → A) → Sides A
each f = record { top = f side.Top; right = f side.Right; bottom = f side.Bottom; left = f side.Left }

-- the same for all four
abbrev pub same : {A : Type 0} → A → Sides A
same a = each (λ s. a)

-- the value of a side
abbrev pub at : {A : Type 0} → Sides A → BoxSide → A
at v side.Top = v.top
at v side.Right = v.right
at v side.Bottom = v.bottom
at v side.Left = v.left

-- the values with another one for a side
abbrev pub with_side : {A : Type 0} → BoxSide → A → Sides A → Sides A
with_side side.Top a v = record v { top = a }
with_side side.Right a v = record v { right = a }
with_side side.Bottom a v = record v { bottom = a }
with_side side.Left a v = record v { left = a }

-- the values as a list
abbrev pub list_of : {A : Type 0} → Sides A → List A
list_of v = v.top ∷ v.right ∷ v.bottom ∷ v.left ∷ []
