-- Lists of values by names.
use Rattle.std.specs.Prelude.{◌≡◌, ℕ, zero, suc, List, [], ◌∷◌, ◌++◌, Option, None, Some, filter, fold, length, map, slice_get}
use Rattle.std.specs.Str.{bytes_eq}
use Rattle.std.specs.List.{position, position_or_len}
use Rattle.bk_num.specs.Names.{with_name}

-- the names, each once, in the order in which they came, and the list of each
pub record ListsOf (T : Type 0) : Type 0 where
  pub names : List (List ℕ)
  pub lists : List (List T)

-- these names with these lists
abbrev pub lists_in : {T : Type 0} → List (List ℕ) → List (List T) → ListsOf T
lists_in names lists = record { names = names; lists = lists }

-- no names
abbrev pub no_lists : {T : Type 0} → ListsOf T
no_lists = lists_in [] []

-- lists with one more, of one value
abbrev pub with_new : {T : Type 0} → List (List T) → T → List (List T)
with_new lists item = lists ++ (item ∷ []) ∷ []

-- lists with a value more in one of them; the one after the last is empty
abbrev pub with_item_at : {T : Type 0} → List (List T) → ℕ → T → List (List T)
with_item_at [] i item = (item ∷ []) ∷ []
with_item_at (l ∷ ls) zero item = (l ++ item ∷ []) ∷ ls
with_item_at (l ∷ ls) (suc i) item = l ∷ with_item_at ls i item

-- a value more under a name
abbrev pub with_item : {T : Type 0} → ListsOf T → List ℕ × T → ListsOf T
with_item l e = lists_in (with_name l.names e.0) (with_item_at l.lists (position_or_len (bytes_eq e.0) l.names) e.1)

-- values under names, one after the other
abbrev pub with_items : {T : Type 0} → ListsOf T → List (List ℕ × T) → ListsOf T
with_items l pairs = fold with_item l pairs

-- a list, or none
abbrev pub listed : {T : Type 0} → Option (List T) → List T
listed None = []
listed (Some l) = l

-- the list of a number
abbrev pub list_at : {T : Type 0} → List (List T) → Option ℕ → List T
list_at lists None = []
list_at lists (Some i) = listed (slice_get lists i)

-- the list of a name
abbrev pub items_of : {T : Type 0} → ListsOf T → List ℕ → List T
items_of l name = list_at l.lists (position (bytes_eq name) l.names)

-- the values of a name among values with their names
abbrev pub of_name : {T : Type 0} → List (List ℕ × T) → List ℕ → List T
of_name pairs name = map (λ e. e.1) (filter (λ e. bytes_eq e.0 name) pairs)

-- no name comes twice
abbrev pub AreDistinct : List (List ℕ) → Type 0
AreDistinct names = (i : ℕ) (x : List ℕ) → slice_get names i ≡ Some x → position (bytes_eq x) names ≡ Some i

-- the list of each name has what was added under the name, in order
pub record AreListed {T : Type 0} (pairs : List (List ℕ × T)) (l : ListsOf T) : Type 0 where
  pub len : length l.names ≡ length l.lists
  pub distinct : AreDistinct l.names
  pub each : (name : List ℕ) → items_of l name ≡ of_name pairs name

-- ---- law

-- so it is of values that are added one after the other
abbrev pub AreOfNames : Type 0 → Type 0
AreOfNames T = (pairs : List (List ℕ × T)) → AreListed pairs (with_items no_lists pairs)
