-- The numbers of pages (css-page-3, page-based counters).
use Rattle.std.specs.Prelude.{◌≤ℤ◌, neg_ℤ, pos, ◌^◌, ℕ, ℤ, ◌+ℤ◌, ◌==◌, List, [], ◌∷◌, Option, None, option_map, unwrap_or, map, length}
use Rattle.std.specs.List.{filter, last_or, range_with_len}
use Rattle.boxes.specs.Tree.{Tree}
use Rattle.boxes.specs.declared.flow.Reset.{Reset}
use Rattle.boxes.specs.declared.page.Page.{Page}
use Rattle.page_seq.specs.Places.{page_of}

-- the value of a reset lies within 2^40
pub record IsSmallReset (r : Reset) : Type 0 where
  pub low : neg_ℤ (pos (2 ^ 40)) ≤ℤ r.value
  pub high : r.value ≤ℤ pos (2 ^ 40)

-- the last value of a list of resets, if there is one
abbrev pub last_value : List Reset → Option ℤ
last_value resets = option_map (λ (r : Reset). r.value) (last_or None resets)

-- the value of the last reset of an element that begins on a page
abbrev pub value_on : Tree → List Page → List Reset → ℕ → Option ℤ
value_on t pages resets k = last_value (filter (λ r. page_of t pages r.at == k) resets)

-- that value of each page, in order
abbrev pub values_of : Tree → List Page → List Reset → List (Option ℤ)
values_of t pages resets = map (value_on t pages resets) (range_with_len 0 (length pages))

-- the number of a page after that of the page before it: the value of its last reset, and without one the next number
abbrev pub number_after : ℤ → Option ℤ → ℤ
number_after before value = unwrap_or value (before +ℤ pos 1)

-- the numbers of pages, one after the other
abbrev pub numbers_after : ℤ → List (Option ℤ) → List ℤ
numbers_after before [] = []
numbers_after before (value ∷ values) =
    number_after before value ∷ numbers_after (number_after before value) values

-- the numbers of the pages of a list, in order; the first page is numbered 1 where nothing resets it
abbrev pub numbers_of : Tree → List Page → List Reset → List ℤ
numbers_of t pages resets = numbers_after (pos 0) (values_of t pages resets)
