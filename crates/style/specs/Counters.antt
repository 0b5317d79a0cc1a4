-- Counters (CSS 2.1, 12.4): the one that is no counter of the document, and this program's limits on lists of them.
use Rattle.std.specs.Prelude.{◌≡◌, ℕ, ℤ, ◌≤◌, Bool, List, Some, codes, length, slice_get, unsigned_abs}
use Rattle.std.specs.Str.{bytes_eq}
use Rattle.bk_num.specs.Written.{most_whole}
use Rattle.style.specs.declared.lists.TheConstants.{MOST_COUNTERS}

-- whether a counter is `page`, which counts pages and no elements (css-page-3, 7.1)
abbrev pub is_page_counter : List ℕ → Bool
is_page_counter name = bytes_eq name (codes "page")

-- the most counters of a list
abbrev pub most_counters : ℕ
most_counters = 64

-- the code has this limit
abbrev pub LimitAgrees : Type 0
LimitAgrees = MOST_COUNTERS ≡ most_counters

-- no more counters than that, each with a number within the greatest whole number either way
pub record AreCounters (counters : List (List ℕ × ℤ)) : Type 0 where
  pub few : length counters ≤ most_counters
  pub small : (k : ℕ) (c : List ℕ × ℤ) → slice_get counters k ≡ Some c → unsigned_abs c.1 ≤ most_whole
