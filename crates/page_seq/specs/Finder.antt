-- By which the page of any place is found: where the solids of pages end.
use Rattle.std.specs.Prelude.{◌≡◌, ℕ, List, unwrap_or}
use Rattle.boxes.specs.declared.page.Page.{Page}
use Rattle.boxes.specs.declared.place.Position.{Position}
use Rattle.page_seq.specs.Places.{NeverFall, first_place, is_before, page_at}
use Rattle.page_seq.specs.declared.finder.PageFinder.TheInside.{Inside}

-- for each page the furthest end of its solids and of those on pages before it, and the last page that holds a solid
pub record Ends : Type 0 where
  pub ends : List Position
  pub last : ℕ

-- the first page up to which a solid ends after a place, else the last page that holds a solid
abbrev pub page_by : Ends → Position → ℕ
page_by e at = unwrap_or (first_place (is_before at) e.ends) e.last

-- by these ends each place belongs to its page of a list
abbrev pub AreEndsOf : List Page → Ends → Type 0
AreEndsOf pages e = (at : Position) → page_by e at ≡ page_at pages at

-- ---- what a finder keeps

-- the ends that the fields of a finder stand for
abbrev pub ends_in : Inside → Ends
ends_in a = record { ends = a.ends.items; last = a.last }

-- these ends never fall
abbrev pub NeverFallIn : Inside → Type 0
NeverFallIn a = NeverFall a.ends.items
