use Rattle.std.proofs.Common.{◌≡◌, length, take}
use Rattle.std.specs.List.{list_any}
use Rattle.boxes.specs.declared.place.Position.{Position}
use Rattle.page_seq.specs.Places.{NeverFall, first_place, has_end_after, is_before}
use Rattle.page_seq.proofs.FinderLemmas.{NoneAfter}
use Rattle.page_seq.proofs.finder.ends_of.Given as goal

abbrev pub invariant-loop-page : goal.invariant-loop-page
invariant-loop-page l = record {
  count : length l.ends.items ≡ l.page-index;
  same : (at : Position) → first_place (is_before at) l.ends.items ≡ first_place (has_end_after at) (take l.page-index l.pages);
  reach : (at : Position) → is_before at l.end ≡ list_any (has_end_after at) (take l.page-index l.pages);
  none : NoneAfter l.end l.ends.items;
  order : NeverFall l.ends.items;
}
