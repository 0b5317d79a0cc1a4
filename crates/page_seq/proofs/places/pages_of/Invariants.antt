use Rattle.std.proofs.Common.{◌≡◌, ◌≤◌, Some, map, take, slice_get}
use Rattle.boxes.specs.declared.place.Position.{Position}
use Rattle.page_seq.specs.Places.{page_of}
use Rattle.page_seq.proofs.places.pages_of.Given as goal

abbrev pub invariant-loop-place : goal.invariant-loop-place
invariant-loop-place l = record {
  numbers : l.numbers.items ≡ map (page_of l.tree l.pages) (take l.place-index l.places);
  low : (next : Position) → slice_get l.places l.place-index ≡ Some next → l.number ≤ page_of l.tree l.pages next;
}
