use Rattle.std.proofs.Common.{◌≡◌, ◌||◌, take}
use Rattle.std.specs.List.{list_any}
use Rattle.boxes.specs.declared.place.Position.{Position}
use Rattle.page_seq.specs.Places.{ends_after, is_before}
use Rattle.page_seq.proofs.finder.furthest.Given as goal

abbrev pub invariant-loop-solid : goal.invariant-loop-solid
invariant-loop-solid l = (at : Position) → is_before at l.end ≡ (is_before at l.fn.from || list_any (ends_after at) (take l.solid-index l.solid-items))
