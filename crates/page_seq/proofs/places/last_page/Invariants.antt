use Rattle.std.proofs.Common.{◌≡◌, ◌≤◌, take, length, unwrap_or}
use Rattle.page_seq.specs.Places.{last_place, has_solid}
use Rattle.page_seq.proofs.places.last_page.Given as goal

abbrev pub invariant-loop-number : goal.invariant-loop-number
invariant-loop-number l = (l.last ≡ unwrap_or (last_place has_solid (take l.number l.pages)) 0) × (l.last ≤ length l.pages)
