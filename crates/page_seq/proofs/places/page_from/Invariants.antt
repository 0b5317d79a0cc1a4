use Rattle.std.proofs.Common.{◌≡◌, ◌<◌, ◌≤◌, ℕ, false, get_or}
use Rattle.boxes.specs.declared.page.Page.{Page}
use Rattle.page_seq.specs.Places.{has_end_after}
use Rattle.page_seq.proofs.places.page_from.Given as goal

abbrev pub invariant-loop-number : goal.invariant-loop-number
invariant-loop-number l = (j : ℕ) (d : Page) → l.first ≤ j → j < l.number → has_end_after l.at (get_or l.pages j d) ≡ false
