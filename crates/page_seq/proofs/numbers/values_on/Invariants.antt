use Rattle.std.proofs.Common.{◌≡◌, length, take}
use Rattle.page_seq.specs.Places.{page_of}
use Rattle.page_seq.proofs.NumberLemmas.{AreValues}
use Rattle.page_seq.proofs.numbers.values_on.Given as goal

abbrev pub invariant-loop-k : goal.invariant-loop-k
invariant-loop-k l = (length l.values.items ≡ length l.list.pages) × AreValues (λ r. page_of l.tree l.list.pages r.at) (take l.k l.resets) (length l.list.pages) l.values.items
