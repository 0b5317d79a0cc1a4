use Rattle.std.proofs.Common.{◌≡◌, ◌<◌, ℕ, Option, length, take, slice_index_or}
use Rattle.page_seq.specs.Noted.{has_note}
use Rattle.page_seq.specs.Places.{first_place}
use Rattle.refs.proofs.begins.begins_of.Given as goal

abbrev pub invariant-loop-number : goal.invariant-loop-number
invariant-loop-number l = record {
  size : length l.begins.items ≡ l.count;
  are : (n : ℕ) (d : Option ℕ) → n < l.count → slice_index_or l.begins.items n d ≡ first_place (has_note n) (take l.number l.pages);
}
