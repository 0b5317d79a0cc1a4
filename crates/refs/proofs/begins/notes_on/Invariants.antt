use Rattle.std.proofs.Common.{◌≡◌, ◌<◌, ◌==◌, ℕ, cond, Option, None, Some, length, take, slice_index_or}
use Rattle.std.specs.List.{list_any}
use Rattle.std.specs.Option.{option_or}
use Rattle.refs.proofs.begins.notes_on.Given as goal

abbrev pub invariant-loop-placed : goal.invariant-loop-placed
invariant-loop-placed l = (n : ℕ) (d : Option ℕ) → n < length l.fn.begins → slice_index_or l.begins n d ≡ option_or (slice_index_or l.fn.begins n d) (cond (list_any (λ s. s.0 == n) (take l.placed-index l.placed-items)) (Some l.number) None)
