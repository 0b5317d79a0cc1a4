use Rattle.std.proofs.Common.{◌≡◌, ◌-◌, ℕ, List, Some, true, drop, length, map, option_map, slice_get}
use Rattle.std.specs.String.{string_bytes}
use Rattle.bk_num.specs.Names.{has_name}
use Rattle.named_lists.specs.Lists.{items_of}
use Rattle.counters.specs.Document.{named}
use Rattle.counters.specs.Gather.{is_at, with_changes}
use Rattle.counters.specs.Log.{events_at, of_asked}
use Rattle.counters.proofs.number.push_row.Given as goal

abbrev pub invariant-loop-change : goal.invariant-loop-change
invariant-loop-change l = (with_changes l.into (of_asked (map (λ k. string_bytes k) l.asked.keys) (named l.row.at l.row.end (drop l.change-index l.change-items))) ≡ with_changes l.initial.into (of_asked (map (λ k. string_bytes k) l.asked.keys) (events_at l.row))) × (l.change-items ≡ l.row.changes.value) × (length l.into.names ≡ length l.into.lists) × ((x : List ℕ) → option_map (λ n. n.now) l.before ≡ Some x → has_name (map (λ k. string_bytes k) l.asked.keys) x ≡ true → is_at l.row.at (slice_get (items_of l.into x) (length (items_of l.into x) - 1)) ≡ true)
