use Rattle.std.proofs.Common.{◌≡◌, ℕ, length, get_or, []}
use Rattle.match_table.proofs.index.empty_lists.Given as goal

abbrev pub invariant-loop-turn : goal.invariant-loop-turn
invariant-loop-turn l = (length l.lists.items ≡ l.turn) × ((i : ℕ) → get_or l.lists.items i [] ≡ [])
