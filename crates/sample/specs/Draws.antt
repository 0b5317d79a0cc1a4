-- The numbers of a sample book are drawn by a linear congruential generator.
use Rattle.std.specs.Prelude.{ℕ, ◌+◌, ◌*◌, ◌/◌, ◌%◌, ◌^◌}

-- the state after a draw
unfoldable pub next_state : ℕ → ℕ
next_state x = (x * 1103515245 + 12345) % 2 ^ 31

-- the number below m that a draw gives, where it leaves this state
unfoldable pub drawn : ℕ → ℕ → ℕ
drawn m x = x / 65536 % m

-- the letter at a place of `a` to `z`, from 0
unfoldable pub letter : ℕ → ℕ
letter place = 97 + place
