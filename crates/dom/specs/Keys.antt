-- Attributes by their element and name.
use Rattle.std.specs.Prelude.{ℕ, Bool, ◌&&◌, ◌==◌}
use Rattle.dom.specs.declared.store.Key.{Key}

-- whether a key is that of a node and of a name
abbrev pub is_key : ℕ → ℕ → Key → Bool
is_key node name q = node == q.node && name == q.name
