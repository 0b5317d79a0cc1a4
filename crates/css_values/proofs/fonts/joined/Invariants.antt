use Rattle.std.proofs.Common.{◌≡◌, ◌++◌, drop}
use Rattle.std.specs.Prelude.{string_bytes}
use Rattle.css_values.specs.Fonts.{spaced}
use Rattle.css_values.proofs.fonts.joined.Given as goal

abbrev pub invariant-loop-word : goal.invariant-loop-word
invariant-loop-word l = string_bytes l.text ++ spaced (drop l.word-index l.more) ≡ l.first ++ spaced l.more
