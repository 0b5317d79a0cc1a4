use Rattle.std.proofs.Common.{◌≡◌, ◌++◌, take, string_bytes}
use Rattle.std.specs.List.{flat_map}
use Rattle.gen_text.specs.Parts.{after_text}
use Rattle.gen_text.proofs.parts.push_more.Given as goal

abbrev pub invariant-loop-value : goal.invariant-loop-value
invariant-loop-value l = string_bytes l.into ≡ string_bytes l.fn.into ++ flat_map (after_text l.between l.style) (take l.value-index l.values)
