use Rattle.std.proofs.Common.{◌≡◌, ◌++◌, string_bytes}
use Rattle.std.specs.List.{flat_map, range_with_len}
use Rattle.sample.specs.Html.{link}
use Rattle.sample.proofs.book.push_links.Given as goal

abbrev pub invariant-loop-before : goal.invariant-loop-before
invariant-loop-before l = string_bytes l.out ≡ string_bytes l.fn.out ++ flat_map link (range_with_len 1 l.before)
