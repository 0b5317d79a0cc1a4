use Rattle.std.proofs.Common.{map, take}
use Rattle.match_table.specs.Index.{HaveKeys}
use Rattle.match_table.proofs.index.words_of_keys.Given as goal

abbrev pub invariant-loop-selector : goal.invariant-loop-selector
invariant-loop-selector l = HaveKeys l.words (take l.selector-index (map (λ s. s.now) l.selectors))
