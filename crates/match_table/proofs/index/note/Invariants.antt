use Rattle.std.proofs.Common.{◌≡◌, length, map, take}
use Rattle.match_table.specs.Index.{IsNoted, Keeps}
use Rattle.match_table.proofs.index.note.Given as goal

abbrev pub invariant-loop-word : goal.invariant-loop-word
invariant-loop-word l = record {
  noted : IsNoted l.words l.lists.items (take l.word-index (map (λ w. w.now) l.found)) l.node;
  keeps : Keeps l.fn.lists.items l.lists.items;
  count : length l.lists.items ≡ length l.fn.lists.items;
}
