use Rattle.std.proofs.Common.{◌≡◌, ◌+◌, map, take}
use Rattle.std.specs.List.{AllZip}
use Rattle.bk_num.specs.Limits.{most_file_bytes}
use Rattle.bk_io.specs.Reads.{IsTextOf}
use Rattle.named_files.proofs.read.sheet_texts.Given as goal

abbrev pub invariant-loop-name : goal.invariant-loop-name
invariant-loop-name g l = record {
  number : l.number ≡ l.name-index + 1;
  told : g.F.Shelf.told l.shelf ≡ g.F.Shelf.told l.fn.shelf;
  count : g.F.Shelf.faults l.shelf ≡ g.F.Shelf.faults l.fn.shelf;
  texts : AllZip (λ name text. IsTextOf (g.F.Shelf.told l.fn.shelf name) most_file_bytes text) (map (λ n. n.now) (take l.name-index l.names)) l.texts.items;
}
