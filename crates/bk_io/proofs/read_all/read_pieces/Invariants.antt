use Rattle.std.proofs.Common.{◌≡◌, ℕ, ◌<◌, ◌≤◌, ◌-◌, List, length, take, vec_len}
use Rattle.bk_io.specs.Shelf.{absent, holds}
use Rattle.bk_io.proofs.read_all.read_pieces.Given as goal

abbrev pub invariant-loop-bytes : goal.invariant-loop-bytes
invariant-loop-bytes g l = record {
  room : 0 < length l.piece;
  within : vec_len l.bytes ≤ l.limit;
  told : g.S.Shelf.told l.shelf ≡ g.S.Shelf.told l.fn.shelf;
  bytes : (file : List ℕ) → g.S.Shelf.told l.fn.shelf l.name ≡ holds file → l.bytes.items ≡ take (vec_len l.bytes) file;
  count : g.S.Shelf.faults l.shelf ≡ g.S.Shelf.faults l.fn.shelf;
  later : g.S.Shelf.faults l.fn.shelf ≤ g.S.Shelf.faults l.shelf;
  absent : g.S.Shelf.told l.fn.shelf l.name ≡ absent → g.S.Shelf.faults l.shelf ≡ g.S.Shelf.faults l.fn.shelf;
}

abbrev pub decreases-loop-bytes : goal.decreases-loop-bytes
decreases-loop-bytes g l = l.limit - vec_len l.bytes
