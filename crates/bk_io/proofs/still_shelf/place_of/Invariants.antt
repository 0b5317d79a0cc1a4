use Rattle.std.proofs.Common.{◌≡◌, drop}
use Rattle.bk_io.specs.Memory.{told_of, files_in}
use Rattle.bk_io.proofs.still_shelf.place_of.Given as goal

abbrev pub invariant-loop-i : goal.invariant-loop-i
invariant-loop-i l = told_of (files_in (drop l.i l.files)) l.name ≡ told_of (files_in l.files) l.name
