use Rattle.std.proofs.Common.{◌≡◌, ◌++◌, drop}
use Rattle.std.specs.Str.{IsCharBoundary}
use Rattle.soft_hyphens.specs.Pass.{softened}
use Rattle.soft_hyphens.proofs.texts.put_text.Given as goal

abbrev pub invariant-loop-offset : goal.invariant-loop-offset
invariant-loop-offset l = record {
  put : IsCharBoundary l.text l.put;
  ends : l.made.ends ≡ l.fn.made.ends;
  bytes : l.made.bytes ++ softened l.text l.put (drop l.offset-index l.offsets) l.to ≡ l.fn.made.bytes ++ softened l.text l.from l.offsets l.to;
}
