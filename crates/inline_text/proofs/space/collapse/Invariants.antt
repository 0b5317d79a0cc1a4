use Rattle.std.proofs.Common.{◌≡◌, ◌++◌, drop}
use Rattle.std.specs.Str.{IsCharBoundary}
use Rattle.inline_text.specs.Joined.{ends_from, joined}
use Rattle.inline_text.specs.Space.{collapsed}
use Rattle.inline_text.proofs.space.collapse.Given as goal

abbrev pub invariant-loop-to : goal.invariant-loop-to
invariant-loop-to l = record {
  stand : IsCharBoundary l.text l.from;
  ends : drop l.to-index l.to-items ≡ ends_from l.from (drop l.to-index (collapsed l.parts));
  rest : drop l.from l.text ≡ joined (drop l.to-index (collapsed l.parts));
  names : l.names ++ drop l.to-index (collapsed l.parts) ≡ collapsed l.parts;
}
