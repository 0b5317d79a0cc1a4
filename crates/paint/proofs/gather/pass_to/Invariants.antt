use Rattle.paint.specs.Parts.{IsAt, IsGrown}
use Rattle.paint.proofs.gather.pass_to.Given as goal

abbrev pub invariant-loop-at : goal.invariant-loop-at
invariant-loop-at l = record {
  at : IsAt l.tree l.origin.width l.parts.items (record { event = l.at; inner = l.inner });
  grown : IsGrown l.fn.parts.items l.parts.items;
}
