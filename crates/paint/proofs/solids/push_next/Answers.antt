use Rattle.std.proofs.Common.{arith}
use Rattle.paint.proofs.solids.push_next.Goals as goal

pub go_to-requires-clause-within : goal.go_to-requires-clause-within
go_to-requires-clause-within c = (let w = c.requires.stands.event in omega arith)

pub push_solid-requires-clause-place : goal.push_solid-requires-clause-place
push_solid-requires-clause-place c = record {
  origin = c.requires.origin;
  boxes = rw c.deref.ensures.value c.in_ok-go_to.ensures;
  faces = c.requires.faces;
}
