use Rattle.std.proofs.Common.{◌≡◌, ◌≤◌, ◌+◌, ◌++◌, drop, length, map}
use Rattle.bk_num.specs.Limits.{most_events}
use Rattle.box_gen.specs.Flow.{note_starts, notes_by}
use Rattle.box_gen.specs.Sites.{built_in}
use Rattle.box_gen.proofs.build.notes_of.Given as goal

abbrev pub invariant-loop-body : goal.invariant-loop-body
invariant-loop-body l = record {
  each : l.number + length l.body-iterator.rest.items ≡ length l.calls;
  few : length l.calls ≤ most_events;
  notes : l.notes.items ++ notes_by (drop l.number l.calls) (map built_in l.body-iterator.rest.items) ≡ notes_by l.calls (map built_in l.fn.bodies.items);
  starts : l.starts.items ++ note_starts l.number (map built_in l.body-iterator.rest.items) ≡ l.initial.starts.items ++ note_starts 0 (map built_in l.fn.bodies.items);
}
