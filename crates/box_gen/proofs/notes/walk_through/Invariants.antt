use Rattle.std.proofs.Common.{◌≡◌, ◌≤◌, ◌+◌, ◌*◌, None, length}
use Rattle.box_gen.specs.Bodies.{after_all, all_walked, noted}
use Rattle.box_gen.specs.Flow.{bodies_of}
use Rattle.box_gen.specs.Sources.{source_in}
use Rattle.box_gen.specs.Steps.{walk_in}
use Rattle.box_gen.specs.Walkers.{AreSoundWalks, all_events, walks_in}
use Rattle.box_gen.proofs.notes.walk_through.Given as goal
use Rattle.box_gen.proofs.Walkable.{CanAll, CanWalk}

abbrev pub invariant-loop-step : goal.invariant-loop-step
invariant-loop-step l = record {
  nodes : l.steps.nodes ≡ l.input.texts.now.dom.now;
  can : CanWalk (source_in l.input) (walk_in l.input.texts.now.styles.now l.walker.main) l.steps.steps;
  notes : CanAll (source_in l.input) (noted None (bodies_of (source_in l.input))) (walks_in l.input.texts.now.styles.now l.walker) l.steps.steps;
  goes : after_all (source_in l.input) (walks_in l.input.texts.now.styles.now l.walker) l.steps.steps ≡ all_walked (source_in l.input);
  few : all_events (walks_in l.input.texts.now.styles.now l.walker) + 8 * length l.steps.steps ≤ 6400000;
  sound : AreSoundWalks l.walker;
}

abbrev pub decreases-loop-step : goal.decreases-loop-step
decreases-loop-step l = length l.steps.steps
