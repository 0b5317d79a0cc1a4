-- Each step of a walk may be taken.
use Rattle.std.specs.Prelude.{◌≡◌, List, [], ◌∷◌}
use Rattle.dom.specs.declared.walk.Step.{Step}
use Rattle.box_gen.specs.Bodies.{Noted, Walks, CanNotes, after_both}
use Rattle.box_gen.specs.Sources.{AreInRange}
use Rattle.box_gen.specs.Steps.{CanStep}
use Rattle.box_gen.specs.Trees.{Source}
use Rattle.box_gen.specs.Walk.{Walk, after_step}

-- each step may be taken, and something holds after the last one
abbrev pub CanTo : Source → (Walk → Type 0) → Walk → List Step → Type 0
CanTo src End w [] = End w
CanTo src End w (s ∷ steps) = CanStep src w s × CanTo src End (after_step src w s) steps

-- no run waits
abbrev pub EndsPut : Walk → Type 0
EndsPut w = w.gathered.run ≡ []

-- each step may be taken, and after the last one no run waits
abbrev pub CanWalk : Source → Walk → List Step → Type 0
CanWalk src w steps = CanTo src EndsPut w steps

-- each step in a note may be taken, where styles are in range, and after the last step the notes are these
abbrev pub CanAll : Source → Noted → Walks → List Step → Type 0
CanAll src end v [] = v.notes ≡ end
CanAll src end v (s ∷ steps) =
    (AreInRange src.styles → CanNotes src v.main.unshown v.notes.body s) × CanAll src end (after_both src v s) steps
