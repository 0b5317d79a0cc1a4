-- The walk over the bodies of notes, beside that over the main tree, which passes over the notes.
use Rattle.std.specs.Prelude.{◌≡◌, ℕ, ◌==◌, Bool, true, false, List, [], ◌∷◌, ◌++◌, Option, None, Some, if◌then◌else◌}
use Rattle.dom.specs.Nodes.{IsTree}
use Rattle.dom.specs.Walk.{node_of, steps_of}
use Rattle.dom.specs.declared.walk.Step.{Step}
use Rattle.dom.specs.declared.walk.Step.TheVariants.{Enter, Leave}
use Rattle.style.specs.declared.style.Style.{Style}
use Rattle.style.specs.Styles.{initial_style}
use Rattle.box_gen.specs.Flow.{Built, bodies_of, built_of, last_items, note_first_items, note_root, nothing, with_run}
use Rattle.box_gen.specs.Gather.{adds, ended, make}
use Rattle.box_gen.specs.Steps.{CanEnd, CanStep}
use Rattle.box_gen.specs.Trees.{Source, in_note, Role, text, hidden, inline, block, note, role_of}
use Rattle.box_gen.specs.Walk.{Walk, after_step, innermost, walk, walked}

-- what is kept of notes: the walk in the body of the one in which the walk is, and the bodies before it
pub record Noted : Type 0 where
  pub body : Option Walk
  pub bodies : List Built

-- the same from its parts
abbrev pub noted : Option Walk → List Built → Noted
noted body bodies = record { body = body; bodies = bodies }

-- the walks over the main tree and over the notes
pub record Walks : Type 0 where
  pub main : Walk
  pub notes : Noted

-- the same from its parts
abbrev pub walks : Walk → Noted → Walks
walks main notes = record { main = main; notes = notes }

-- a note begins: its root is open
abbrev pub note_begun : Source → ℕ → Style → Walk
note_begun src n u = walk (make (note_root n u) (note_first_items src u n)) (u ∷ []) None

-- the walk that a node begins: a note its own, and another node none
abbrev pub body_at : Source → ℕ → Role → Option Walk
body_at src n hidden = None
body_at src n (text t) = None
body_at src n (inline u) = None
body_at src n (block u) = None
body_at src n (note u) = Some (note_begun (in_note src) n u)

-- a note ends: its last run is put, and its root closed
abbrev pub note_ended : Source → ℕ → Walk → Built
note_ended src n b = (ended src (innermost b.blocks) (adds (last_items src n) b.gathered)).built

-- whether a step leads out of the element that is passed over
abbrev pub is_end : Option ℕ → Step → Bool
is_end None s = false
is_end (Some h) (Enter n) = false
is_end (Some h) (Leave n) = h == n.0

-- the note that a step outside notes begins
abbrev pub outside : Source → Option ℕ → Step → Option Walk
outside src None (Enter n) = body_at src n.0 (role_of src n.0)
outside src (Some h) (Enter n) = None
outside src over (Leave n) = None

-- the notes after a step, where the walk over the main tree passes over an element or not: in a note, the step is one
-- of its body
abbrev pub notes_after : Source → Option ℕ → Option Walk → List Built → Step → Noted
notes_after src over None bodies s = noted (outside src over s) bodies
notes_after src over (Some b) bodies s =
    if is_end over s then noted None (bodies ++ note_ended (in_note src) (node_of s) b ∷ [])
    else noted (Some (after_step (in_note src) b s)) bodies

-- both walks after a step
abbrev pub after_both : Source → Walks → Step → Walks
after_both src v s = walks (after_step src v.main s) (notes_after src v.main.unshown v.notes.body v.notes.bodies s)

-- both walks after some steps
abbrev pub after_all : Source → Walks → List Step → Walks
after_all src v [] = v
after_all src v (s ∷ steps) = after_all src (after_both src v s) steps

-- the walks before the first step, and over a whole document
abbrev pub walks_start : Walks
walks_start = walks (walk (make nothing []) [] None) (noted None [])

-- both walks over a whole document
abbrev pub all_walked : Source → Walks
all_walked src = after_all src walks_start (steps_of src.nodes)

-- ---- what steps ask

-- a step in a note may be taken, where it ends the note or not
abbrev pub CanInNote : Source → Walk → Step → Bool → Type 0
CanInNote src b s true = CanEnd src (innermost b.blocks) (adds (last_items src (node_of s)) b.gathered)
CanInNote src b s false = CanStep src b s

-- a step in a note may be taken
abbrev pub CanNotes : Source → Option ℕ → Option Walk → Step → Type 0
CanNotes src over None s = Unit {0}
CanNotes src over (Some b) s = CanInNote (in_note src) b s (is_end over s)

-- ---- law

-- the walks over a document, with a stack of open blocks each and no look ahead, build its main tree and the bodies of
-- its notes
pub record AreBuilt (src : Source) : Type 0 where
  pub main : built_of src ≡ with_run src initial_style true (walked src).gathered.built (walked src).gathered.run
  pub same : (all_walked src).main ≡ walked src
  pub notes : (all_walked src).notes ≡ noted None (bodies_of src)

-- law: the walks over every document build its main tree and the bodies of its notes
abbrev pub WalkBuildsFlow : Type 0
WalkBuildsFlow = (src : Source) → IsTree src.nodes → AreBuilt src
