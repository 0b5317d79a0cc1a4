-- The walks over a document, as the code keeps them.
use Rattle.std.specs.Prelude.{◌≡◌, ℕ, ◌+◌, List, Option, None, Some, IsSome, length, map, option_map, if◌then◌else◌}
use Rattle.std.specs.List.{All, sum_by}
use Rattle.std.specs.Option.{ForSome}
use Rattle.bk_num.specs.Limits.{most_events, most_text_bytes}
use Rattle.boxes.specs.Tree.{IsTree}
use Rattle.dom.specs.Walk.{node_of}
use Rattle.dom.specs.declared.walk.Step.{Step}
use Rattle.style.specs.Nodes.{NodeStyles}
use Rattle.box_gen.specs.declared.builder.FlowBuilder.{FlowBuilder}
use Rattle.box_gen.specs.declared.notes.Walker.{Walker}
use Rattle.box_gen.specs.declared.put.Site.{Site}
use Rattle.box_gen.specs.Bodies.{Walks, is_end, note_ended, noted, walks}
use Rattle.box_gen.specs.Flow.{Built}
use Rattle.box_gen.specs.Sites.{IsWithinRoom, built_in, leaf_bytes}
use Rattle.box_gen.specs.Steps.{walk_in}
use Rattle.box_gen.specs.Trees.{Source, in_note}
use Rattle.box_gen.specs.Walk.{Walk, after_step}

-- the walk in the body of a note, as the definitions have it
abbrev pub body_in : List NodeStyles → Option FlowBuilder → Option Walk
body_in styles b = option_map (λ b. walk_in styles b) b

-- the element that a walk passes over
abbrev pub over_in : FlowBuilder → Option ℕ
over_in main = option_map (λ n. n.0) main.unshown

-- the walks that a walker has come to
abbrev pub walks_in : List NodeStyles → Walker → Walks
walks_in styles w = walks (walk_in styles w.main) (noted (body_in styles w.body) (map built_in w.bodies.items))

-- ---- sizes

-- the bytes of all leaves
abbrev pub body_bytes : Option Walk → ℕ
body_bytes None = 0
body_bytes (Some b) = leaf_bytes b.gathered.built.tree.leaves

-- the bytes of the leaves of bodies
abbrev pub bodies_bytes : List Built → ℕ
bodies_bytes bodies = sum_by (λ b. leaf_bytes b.tree.leaves) bodies

-- the bytes of the leaves of the main tree and of all bodies
abbrev pub all_bytes : Walks → ℕ
all_bytes v = (leaf_bytes v.main.gathered.built.tree.leaves + body_bytes v.notes.body) + bodies_bytes v.notes.bodies

-- the events of a tree that is there
abbrev pub body_events : Option Walk → ℕ
body_events None = 0
body_events (Some b) = length b.gathered.built.tree.events

-- the events of the main tree and of all bodies
abbrev pub all_events : Walks → ℕ
all_events v = (length v.main.gathered.built.tree.events + body_events v.notes.body) +
    sum_by (λ b. length b.tree.events) v.notes.bodies

-- the bytes of the body that a step in a note ends, or goes on with
abbrev pub body_bytes_after : Source → Option ℕ → Walk → Step → ℕ
body_bytes_after src over b s =
    if is_end over s then leaf_bytes (note_ended (in_note src) (node_of s) b).tree.leaves
    else leaf_bytes (after_step (in_note src) b s).gathered.built.tree.leaves

-- the body of the note that the walk over the main tree passes over has what that tree leaves of its room
pub record IsBody (main b : FlowBuilder) : Type 0 where
  pub over : IsSome main.unshown
  pub within : IsWithinRoom b.site
  pub bytes : b.site.room.bytes + main.site.bytes ≡ main.site.room.bytes
  pub events : b.site.room.events + length main.site.tree.events ≡ main.site.room.events

-- the main tree and the bodies have as many bytes and events as a flow may have, together
pub record AreShared (main : Site) (bodies : List Site) : Type 0 where
  pub within : IsWithinRoom main
  pub bytes : main.room.bytes + sum_by (λ s. leaf_bytes s.tree.leaves) bodies ≡ most_text_bytes
  pub events : main.room.events + sum_by (λ s. length s.tree.events) bodies ≡ most_events
  pub trees : All (λ s. IsTree s.tree) bodies

-- the main tree and the bodies share the room of a flow, that of the note in which the walk is among them
pub record AreSoundWalks (w : Walker) : Type 0 where
  pub shared : AreShared w.main.site w.bodies.items
  pub body : ForSome w.body (IsBody w.main)
