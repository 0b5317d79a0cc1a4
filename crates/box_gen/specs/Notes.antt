-- Which notes a flow has, what holds of them, and its sizes (css-gcpm-3, 2).
use Rattle.std.specs.Prelude.{◌≡◌, ◌≤◌, ℕ, ◌+◌, List, [], ◌∷◌, ◌++◌, filter, length, map}
use Rattle.std.specs.List.{sum_by}
use Rattle.bk_num.specs.Limits.{most_open}
use Rattle.boxes.specs.Clones.{AreSliced}
use Rattle.boxes.specs.declared.flow.Flow.{Flow}
use Rattle.boxes.specs.declared.flow.Note.{Note}
use Rattle.boxes.specs.declared.flow.Start.{Start}
use Rattle.boxes.specs.Tree.{IsTree, IsWhole, Tree, depth_of}
use Rattle.metrics.specs.Face.{FontFace}
use Rattle.style.specs.declared.style.Style.{Style}
use Rattle.box_gen.specs.Faces.{AreFaced}
use Rattle.box_gen.specs.Flow.{Built, body_in, built_of}
use Rattle.box_gen.specs.Sites.{leaf_bytes}
use Rattle.box_gen.specs.Trees.{Source, Forest, none, node, forest_of, in_note, is_note_element, Role, text, hidden, inline, block, note, role_of}

-- ---- which notes there are

-- a note element that is shown: its number, its style, and what is below it
pub record NoteElement : Type 0 where
  pub number : ℕ
  pub style : Style
  pub inside : Forest

-- the note element that a node is, else those below it
abbrev pub node_notes : ℕ → Role → Forest → List NoteElement → List NoteElement
node_notes n hidden kids below = []
node_notes n (text t) kids below = []
node_notes n (inline u) kids below = below
node_notes n (block u) kids below = below
node_notes n (note u) kids below = record { number = n; style = u; inside = kids } ∷ []

-- the note elements that are shown among nodes, in tree order: an element in a note is none
unfoldable pub notes_in : Source → Forest → List NoteElement
notes_in src none = []
notes_in src (node n kids more) = node_notes n (role_of src n) kids (notes_in src kids) ++ notes_in src more

-- the note elements of a document that are shown, in tree order
abbrev pub note_elements : Source → List NoteElement
note_elements src = notes_in src (forest_of src.nodes)

-- what a note element builds
abbrev pub note_built : Source → NoteElement → Built
note_built src e = body_in (in_note src) e.style e.number e.inside

-- its tree
abbrev pub note_tree : Source → NoteElement → Tree
note_tree src e = (note_built src e).tree

-- where note elements begin in the main tree, which is where they are called
abbrev pub note_places : Source → List Start
note_places src = filter (λ a. is_note_element src a.node.0) (built_of src).starts

-- the notes of a flow are those of the note elements that are shown, one each, in tree order: each is called where its
-- element begins in the main tree, and its body is the tree of its element
pub record AreNotesOf (src : Source) (notes : List Note) : Type 0 where
  pub elements : map (λ a. a.node.0) (note_places src) ≡ map (λ e. e.number) (note_elements src)
  pub calls : map (λ n. n.call) notes ≡ map (λ a. a.at) (note_places src)
  pub bodies : map (λ n. n.body) notes ≡ map (note_tree src) (note_elements src)

-- ---- what holds of them

-- the body of a note is whole, has at most as many open boxes as a tree may have, its faces are there, and the edges of
-- its boxes never stand again
pub record IsGoodBody (faces : List FontFace) (n : Note) : Type 0 where
  pub tree : IsTree n.body
  pub whole : IsWhole n.body.events
  pub depth : depth_of n.body.events ≤ most_open
  pub faced : AreFaced faces n.body.leaves
  pub sliced : AreSliced n.body.boxes

-- the bytes of the leaves of a flow, those of its notes among them
abbrev pub bytes_in : Flow → ℕ
bytes_in flow = leaf_bytes flow.main.leaves + sum_by (λ n. leaf_bytes n.body.leaves) flow.notes

-- the events of its trees
abbrev pub events_in : Flow → ℕ
events_in flow = length flow.main.events + sum_by (λ n. length n.body.events) flow.notes
