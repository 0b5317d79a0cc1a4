-- What is asked of a flow that is cut into pages, and of what is carried to a page.
use Rattle.std.specs.Prelude.{◌≡◌, ℕ, suc, ◌+◌, ◌<◌, ◌≤◌, List, [], ◌∷◌, Option, None, Some, length, map, slice_get}
use Rattle.std.specs.List.{All}
use Rattle.bk_num.specs.Limits.{most_entries, most_text_bytes}
use Rattle.metrics.specs.Face.{FontFace}
use Rattle.boxes.specs.Clones.{AreSliced}
use Rattle.boxes.specs.Tree.{Tree, IsTree, Holds}
use Rattle.boxes.specs.declared.flow.Flow.{Flow}
use Rattle.boxes.specs.declared.flow.Note.{Note}
use Rattle.boxes.specs.declared.leaf.Leaf.{Leaf as LeafData}
use Rattle.boxes.specs.declared.place.Event.{Event}
use Rattle.boxes.specs.declared.place.Event.TheVariants.{Opens, Closes, Leaf}
use Rattle.boxes.specs.declared.place.Position.{Position}
use Rattle.cursor.specs.Conditions.{CanBeLaidOut}
use Rattle.page_seq.specs.Places.{NeverFall}
use Rattle.seams.specs.Runs.{solid_after}
use Rattle.note_list.specs.Calls.{called_before}
use Rattle.note_list.specs.declared.carried.Carried.{Carried}

-- the bytes of a leaf, 0 where none is
abbrev pub size_of : Option LeafData → ℕ
size_of None = 0
size_of (Some leaf) = length leaf.text

-- the bytes of the leaves among events
abbrev pub text_size : List LeafData → List Event → ℕ
text_size leaves [] = 0
text_size leaves (Opens b ∷ es) = text_size leaves es
text_size leaves (Closes b ∷ es) = text_size leaves es
text_size leaves (Leaf l ∷ es) = size_of (slice_get leaves l) + text_size leaves es

-- a tree, made as trees are, that can be laid out, and has no more text than a tree may have
pub record CanBeCut (faces : List FontFace) (t : Tree) : Type 0 where
  pub is : IsTree t
  pub tree : CanBeLaidOut faces t
  pub bytes : text_size t.leaves t.events ≤ most_text_bytes

-- a flow whose main tree and whose notes' bodies can be cut, with its notes in the order of their calls. No box of a
-- note's body stands again where a page parts it
pub record CanBePaged (faces : List FontFace) (flow : Flow) : Type 0 where
  pub main : CanBeCut faces flow.main
  pub notes : All (λ n. CanBeCut faces n.body) flow.notes
  pub sliced : All (λ n. AreSliced n.body.boxes) flow.notes
  pub calls : NeverFall (map (λ n. n.call) flow.notes)
  pub count : length flow.notes ≤ most_entries

-- what is carried names a note, and a place that its body holds
pub record IsHeld (notes : List Note) (c : Carried) : Type 0 where
  pub note : Note
  pub has : slice_get notes c.note ≡ Some note
  pub holds : Holds note.body c.at

-- it goes on at a solid of its note
pub record IsAtSolid (notes : List Note) (c : Carried) : Type 0 where
  pub note : Note
  pub has : slice_get notes c.note ≡ Some note
  pub solid : solid_after note.body c.at.event ≡ Some c.at.event

-- the numbers of the notes ascend
abbrev pub NotesAscend : List Carried → Type 0
NotesAscend carried = (k : ℕ) (a b : Carried) → slice_get carried k ≡ Some a → slice_get carried (suc k) ≡ Some b →
    a.note < b.note

-- what is carried to a page that begins at a place: notes that are called before it, each once and in order, each from
-- a place of its body
pub record AreCarried (flow : Flow) (at : Position) (carried : List Carried) : Type 0 where
  pub held : All (IsHeld flow.notes) carried
  pub called : All (λ c. c.note < called_before flow.main flow.notes at) carried
  pub order : NotesAscend carried
