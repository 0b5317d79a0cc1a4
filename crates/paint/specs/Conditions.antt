-- What is asked of a flow that is painted.
use Rattle.std.specs.Prelude.{◌≡◌, ℕ, ◌<◌, ◌≤◌, List, Some, length, slice_get}
use Rattle.std.specs.List.{All}
use Rattle.bk_num.specs.Limits.{most_open}
use Rattle.metrics.specs.Face.{FontFace}
use Rattle.boxes.specs.Clones.{AreSliced}
use Rattle.boxes.specs.Tree.{Tree, depth_of}
use Rattle.boxes.specs.declared.flow.Flow.{Flow}
use Rattle.boxes.specs.declared.flow.Note.{Note}
use Rattle.boxes.specs.declared.leaf.Leaf.{Leaf as LeafData}
use Rattle.line_place.specs.Conditions.{HasFaces}
use Rattle.paint.specs.Bounds.{IsGoodOrigin}
use Rattle.paint.specs.Opens.{AreOpen}
use Rattle.paint.specs.Views.{HaveItemFaces}
use Rattle.paint.specs.declared.item.Canvas.{Canvas}
use Rattle.paint.specs.declared.item.ItemRef.{ItemRef}
use Rattle.paint.specs.declared.opens.PlacedBox.{PlacedBox}

-- the faces of a leaf and of its markers are there
pub record IsFaced (faces : List FontFace) (leaf : LeafData) : Type 0 where
  pub leaf_faces : HasFaces faces leaf
  pub lead_faces : All (λ lead. lead.span.face.0 < length faces) leaf.leads

-- no more boxes are open at once than a tree may have, and all faces are there
pub record CanBePainted (faces : List FontFace) (t : Tree) : Type 0 where
  pub depth : depth_of t.events ≤ most_open
  pub faced : (l : ℕ) (leaf : LeafData) → slice_get t.leaves l ≡ Some leaf → IsFaced faces leaf

-- the bodies of notes can be painted
abbrev pub CanNotesBePainted : List FontFace → List Note → Type 0
CanNotesBePainted faces notes = (n : ℕ) (note : Note) → slice_get notes n ≡ Some note → CanBePainted faces note.body

-- so can its main tree and the bodies of its notes, and no box of these bodies stands again
pub record CanFlowBePainted (faces : List FontFace) (flow : Flow) : Type 0 where
  pub main : CanBePainted faces flow.main
  pub notes : CanNotesBePainted faces flow.notes
  pub sliced : All (λ note. AreSliced note.body.boxes) flow.notes

-- items can be added on a canvas at an event: solids stand from a good origin, the boxes that are open there are known,
-- and the faces of the items so far are there
pub record CanPaintAt (canvas : Canvas) (at : ℕ) (opens : List PlacedBox) (items : List ItemRef) : Type 0 where
  pub origin : IsGoodOrigin canvas.origin
  pub boxes : AreOpen canvas.tree.now canvas.origin at opens
  pub faces : HaveItemFaces canvas.faces.now items
