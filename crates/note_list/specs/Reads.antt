-- A list of notes that is read as far as a page of some height can use it.
use Rattle.std.specs.Prelude.{◌≡◌, ℤ, ◌≤◌, ◌<ℤ◌, ◌⊎◌, List, [], ◌++◌, Bool, true, false, length, map}
use Rattle.std.specs.List.{All, list_any}
use Rattle.bk_num.specs.Limits.{most_entries}
use Rattle.boxes.specs.Tree.{Tree}
use Rattle.boxes.specs.declared.flow.Note.{Note}
use Rattle.boxes.specs.declared.frames.Frame.{Frame}
use Rattle.cursor.specs.Remainder.{IsRemainder, SolidView}
use Rattle.metrics.specs.Face.{FontFace}
use Rattle.notes.specs.Notes.{IsCarryCount, IsSmallNote, area_of, must_of, note_bottom, note_extent}
use Rattle.note_list.specs.Conditions.{IsHeld}
use Rattle.note_list.specs.Lists.{AreNoted, NotePart, carried_parts, noted, note_rows}
use Rattle.note_list.specs.declared.carried.Carried.{Carried}
use Rattle.notes.specs.declared.reach.Reach.{Reach}
use Rattle.note_list.specs.declared.solid.NotedSolid.{NotedSolid}
use Rattle.note_list.specs.declared.list.NoteList.{NoteList}

-- how far solids reach
pub record HasReached (list : List NotedSolid) (r : Reach) : Type 0 where
  pub bottom : r.bottom ≡ note_bottom (note_rows list) (length list)
  pub extent : r.extent ≡ note_extent (note_rows list) (length list)

-- what is kept of the solids that are read: how far they reach, and the room of those that have to stand on the page
pub record IsReady (l : NoteList) : Type 0 where
  pub few : length l.solids.items ≤ most_entries
  pub small : All IsSmallNote (note_rows l.solids.items)
  pub reached : HasReached l.solids.items l.reach
  pub within : l.own ≤ length l.solids.items
  pub own_is : l.own_area ≡ area_of (note_rows l.solids.items) l.own
  pub needed_is : l.needed ≡ area_of (note_rows l.solids.items) (must_of (note_rows l.solids.items) l.own)

-- the solids that are read end at places of their notes' bodies
abbrev pub EndInNotes : List Note → NoteList → Type 0
EndInNotes notes l = All (λ s. IsHeld notes (record { note = s.note; at = s.end })) l.solids.items

-- the list of a page's notes is ready, and its solids end at places of their bodies
pub record IsPageList (notes : List Note) (l : NoteList) : Type 0 where
  pub ready : IsReady l
  pub ends : EndInNotes notes l

-- a list is ready, and has room for a solid more
pub record CanGrow (l : NoteList) : Type 0 where
  pub ready : IsReady l
  pub room : l.over ≡ false

-- whether a note that is called on the page begins with one of some solids
abbrev pub has_begin : List NotedSolid → Bool
has_begin list = list_any (λ s. s.row.begins) list

-- what is read of a list: all of it, or a prefix that takes more room than there is; and whether a called note begins
-- after it
pub record IsReadOf (height : ℤ) (list : List NotedSolid) (l : NoteList) : Type 0 where
  pub more : List NotedSolid
  pub is : list ≡ l.solids.items ++ more
  pub all : l.over ≡ false → more ≡ []
  pub past : l.over ≡ true → height <ℤ area_of (note_rows l.solids.items) (length l.solids.items)
  pub begun : l.begun ≡ has_begin more

-- enough is read of a list for some room: all of it, or a prefix that takes more
pub record IsReadFor (room : ℤ) (list : List NotedSolid) (l : NoteList) : Type 0 where
  pub more : List NotedSolid
  pub is : list ≡ l.solids.items ++ more
  pub enough : (more ≡ []) ⊎ (room <ℤ area_of (note_rows l.solids.items) (length l.solids.items))

-- a note is read on, from a place of its body, where the list had room: all of it, or a prefix that takes more than
-- there is, and no called note begins after it
pub record HasReadOn (faces : List FontFace) (body : Tree) (width height : ℤ) (p : NotePart) (old new : NoteList) : Type
    0 where
  pub solids : List SolidView
  pub rest : IsRemainder faces body width p.at solids
  pub more : List NotedSolid
  pub is : old.solids.items ++ map (noted body p) solids ≡ new.solids.items ++ more
  pub all : new.over ≡ false → more ≡ []
  pub past : new.over ≡ true → height <ℤ area_of (note_rows new.solids.items) (length new.solids.items)
  pub none : has_begin more ≡ false

-- the list of what is carried to a page of a frame, read, and how many of its solids have to stand on the page
pub record IsCarriedList (faces : List FontFace) (notes : List Note) (frame : Frame) (carried : List Carried)
    (l : NoteList) : Type 0 where
  pub list : List NotedSolid
  pub listed : AreNoted faces notes frame.width (carried_parts carried) list
  pub read : IsReadOf frame.height list l
  pub counts : IsCarryCount (note_rows list) (length list) frame.height l.own
