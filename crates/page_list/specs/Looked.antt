-- The lines that the cut of a page may look at. A page is cut where what stands before the cut fits, so nothing has to
-- be known of what comes far below its frame (css-break-3, 4.4; CSS 2.1, 13.3.2; css-gcpm-3, 2).
use Rattle.std.specs.Prelude.{◌≡◌, ℕ, suc, ℤ, ◌+◌, ◌<◌, ◌≤◌, ◌<ℤ◌, ◌≤ℤ◌, List, ◌++◌, Bool, true, false, length, map, max, min, nat_lt, take, drop, if◌then◌else◌}
use Rattle.std.specs.List.{fold, prefix_len}
use Rattle.metrics.specs.Face.{FontFace}
use Rattle.boxes.specs.Tree.{Tree}
use Rattle.boxes.specs.declared.flow.Flow.{Flow}
use Rattle.boxes.specs.declared.frames.Frame.{Frame}
use Rattle.boxes.specs.declared.page.SolidKind.{SolidKind}
use Rattle.boxes.specs.declared.page.SolidKind.TheVariants.{Line, OpenEdge, CloseEdge}
use Rattle.boxes.specs.declared.props.BoxProps.{BoxProps}
use Rattle.cursor.specs.Remainder.{IsRemainder, SolidView, steps_in}
use Rattle.cuts.specs.declared.row.SolidRow.{SolidRow}
use Rattle.cuts.specs.Rows.{limit_of, rows_bottom}
use Rattle.notes.specs.declared.solid.NoteSolid.{NoteSolid}
use Rattle.notes.specs.Notes.{area_of}
use Rattle.note_list.specs.Lists.{AreNoted, carried_parts, note_rows}
use Rattle.line_fill.specs.Kept.{Asked}
use Rattle.line_fill.specs.declared.kept.KeptLeaf.{KeptLeaf}
use Rattle.note_list.specs.Known.{AreKnown, lines_of, new_in, new_noted, noted_lines}
use Rattle.note_list.specs.Short.{lines_in}
use Rattle.note_list.specs.declared.carried.Carried.{Carried}
use Rattle.note_list.specs.declared.solid.NotedSolid.{NotedSolid}
use Rattle.page_list.specs.Cuts.{parts_after, rows_of}
use Rattle.page_list.specs.declared.cut.CutFrom.{CutFrom}

-- the most widows that a box of a tree asks for, 0 where it has none
abbrev pub most_widows : Tree → ℕ
most_widows t = fold max 0 (map (λ (p : BoxProps). p.widows) t.boxes)

-- the first n solids of a page end inside its frame; with n the first forced seam after the page's first solid is
-- reached, or the end, or a solid that ends below the frame
pub record IsReach (kept : Bool) (rows : List SolidRow) (height : ℤ) (n : ℕ) : Type 0 where
  pub within : n ≤ limit_of rows
  pub inside : (k : ℕ) → k < n → rows_bottom kept rows (suc k) ≤ℤ height
  pub below : n < limit_of rows → height <ℤ rows_bottom kept rows (suc n)

-- whether a solid is no line
abbrev pub is_edge : SolidKind → Bool
is_edge (OpenEdge b) = true
is_edge (CloseEdge b) = true
is_edge Line = false

-- whether some of the solids are lines
abbrev pub has_line : List SolidView → Bool
has_line solids = nat_lt 0 (steps_in solids)

-- how many solids stand up to and with the first line, none where there is no line
abbrev pub up_to_line : List SolidView → ℕ
up_to_line solids = if has_line solids then suc (prefix_len (λ s. is_edge s.kind) solids) else 0

-- how many of a page's solids are taken where n of them end inside its frame: these, and where the next one ends below
-- it, those up to and with the first line from that one on
abbrev pub taken_of : List SolidView → List SolidRow → ℕ → ℕ
taken_of solids rows n = if nat_lt n (limit_of rows) then n + up_to_line (drop n solids) else n

-- the lines of the solids that are taken, and one more than widows ask for, as far as there are any
abbrev pub flow_lines : ℕ → List SolidView → ℕ → ℕ
flow_lines widows solids taken = min (steps_in solids) (steps_in (take taken solids) + (widows + 1))

-- some first solids of a page have no more lines than the page may look at of its own
abbrev pub AreFewLines : List FontFace → Tree → Frame → CutFrom → List SolidView → Type 0
AreFewLines faces t frame from read = (rest : List SolidView) (n : ℕ) →
    IsRemainder faces t frame.width from.at (read ++ rest) →
    IsReach from.kept (rows_of t (read ++ rest)) frame.height n →
    steps_in read ≤ flow_lines (most_widows t) (read ++ rest) (taken_of (read ++ rest) (rows_of t (read ++ rest)) n)

-- with the first n solids of a list of notes their area isn't above a height; with n the end is reached, or a solid
-- with which it is
pub record IsNoteReach (list : List NoteSolid) (height : ℤ) (n : ℕ) : Type 0 where
  pub within : n ≤ length list
  pub inside : area_of list n ≤ℤ height
  pub above : n < length list → height <ℤ area_of list (suc n)

-- the lines of a list up to and with the first one behind n solids, and one more, as far as there are any
abbrev pub note_lines : List NotedSolid → ℕ → ℕ
note_lines list n = min (lines_in list) (lines_in (take n list) + 2)

-- how many lines of a list of notes a page may look at that aren't known: of the first lines
abbrev pub new_looked_noted : (Asked → Bool) → Flow → Frame → List NotedSolid → ℕ → ℕ
new_looked_noted known flow frame list reach =
    new_noted known flow.notes frame.width (take (note_lines list reach) (noted_lines list))

-- the same of the solids of a page, of which so many are taken
abbrev pub new_looked_in : (Asked → Bool) → Flow → Frame → List SolidView → ℕ → ℕ
new_looked_in known flow frame solids taken =
    new_in known flow.main frame.width (take (flow_lines (most_widows flow.main) solids taken) (lines_of solids))

-- how many lines a page of notes may look at that aren't known
pub record IsLookedNotes (faces : List FontFace) (flow : Flow) (frame : Frame) (carried : List Carried)
    (known : Asked → Bool) (lines : ℕ) : Type 0 where
  pub list : List NotedSolid
  pub listed : AreNoted faces flow.notes frame.width (carried_parts carried) list
  pub reach : ℕ
  pub reaches : IsNoteReach (note_rows list) frame.height reach
  pub lines_is : lines ≡ new_looked_noted known flow frame list reach

-- how many lines a page of a flow may look at that aren't known: of its own solids, and of the notes that are carried
-- to it and those that are called in the solids that are taken
pub record IsLookedFlow (faces : List FontFace) (flow : Flow) (frame : Frame) (from : CutFrom) (carried : List Carried)
    (known : Asked → Bool) (lines : ℕ) : Type 0 where
  pub solids : List SolidView
  pub rest : IsRemainder faces flow.main frame.width from.at solids
  pub reach : ℕ
  pub reaches : IsReach from.kept (rows_of flow.main solids) frame.height reach
  pub list : List NotedSolid
  pub listed : AreNoted faces flow.notes frame.width
      (parts_after flow from.at carried solids (taken_of solids (rows_of flow.main solids) reach)) list
  pub list_reach : ℕ
  pub list_reaches : IsNoteReach (note_rows list) frame.height list_reach
  pub lines_is : lines ≡ new_looked_in known flow frame solids (taken_of solids (rows_of flow.main solids) reach) +
      new_looked_noted known flow frame list list_reach

-- no more steps are taken than a page of notes may look at lines that aren't known, where known ones are held
abbrev pub LooksAtNotes : List FontFace → Flow → Frame → List Carried → List KeptLeaf → ℕ → ℕ → Type 0
LooksAtNotes faces flow frame carried kept old new = (known : Asked → Bool) → AreKnown known kept → (lines : ℕ) ×
    IsLookedNotes faces flow frame carried known lines × (new ≤ old + lines)

-- and no more than a page of a flow may
abbrev pub LooksAtFlow : List FontFace → Flow → Frame → CutFrom → List Carried → List KeptLeaf → ℕ → ℕ → Type 0
LooksAtFlow faces flow frame from carried kept old new = (known : Asked → Bool) → AreKnown known kept → (lines : ℕ) ×
    IsLookedFlow faces flow frame from carried known lines × (new ≤ old + lines)

-- a page of notes may look at one number of lines, and so may a page of a flow
pub record HaveOneLooked : Type 0 where
  pub noted : (faces : List FontFace) (flow : Flow) (frame : Frame) (carried : List Carried) (known : Asked → Bool)
      (m n : ℕ) → IsLookedNotes faces flow frame carried known m → IsLookedNotes faces flow frame carried known n →
      m ≡ n
  pub flows : (faces : List FontFace) (flow : Flow) (frame : Frame) (from : CutFrom) (carried : List Carried)
      (known : Asked → Bool) (m n : ℕ) → IsLookedFlow faces flow frame from carried known m →
      IsLookedFlow faces flow frame from carried known n → m ≡ n
