-- A page is cut alike whether what is carried to it goes on at solids or at places before them.
use Rattle.std.proofs.Common.{◌++◌, [], ℕ, ℤ, List, slice_get, sym, subst}
use Rattle.std.proofs.lemmas.List.{append-nil}
use Rattle.metrics.specs.Face.{FontFace}
use Rattle.boxes.specs.declared.flow.Flow.{Flow}
use Rattle.boxes.specs.declared.frames.Frame.{Frame}
use Rattle.line_fill.specs.declared.kept.KeptLeaf.{KeptLeaf}
use Rattle.note_list.specs.Calls.{called_before}
use Rattle.note_list.specs.Lists.{AreNoted, NotePart, called_parts, carried_parts}
use Rattle.note_list.specs.declared.carried.Carried.{Carried}
use Rattle.note_list.specs.declared.solid.NotedSolid.{NotedSolid}
use Rattle.page_list.specs.Cuts.{IsFlowCut, place_after, rows_of}
use Rattle.page_list.specs.Looked.{LooksAtFlow, taken_of}
use Rattle.page_list.specs.declared.cut.Cut.{Cut}
use Rattle.page_list.specs.declared.cut.CutFrom.{CutFrom}

-- what has these lists has those
abbrev pub HasLists : List FontFace → Flow → List Carried → List Carried → Type 0
HasLists faces flow settled carried = (width : ℤ) (more : List NotePart) (list : List NotedSolid) → AreNoted faces flow.notes width (carried_parts settled ++ more) list → AreNoted faces flow.notes width (carried_parts carried ++ more) list

pub settled_cut : (faces : List FontFace) (flow : Flow) (frame : Frame) (from : CutFrom) (settled carried : List Carried) (cut : Cut) → HasLists faces flow settled carried → IsFlowCut faces flow frame from settled cut → IsFlowCut faces flow frame from carried cut
settled_cut faces flow frame from settled carried cut lists is = record {
  solids = is.solids;
  rest = is.rest;
  list = is.list;
  listed = λ j low. lists frame.width (called_parts (called_before flow.main flow.notes from.at) (called_before flow.main flow.notes (place_after flow.main (slice_get is.solids j)))) (is.list j) (is.listed j low);
  own = is.own;
  owned = subst (λ (ps : List NotePart). AreNoted faces flow.notes frame.width ps is.own) (append-nil (carried_parts carried))
      (lists frame.width [] is.own (subst (λ (ps : List NotePart). AreNoted faces flow.notes frame.width ps is.own) (sym (append-nil (carried_parts settled))) is.owned));
  c = is.c;
  carries = is.carries;
  count = is.count;
  within = is.within;
  best = is.best;
  number = is.number;
  places = is.places;
  to_is = is.to_is;
  ended_is = is.ended_is;
  forced_is = is.forced_is;
  solids_is = is.solids_is;
  notes_is = is.notes_is;
  carried_is = is.carried_is;
}

-- and may look at the same lines
pub settled_looks : (faces : List FontFace) (flow : Flow) (frame : Frame) (from : CutFrom) (settled carried : List Carried) (kept : List KeptLeaf) (old new : ℕ) → HasLists faces flow settled carried → LooksAtFlow faces flow frame from settled kept old new → LooksAtFlow faces flow frame from carried kept old new
settled_looks faces flow frame from settled carried kept old new lists looks known held =
    let q = looks known held in
    let is = q.1 in (
      q.0,
      record {
        solids = is.solids;
        rest = is.rest;
        reach = is.reach;
        reaches = is.reaches;
        list = is.list;
        listed = lists frame.width (called_parts (called_before flow.main flow.notes from.at) (called_before flow.main flow.notes (place_after flow.main (slice_get is.solids (taken_of is.solids (rows_of flow.main is.solids) is.reach))))) is.list is.listed;
        list_reach = is.list_reach;
        list_reaches = is.list_reaches;
        lines_is = is.lines_is;
      },
      q.2,
    )
