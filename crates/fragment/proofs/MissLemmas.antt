-- No later point of a page of a flow fits once the solids before one have no room.
use Rattle.std.proofs.Common.{◌≡◌, ◌≤◌, ◌+◌, ℕ, ℤ, pos, ◌≤ℤ◌, ◌+ℤ◌, Bool, List, ◌++◌, length, length-append, sym, ap, ◌∙◌, subst, arith}
use Rattle.std.proofs.lemmas.List.{length-map}
use Rattle.metrics.specs.Face.{FontFace}
use Rattle.boxes.specs.Tree.{Holds}
use Rattle.boxes.specs.declared.flow.Flow.{Flow}
use Rattle.boxes.specs.declared.frames.Frame.{Frame}
use Rattle.cuts.specs.declared.row.SolidRow.{SolidRow}
use Rattle.cuts.specs.Cuts.{HasMissedFrom, NoteLists}
use Rattle.cuts.specs.Rows.{rows_extent, rows_reach}
use Rattle.cuts.proofs.ReachLemmas.{misses_go_on}
use Rattle.notes.specs.declared.solid.NoteSolid.{NoteSolid}
use Rattle.notes.specs.Notes.{area_of, must_of}
use Rattle.note_list.specs.Calls.{called_before}
use Rattle.note_list.specs.Conditions.{AreCarried, CanBePaged}
use Rattle.note_list.specs.Lists.{called_parts, carried_parts, note_rows}
use Rattle.note_list.specs.declared.carried.Carried.{Carried}
use Rattle.note_list.specs.declared.solid.NotedSolid.{NotedSolid}
use Rattle.note_list.proofs.NotedLemmas.{noted_split, noted_unique}
use Rattle.page_list.specs.Cuts.{parts_after, rows_of}
use Rattle.page_list.specs.declared.cut.CutFrom.{CutFrom}
use Rattle.page_list.proofs.TailLemmas.{rest_tails}
use Rattle.fragment.specs.Misses.{NoLaterFits, NoLaterPointFits}
use Rattle.fragment.proofs.CallLemmas.{called_at}
use Rattle.fragment.proofs.CutLemmas.{list_at, lists, longer}

-- whether solids that reach so far leave room for some notes
abbrev Fitting : ℤ → ℤ → ℕ → List NoteSolid → Type 0
Fitting height reach c notes = (reach +ℤ area_of notes (must_of notes c)) ≤ℤ height

abbrev Loosely : ℤ → ℤ → ℕ → List NoteSolid → Type 0
Loosely height reach c notes = (reach +ℤ area_of notes c) ≤ℤ height

-- what misses of some notes misses of equal ones
missed_by : (kept : Bool) (rows : List SolidRow) (height : ℤ) (list other : NoteLists) (c j k : ℕ) → list j ≡ other j → list k ≡ other k → HasMissedFrom kept rows height list c j k → HasMissedFrom kept rows height other c j k
missed_by kept rows height list other c j k at_j at_k m = record {
  fits = λ miss fit. m.fits (λ f. miss (subst (Fitting height (rows_extent kept rows j) c) at_j f)) (subst (Fitting height (rows_reach kept rows k) c) (sym at_k) fit);
  loosely = λ miss fit. m.loosely (λ f. miss (subst (Loosely height (rows_extent kept rows j) c) at_j f)) (subst (Loosely height (rows_reach kept rows k) c) (sym at_k) fit);
  less = λ fit. subst (Loosely height (rows_reach kept rows j) c) at_j (m.less (subst (Fitting height (rows_reach kept rows j) c) (sym at_j) fit));
}

no_later : (faces : List FontFace) (flow : Flow) (frame : Frame) (from : CutFrom) (carried : List Carried) → CanBePaged faces flow → pos 0 ≤ℤ frame.width → Holds flow.main from.at → AreCarried flow from.at carried → NoLaterFits faces flow frame from carried
no_later faces flow frame from carried paged wide holds are solids list own c j k rem noted owned low order within =
    let zeroth = list_at faces flow frame from.at carried paged holds are solids rem 0 in
    let s = noted_split faces flow.notes frame.width (carried_parts carried) (called_parts (called_before flow.main flow.notes from.at) (called_at flow.main flow.notes solids 0)) zeroth.0 zeroth.1 in
    let own_is : s.0 ≡ own = noted_unique faces flow.notes frame.width (carried_parts carried) s.0 own s.2 owned in
    let size : length (lists faces flow frame from.at carried paged holds are solids rem 0) ≡ length own + length s.1 =
    length-map zeroth.0 (λ (n : NotedSolid). n.row) ∙ ap (λ (xs : List NotedSolid). length xs) (s.4 ∙ ap (λ (xs : List NotedSolid). xs ++ s.1) own_is) ∙ length-append own s.1 in
    let same : (n : ℕ) → n ≤ length solids → lists faces flow frame from.at carried paged holds are solids rem n ≡ note_rows (list n) =
    λ n h. ap note_rows (noted_unique faces flow.notes frame.width (parts_after flow from.at carried solids n) (list_at faces flow frame from.at carried paged holds are solids rem n).0 (list n) (list_at faces flow frame from.at carried paged holds are solids rem n).1 (noted n h)) in
    missed_by from.kept (rows_of flow.main solids) frame.height (lists faces flow frame from.at carried paged holds are solids rem) (λ n. note_rows (list n)) c j k (same j (omega arith)) (same k within)
    (misses_go_on from.kept (rows_of flow.main solids) frame.height (lists faces flow frame from.at carried paged holds are solids rem) c (rest_tails flow.main paged.main.is frame.width wide faces from.at solids rem) (longer faces flow frame from.at carried paged holds are solids rem) (omega arith) j k order)

pub no_later_point_fits : NoLaterPointFits
no_later_point_fits faces flow paged frame from carried good holds are = no_later faces flow frame from carried paged good.width_low holds are
