-- A page of the flow takes no more steps than it may look at lines that aren't known.
use Rattle.std.proofs.Common.{◌≡◌, ℕ, suc, ◌+◌, ◌-◌, ◌<◌, ◌≤◌, ◌⊎◌, inl, inr, ℤ, pos, ◌≤ℤ◌, Bool, true, false, None, cond, ltb, List, [], ◌∷◌, ◌++◌, length, drop, take, append_assoc, refl, sym, ap, ◌∙◌, subst, arith}
use Rattle.std.proofs.lemmas.Bool.{cases_lt}
use Rattle.std.proofs.lemmas.Int.{clamps, ints}
use Rattle.std.proofs.lemmas.List.{map-append}
use Rattle.metrics.specs.Face.{FontFace}
use Rattle.boxes.specs.Tree.{Holds}
use Rattle.boxes.specs.declared.flow.Flow.{Flow}
use Rattle.boxes.specs.declared.frames.Frame.{Frame}
use Rattle.seams.specs.Runs.{solid_after}
use Rattle.cursor.specs.Remainder.{SolidView}
use Rattle.cuts.specs.declared.row.SolidRow.{SolidRow}
use Rattle.cuts.specs.Rows.{limit_of, rows_bottom, rows_extent}
use Rattle.cuts.proofs.AppendLemmas.{extent-append, limit-grows}
use Rattle.cuts.proofs.PointLemmas.{limit_within}
use Rattle.cuts.proofs.ReachLemmas.{extent_low}
use Rattle.note_list.specs.Calls.{called_before}
use Rattle.note_list.specs.Conditions.{AreCarried, CanBePaged}
use Rattle.note_list.specs.Lists.{AreNoted, note_rows}
use Rattle.line_fill.specs.Kept.{Asked}
use Rattle.line_fill.specs.declared.kept.KeptLeaf.{KeptLeaf}
use Rattle.note_list.specs.Known.{new_in, new_noted, noted_lines}
use Rattle.note_list.specs.Short.{IsShortList}
use Rattle.note_list.specs.declared.carried.Carried.{Carried}
use Rattle.note_list.specs.declared.solid.NotedSolid.{NotedSolid}
use Rattle.page_list.specs.Cuts.{place_after, row_of, rows_of}
use Rattle.page_list.specs.Looked.{AreFewLines, IsReach, IsNoteReach, LooksAtFlow, flow_lines, most_widows, new_looked_in, new_looked_noted, note_lines, taken_of, up_to_line}
use Rattle.page_list.specs.declared.cut.CutFrom.{CutFrom}
use Rattle.page_list.proofs.LookedLemmas.{few_noted, new_few, new_few_noted, note_reach_exists, reach_exists}
use Rattle.fragment.specs.Reads.{AreRead, AreReadInside, IsPagePrefix, StepsForPage, parts_to}
use Rattle.fragment.specs.declared.page_notes.PageNotes.{PageNotes}
use Rattle.notes.specs.Notes.{area_of}
use Rattle.note_list.proofs.NotedLemmas.{noted_unique}
use Rattle.fragment.proofs.CutLemmas.{list_at, read_front}
use Rattle.fragment.proofs.PlaceLemmas.{before_end, by_all}

bottom_low : (kept : Bool) (rows : List SolidRow) (k : ℕ) → rows_bottom kept rows (suc k) ≤ℤ rows_extent kept rows (suc k)
bottom_low kept rows k = omega (arith, ints, clamps)

-- what stands inside the frame is within reach
reached : (kept : Bool) (rows : List SolidRow) (height : ℤ) (n count : ℕ) → IsReach kept rows height n → count ≤ limit_of rows → rows_extent kept rows count ≤ℤ height → count ≤ n
reached kept rows height n count reach within inside = by (cases_lt n count)
  where
    by : (n < count) ⊎ (count ≤ n) → count ≤ n
    by (inr h) = h
    by (inl h) =
        let below = reach.below (omega (arith, h, within)) in
        let low = bottom_low kept rows n in
        let up = extent_low kept rows (suc n) count (omega (arith, h)) in
        absurd (omega (arith, ints, below, low, up, inside))

taken_low : (solids : List SolidView) (rows : List SolidRow) (n : ℕ) → n ≤ taken_of solids rows n
taken_low solids rows n = by (ltb n (limit_of rows))
  where
    by : (b : Bool) → n ≤ cond b (n + up_to_line (drop n solids)) n
    by true = omega arith
    by false = omega arith

-- the notes that are read of a page's list have no more lines that aren't known than may be looked at
few_new : (known : Asked → Bool) (flow : Flow) (frame : Frame) (list items more : List NotedSolid) (n : ℕ) → list ≡ items ++ more → ((k : ℕ) → k < length items → area_of (note_rows items) k ≤ℤ frame.height) → IsNoteReach (note_rows list) frame.height n → new_noted known flow.notes frame.width items ≤ new_looked_noted known flow frame list n
few_new known flow frame list items more n is before reach =
    subst (λ (xs : List NotedSolid). new_noted known flow.notes frame.width items ≤ new_noted known flow.notes frame.width (take (note_lines list n) (noted_lines xs))) (sym is)
    (new_few_noted known flow.notes frame.width items more (note_lines list n) (few_noted frame.height list items more n is before reach))

module _ (faces : List FontFace) (flow : Flow) (frame : Frame) (from : CutFrom) (carried : List Carried) (paged : CanBePaged faces flow) (holds : Holds flow.main from.at) (are : AreCarried flow from.at carried) (high : pos 0 ≤ℤ frame.height)
    (views : List SolidView) (p : PageNotes) (room : ℤ) (f : IsPagePrefix faces flow.main frame from.at from.kept p.list.own p.areas.items room views) (r : AreReadInside faces flow frame from carried views p) (room_was : room ≡ area_of (note_rows r.read.own) p.list.own) where
  abbrev whole : List SolidView
  whole = views ++ f.rest

  abbrev rows : List SolidRow
  rows = rows_of flow.main whole

  rows_are : rows ≡ rows_of flow.main views ++ rows_of flow.main f.rest
  rows_are = map-append (row_of flow.main) views f.rest

  -- the solids with which notes are read are taken
  count_low : (n : ℕ) → IsReach from.kept rows frame.height n → r.count ≤ n
  count_low n reach =
      let grows : limit_of (rows_of flow.main views) ≤ limit_of rows = subst (λ (rs : List SolidRow). limit_of (rows_of flow.main views) ≤ limit_of rs) (sym rows_are) (limit-grows (rows_of flow.main views) (rows_of flow.main f.rest)) in
      let within = r.within in
      let most = limit_within (rows_of flow.main views) in
      let same : rows_extent from.kept rows r.count ≡ rows_extent from.kept (rows_of flow.main views) r.count = ap (λ (rs : List SolidRow). rows_extent from.kept rs r.count) rows_are ∙ extent-append from.kept (rows_of flow.main views) (rows_of flow.main f.rest) r.count (omega (arith, within, most)) in
      let inside = r.inside in
      reached from.kept rows frame.height n r.count reach (omega (arith, grows, within)) (omega (arith, ints, same, inside))

  pub looks_at : (kept : List KeptLeaf) (old new : ℕ) → AreFewLines faces flow.main frame from views → IsShortList frame.height p.list → StepsForPage flow frame.width kept views [] p.list.solids.items old new → LooksAtFlow faces flow frame from carried kept old new
  looks_at kept old new few short steps known held =
      let reach = reach_exists from.kept rows frame.height in
      let taken : ℕ = taken_of whole rows reach.0 in
      let list = list_at faces flow frame from.at carried paged holds are whole f.are taken in
      let note_reach = note_reach_exists (note_rows list.0) frame.height high in
      let low = taken_low whole rows reach.0 in
      let count = count_low reach.0 reach.1 in
      let later = read_front faces flow frame from carried paged holds are views p room f r room_was taken (omega (arith, low, count)) in
      let is : list.0 ≡ p.list.solids.items ++ (r.read.read.more ++ later.0) = later.1 ∙ ap (λ (xs : List NotedSolid). xs ++ later.0) r.read.read.is ∙ append_assoc p.list.solids.items r.read.read.more later.0 in
      let own : new_in known flow.main frame.width views ≤ new_looked_in known flow frame whole taken = new_few known flow.main frame.width views f.rest (flow_lines (most_widows flow.main) whole taken) (few f.rest reach.0 f.are reach.1) in
      let noted = few_new known flow frame list.0 p.list.solids.items (r.read.read.more ++ later.0) note_reach.0 is short.before note_reach.1 in
      let taken_steps = steps known held in (
        new_looked_in known flow frame whole taken + new_looked_noted known flow frame list.0 note_reach.0,
        record {
          solids = whole;
          rest = f.are;
          reach = reach.0;
          reaches = reach.1;
          list = list.0;
          listed = list.1;
          list_reach = note_reach.0;
          list_reaches = note_reach.1;
          lines_is = refl;
        },
        omega (arith, taken_steps, own, noted),
      )

-- ---- where no solid is left
module _ (faces : List FontFace) (flow : Flow) (frame : Frame) (from : CutFrom) (carried : List Carried) (paged : CanBePaged faces flow) (holds : Holds flow.main from.at) (are : AreCarried flow from.at carried) (high : pos 0 ≤ℤ frame.height)
    (end : solid_after flow.main from.at.event ≡ None) (p : PageNotes) (r : AreRead faces flow frame from.at carried (from.at ∷ []) p) where
  pub looks_end : (kept : List KeptLeaf) (old new : ℕ) → IsShortList frame.height p.list → StepsForPage flow frame.width kept [] [] p.list.solids.items old new → LooksAtFlow faces flow frame from carried kept old new
  looks_end kept old new short steps known held =
      let list = list_at faces flow frame from.at carried paged holds are [] end 0 in
      let all : p.called ≡ called_before flow.main flow.notes (place_after flow.main None) = r.called ∙ by_all flow.main flow.notes from.at end ∙ sym (before_end flow.main flow.notes) in
      let same : r.list ≡ list.0 = noted_unique faces flow.notes frame.width (parts_to flow from.at carried (called_before flow.main flow.notes (place_after flow.main None))) r.list list.0 (subst (λ (n : ℕ). AreNoted faces flow.notes frame.width (parts_to flow from.at carried n) r.list) all r.listed) list.1 in
      let note_reach = note_reach_exists (note_rows list.0) frame.height high in
      let noted = few_new known flow frame list.0 p.list.solids.items r.read.more note_reach.0 (sym same ∙ r.read.is) short.before note_reach.1 in
      let taken_steps = steps known held in (
        new_looked_in known flow frame [] 0 + new_looked_noted known flow frame list.0 note_reach.0,
        record {
          solids = [];
          rest = end;
          reach = 0;
          reaches = record { within = omega arith; inside = λ k h. absurd (omega (arith, h)); below = λ h. absurd (omega (arith, h)) };
          list = list.0;
          listed = list.1;
          list_reach = note_reach.0;
          list_reaches = note_reach.1;
          lines_is = refl;
        },
        omega (arith, taken_steps, noted),
      )
