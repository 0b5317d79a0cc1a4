-- What holds of each state of a page list.
use Rattle.std.proofs.Common.{◌≡◌, ◌≤◌, ◌==◌, ℕ, Bool, true, List, ◌++◌, None, length, slice_get, sym, ap, ◌∙◌, subst, arith}
use Rattle.std.proofs.lemmas.Bool.Decides.{nat_tests}
use Rattle.std.proofs.lemmas.List.Elements.{All-nil}
use Rattle.std.proofs.lemmas.Option.{slice_get_past}
use Rattle.metrics.specs.Face.{FontFace}
use Rattle.boxes.specs.declared.flow.Flow.{Flow}
use Rattle.boxes.specs.declared.frames.Frame.{Frame}
use Rattle.boxes.specs.declared.frames.PageKind.TheVariants as kind
use Rattle.boxes.specs.declared.page.Page.{Page}
use Rattle.boxes.specs.declared.place.Position.{Position}
use Rattle.cursor.specs.Remainder.{SolidView}
use Rattle.cursor.proofs.RemLemmas.{Stands}
use Rattle.note_list.specs.Calls.{called_before}
use Rattle.note_list.specs.Conditions.{CanBePaged, IsAtSolid}
use Rattle.note_list.specs.Lists.{carried_parts, called_parts}
use Rattle.page_list.specs.Cuts.{IsFlowCut, parts_after, place_after}
use Rattle.boxes.specs.Frames.{PageFrames}
use Rattle.page_list.specs.Pages.{IsStep, State, name_at, start_of}
use Rattle.page_list.specs.Pages.IsStep.{blank, flows, noted}
use Rattle.page_list.specs.declared.cut.Cut.{Cut}
use Rattle.page_list.proofs.CallLemmas.{called_more, called_within}
use Rattle.page_list.proofs.CarriedLemmas.{AreTrees, Kept, Rise, are_trees, left_kept, rise_append, rise_called}
use Rattle.page_list.proofs.NextLemmas.{after_stands, start_stands}

-- a page list stands at a place of the main tree, carries notes that are called before it, in order, and ends at the tree's end
pub record Stays (flow : Flow) (s : State) : Type 0 where
  pub stands : Stands flow.main s.at
  pub kept : Kept flow.notes 0 (called_before flow.main flow.notes s.at) s.carried
  pub done : s.done ≡ true → s.at ≡ place_after flow.main None

pub stays_start : (flow : Flow) → Stays flow (start_of flow.main)
stays_start flow = record {
  stands = start_stands flow.main;
  kept = record { rise = omega arith; solids = All-nil (IsAtSolid flow.notes) };
  done = λ h. absurd (cc);
}

-- where all solids are placed, a cut leaves off at the tree's end
pub none_left : (solids : List SolidView) (count : ℕ) → (count == length solids) ≡ true → slice_get solids count ≡ None
none_left solids count e = slice_get_past solids count (grind (arith, nat_tests))

module _ (faces : List FontFace) (flow : Flow) (can : CanBePaged faces flow) where
  pub trees : AreTrees flow.notes
  trees = are_trees faces flow.notes can.notes

  -- ---- a cut of the flow
  module _ (frame : Frame) (kept : Bool) (s : State) (cut : Cut) (st : Stays flow s) (is : IsFlowCut faces flow frame (record { at = s.at; kept = kept }) s.carried cut) where
    pub cut_stands : Stands flow.main cut.to
    cut_stands = subst (Stands flow.main) (sym is.to_is) (after_stands faces flow.main frame.width can.main.is s.at is.solids is.count st.stands is.rest)

    pub cut_calls : called_before flow.main flow.notes s.at ≤ called_before flow.main flow.notes cut.to
    cut_calls = subst (λ (p : Position). called_before flow.main flow.notes s.at ≤ called_before flow.main flow.notes p) (sym is.to_is)
        (called_more faces flow.main frame.width flow.notes s.at is.solids is.count can.main.is st.stands is.rest)

    -- the parts of its list ascend, up to the notes that are called before it
    pub cut_rise : Rise flow.notes 0 (called_before flow.main flow.notes cut.to) (parts_after flow s.at s.carried is.solids is.count)
    cut_rise = subst (λ (p : Position). Rise flow.notes 0 (called_before flow.main flow.notes cut.to) (carried_parts s.carried ++ called_parts (called_before flow.main flow.notes s.at) (called_before flow.main flow.notes p))) is.to_is
        (rise_append flow.notes 0 (called_before flow.main flow.notes s.at) (called_before flow.main flow.notes cut.to) (carried_parts s.carried) (called_parts (called_before flow.main flow.notes s.at) (called_before flow.main flow.notes cut.to)) st.kept.rise
        (rise_called flow.notes (called_before flow.main flow.notes s.at) (called_before flow.main flow.notes cut.to) cut_calls (called_within flow.main flow.notes cut.to)))

    pub cut_kept : Kept flow.notes 0 (called_before flow.main flow.notes cut.to) cut.carried
    cut_kept = subst (Kept flow.notes 0 (called_before flow.main flow.notes cut.to)) (sym is.carried_is)
        (left_kept faces flow.notes frame.width trees 0 (called_before flow.main flow.notes cut.to) (parts_after flow s.at s.carried is.solids is.count) (is.list is.count) cut_rise (is.listed is.count is.within) is.number)

    pub cut_ended : cut.ended ≡ true → cut.to ≡ place_after flow.main None
    cut_ended e = is.to_is ∙ ap (place_after flow.main) (none_left is.solids is.count (sym is.ended_is ∙ e))

  -- ---- a step
  pub stays_step : (frames : PageFrames) (s : State) (p : Page) (u : State) → Stays flow s → IsStep faces flow frames s p u → Stays flow u
  stays_step frames s p u st (blank going misses p_is u_is) = subst (Stays flow) (sym u_is) (record { stands = st.stands; kept = st.kept; done = st.done })
  stays_step frames s p u st (flows going meets cut is p_is u_is) =
      let f : Frame = frames.frame_of s.index (name_at flow.main s.at) kind.Flow in
      subst (Stays flow) (sym u_is) (record { stands = cut_stands f s.kept s cut st is; kept = cut_kept f s.kept s cut st is; done = cut_ended f s.kept s cut st is })
  stays_step frames s p u st (noted done some notes left is p_is u_is) =
      let f : Frame = frames.frame_of s.index s.name kind.Notes in
      subst (Stays flow) (sym u_is) (record {
        stands = st.stands;
        kept = subst (Kept flow.notes 0 (called_before flow.main flow.notes s.at)) (sym is.left_is) (left_kept faces flow.notes f.width trees 0 (called_before flow.main flow.notes s.at) (carried_parts s.carried) is.list st.kept.rise is.listed is.number);
        done = st.done;
      })
